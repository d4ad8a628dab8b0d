-- What an object has once a member is put to those before.
use Rattle.std.proofs.Common.{◌≡◌, List, ℕ, Some, sym, ap, subst, ◌∙◌}
use Rattle.json.specs.Token.{Token}
use Rattle.serde_json.specs.Data.{Data, Members, object, put}
use Rattle.serde_json.specs.Find.{get}
use Rattle.serde_json.proofs.Views.{get_member-put, get_member-put_other}
use Rattle.json_bodies.specs.Walks.{Reads, ReadsItems, ReadsMembers}

pub get_here : (k l : List ℕ) (d : Data) (found : Members) → k ≡ l → get l (object (put k d found)) ≡ Some d
get_here k l d found same = ap (λ key. get key (object (put k d found))) (sym same) ∙ get_member-put k d found

pub get_other : (k l : List ℕ) (d : Data) (found : Members) → ¬ (k ≡ l) → get l (object (put k d found)) ≡ get l (object found)
get_other k l d found apart = get_member-put_other l k d found (λ e. apart (sym e))

pub reads_so : (P Q : Data → Type 0) (depth : ℕ) (old new : List Token) → ((d : Data) → P d → Q d) → Reads P depth old new → Reads Q depth old new
reads_so P Q depth old new so reads = record { value = reads.value; read = reads.read; said = so reads.value reads.said }

pub members_so : (P Q : Members → Type 0) (depth : ℕ) (old new : List Token) → ((ms : Members) → P ms → Q ms) → ReadsMembers P depth old new
    → ReadsMembers Q depth old new
members_so P Q depth old new so reads = record { members = reads.members; read = reads.read; said = so reads.members reads.said }

pub items_so : (P Q : List Data → Type 0) (depth : ℕ) (old new : List Token) → ((ds : List Data) → P ds → Q ds) → ReadsItems P depth old new
    → ReadsItems Q depth old new
items_so P Q depth old new so reads = record { values = reads.values; read = reads.read; said = so reads.values reads.said }

pub reads_from : (P : Data → Type 0) (depth : ℕ) (old started new : List Token) → started ≡ old → Reads P depth started new → Reads P depth old new
reads_from P depth old started new same reads = subst (λ ts. Reads P depth ts new) same reads
