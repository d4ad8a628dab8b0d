-- One function, and one location, after another.
use Rattle.std.proofs.Common.{◌≡◌, ℕ, ◌+◌, ◌<◌, List, [], ◌∷◌, length, get_or, take, Option, Some, None, sym, ap, ◌∙◌, arith}
use Rattle.std.specs.Prelude.{map, slice_get}
use Rattle.pprof_message.specs.declared.lists.Function.{Function}
use Rattle.pprof_message.specs.Pprof.{Location, Pprof}
use Rattle.pprof_codec.specs.declared.fault.PprofFault.{PprofFault}
use Rattle.pprof_codec.specs.Members.{text_at}
use Rattle.pprof_codec.specs.Frames.{filled_or, function_frame, unknown_frame}
use Rattle.pprof_codec.specs.Checks.{first_of, faults_of_each, faults_of_function, faults_of_location, has_id}
use Rattle.pprof_codec.specs.Tables.{number_of}
use Rattle.pprof_codec.proofs.FaultLemmas.{first-none, each-kept, each-first, get-some}
use Rattle.pprof_codec.proofs.IdLemmas.{number-none}
use Rattle.pprof_codec.proofs.StackLemmas.{no-parts, not_found}

-- ---- a function's frame

filled-named : (name text other : List ℕ) → name ≡ text → 0 < length name → name ≡ filled_or text other
filled-named [] text other is some = absurd (omega arith)
filled-named (b ∷ bs) text other is some = ap (λ t. filled_or t other) is

pub function-named : (texts : List (List ℕ)) (function : Function) (name : List ℕ) → name ≡ text_at texts function.name → 0 < length name
    → name ≡ function_frame texts function
unfolding function_frame
function-named texts function name is some = filled-named name (text_at texts function.name) _ is some

pub function-system_named : (texts : List (List ℕ)) (function : Function) (name : List ℕ) → text_at texts function.name ≡ []
    → name ≡ text_at texts function.system_name → 0 < length name → name ≡ function_frame texts function
unfolding function_frame
function-system_named texts function name none is some =
    filled-named name (text_at texts function.system_name) unknown_frame is some ∙ ap (λ t. filled_or t (filled_or (text_at texts function.system_name) unknown_frame)) (sym none)

pub function-unnamed : (texts : List (List ℕ)) (function : Function) → text_at texts function.name ≡ [] → text_at texts function.system_name ≡ []
    → unknown_frame ≡ function_frame texts function
unfolding function_frame
function-unnamed texts function none no_system =
    ap (λ t. filled_or t unknown_frame) (sym no_system) ∙ ap (λ t. filled_or t (filled_or (text_at texts function.system_name) unknown_frame)) (sym none)

-- ---- members in their order, each with the ids of those before it

module _ {A : Type 0} (id : A → ℕ) (faults : List ℕ → ℕ → A → List PprofFault) (members : List A) where
  abbrev pub own_faults : ℕ → A → List PprofFault
  own_faults number member = faults (take number (map id members)) number member

  at-member : (ids : List ℕ) (n : ℕ) (d : A) (found : Option PprofFault) → ids ≡ take n (map id members)
      → found ≡ first_of (faults ids n (get_or members n d)) → first_of (own_faults n (get_or members n d)) ≡ found
  at-member ids n d found known is = ap (λ before. first_of (faults before n (get_or members n d))) (sym known) ∙ sym is

  pub member-first : (ids : List ℕ) (n : ℕ) (d : A) (found : Option PprofFault) (fault : PprofFault) → n < length members → ids ≡ take n (map id members)
      → faults_of_each own_faults (take n members) ≡ [] → found ≡ first_of (faults ids n (get_or members n d)) → found ≡ Some fault
      → first_of (faults_of_each own_faults members) ≡ Some fault
  member-first ids n d found fault short known before is some =
      each-first own_faults members n d fault short before (at-member ids n d found known is ∙ some)

  pub member-kept : (ids : List ℕ) (n : ℕ) (d : A) (found : Option PprofFault) → n < length members → ids ≡ take n (map id members)
      → faults_of_each own_faults (take n members) ≡ [] → found ≡ first_of (faults ids n (get_or members n d)) → found ≡ None
      → faults_of_each own_faults (take (n + 1) members) ≡ []
  member-kept ids n d found short known before is none =
      each-kept own_faults members n d short before (first-none _ (at-member ids n d found known is ∙ none))

module _ {A : Type 0} (id : A → ℕ) (faults : List ℕ → ℕ → A → List PprofFault) (members : List A) where
  pub member-read_first : (ids : List ℕ) (n : ℕ) (x : A) (found : Option PprofFault) (fault : PprofFault) → slice_get members n ≡ Some x → ids ≡ take n (map id members)
      → faults_of_each (own_faults id faults members) (take n members) ≡ [] → found ≡ first_of (faults ids n x) → found ≡ Some fault
      → first_of (faults_of_each (own_faults id faults members) members) ≡ Some fault
  member-read_first ids n x found fault read known before is some =
      let at = get-some members n x read in
      member-first id faults members ids n x found fault at.0 known before (is ∙ ap (λ y. first_of (faults ids n y)) (sym at.1)) some

  pub member-read_kept : (ids : List ℕ) (n : ℕ) (x : A) (found : Option PprofFault) → slice_get members n ≡ Some x → ids ≡ take n (map id members)
      → faults_of_each (own_faults id faults members) (take n members) ≡ [] → found ≡ first_of (faults ids n x) → found ≡ None
      → faults_of_each (own_faults id faults members) (take (n + 1) members) ≡ []
  member-read_kept ids n x found read known before is none =
      let at = get-some members n x read in
      member-kept id faults members ids n x found at.0 known before (is ∙ ap (λ y. first_of (faults ids n y)) (sym at.1)) none

pub function-new_id : (texts : List (List ℕ)) (ids : List ℕ) (n : ℕ) (function : Function) (found : Option PprofFault)
    → found ≡ first_of (faults_of_function texts ids n function) → found ≡ None → number_of ids function.id ≡ None
unfolding faults_of_function
function-new_id texts ids n function found is none =
    let all = first-none _ (sym is ∙ none) in
    let known = not_found (has_id ids function.id) _ ((no-parts _ _ ((no-parts _ _ ((no-parts _ _ all).0)).0)).1) in
    number-none ids function.id known

pub location-new_id : (pprof : Pprof) (ids : List ℕ) (n : ℕ) (location : Location) (found : Option PprofFault)
    → found ≡ first_of (faults_of_location pprof ids n location) → found ≡ None → number_of ids location.id ≡ None
unfolding faults_of_location
location-new_id pprof ids n location found is none =
    let all = first-none _ (sym is ∙ none) in
    let known = not_found (has_id ids location.id) _ ((no-parts _ _ ((no-parts _ _ all).0)).1) in
    number-none ids location.id known
