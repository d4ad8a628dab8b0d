-- What files stand for, and that it is one history.
use Rattle.std.proofs.Common.{◌≡◌, ◌≢◌, ℕ, ◌+◌, ◌<◌, ◌≤◌, List, [], ◌∷◌, ◌++◌, suc, drop, length, get_or, refl, sym, ◌∙◌, ap, subst, arith, append_assoc, append-nil, All}
use Rattle.std.specs.Prelude.{nat_eq}
use Rattle.std.specs.List.{AllZip}
use Rattle.std.specs.Cmp.Lexicographic.{pointwise}
use Rattle.std.proofs.lemmas.List.Elements.{All-push, filter-append}
use Rattle.std.proofs.lemmas.List.Sums.{sum_by-append}
use Rattle.disk_trait.specs.declared.disk.FileId.{FileId}
use Rattle.disk_trait.specs.declared.disk.FileId.TheVariants.{Index, Object}
use Rattle.disk_trait.specs.Disk.{Files, bytes_of}
use Rattle.gate_journal.specs.Slots.{bodies_of, AtRest}
use Rattle.gate_journal.proofs.Gates.{bodies-at_rest}
use Rattle.metastore_index.specs.declared.entry.Entry.{Entry}
use Rattle.metastore_index.specs.Entries.{AreEntries, IndexView, end_of}
use Rattle.metastore_index.specs.Taken.{BodiesComeTo, IsBodyOf, Takes}
use Rattle.metastore_index.proofs.OneIndexLemmas.{one_index_of_bodies}
use Rattle.metastore_index.proofs.TakenLemmas.{ids_rise, live_ones_divide, live_ones_were_taken, one_more_comes}
use Rattle.profile_model.specs.Limits.{total_bound}
use Rattle.profile_model.specs.Pushes.{profiles_total}
use Rattle.profile_model.specs.declared.push.Push.{Push}
use Rattle.push_history.specs.History.{HasBoundedTotals, pushes_of, pushes_total, tenant_total}
use Rattle.history_files.specs.History.{AreHeld, HasIndex, IsBlamed, IsBounded, IsObjectOf, Lists, StandFor}
use Rattle.history_files.specs.History.IsBlamed.{index as no_index, object as no_object}
use Rattle.history_files.specs.Standing.{StandAlike}
use Rattle.history_files.proofs.HeldLemmas.{IsDead, held_append, held_beside, held_first, held_none, held_once, held_one, held_split, length_held}

-- ---- totals

total_append : (xs ys : List Push) (tenant : List ℕ) → tenant_total (xs ++ ys) tenant ≡ tenant_total xs tenant + tenant_total ys tenant
total_append xs ys tenant =
    ap pushes_total (filter-append (λ (push : Push). pointwise nat_eq push.tenant tenant) xs ys)
    ∙ sum_by-append (λ (push : Push). profiles_total push.profiles) (pushes_of xs tenant) (pushes_of ys tenant)

-- a front's totals are bounded where all are
pub bounded_front : (xs ys : List Push) → HasBoundedTotals (xs ++ ys) → HasBoundedTotals xs
bounded_front xs ys bounded tenant =
    let all : tenant_total (xs ++ ys) tenant < total_bound = bounded tenant in
    below (tenant_total xs tenant) (tenant_total ys tenant) (tenant_total (xs ++ ys) tenant) total_bound (total_append xs ys tenant) all
  where
    below : (a b n bound : ℕ) → n ≡ a + b → n < bound → a < bound
    below a b n bound is low = omega (arith, is, low)

-- ---- the index that bodies list

pub lists_come : (bodies : List (List ℕ)) (index : IndexView) → Lists bodies index → BodiesComeTo bodies index
lists_come bodies index lists = (lists.taken, lists.read, lists.comes)

pub lists_once : (bodies : List (List ℕ)) (one other : IndexView) → Lists bodies one → Lists bodies other → one.entries ≡ other.entries
lists_once bodies one other first second = (one_index_of_bodies bodies one other (lists_come bodies one first) (lists_come bodies other second)).entries

read_push : (bodies : List (List ℕ)) (taken : List Entry) (body : List ℕ) (entry : Entry) → AllZip IsBodyOf bodies taken → IsBodyOf body entry → AllZip IsBodyOf (bodies ++ body ∷ []) (taken ++ entry ∷ [])
read_push [] [] body entry are is = (is, tt)
read_push [] (first ∷ later) body entry are is = absurd are
read_push (one ∷ more) [] body entry are is = absurd are
read_push (one ∷ more) (first ∷ later) body entry are is = (are.0, read_push more later body entry are.1 is)

-- one body more
pub lists_push : (bodies : List (List ℕ)) (body : List ℕ) (index later : IndexView) (entry : Entry) → Lists bodies index → IsBodyOf body entry → IsBounded entry → Takes index entry later
    → Lists (bodies ++ body ∷ []) later
lists_push bodies body index later entry lists is bounded takes = record {
  taken = lists.taken ++ entry ∷ [];
  read = read_push bodies lists.taken body entry lists.read is;
  bounded = All-push IsBounded lists.taken entry lists.bounded bounded;
  comes = one_more_comes lists.taken index entry later lists.comes takes;
}

-- its entries divide the pushes
pub lists_divide : (bodies : List (List ℕ)) (index : IndexView) → Lists bodies index → AreEntries index.entries
lists_divide bodies index lists = live_ones_divide lists.taken index lists.comes

-- and their ids are within the greatest
pub lists_ids : (bodies : List (List ℕ)) (index : IndexView) → Lists bodies index → All (λ (entry : Entry). entry.id ≤ index.greatest) index.entries
lists_ids bodies index lists k d within =
    let among = live_ones_were_taken lists.taken index lists.comes k d within in
    let rise = ids_rise lists.taken index lists.comes in
    subst (λ (entry : Entry). entry.id ≤ index.greatest) among.2 (rise.1 among.0 (get_or index.entries k d) among.1)

-- an object with a later id isn't live
pub dead_id : (greatest id : ℕ) (xs : List Entry) → All (λ (entry : Entry). entry.id ≤ greatest) xs → greatest < id → IsDead (Object id) xs
dead_id greatest id [] ids later = tt
dead_id greatest id (x ∷ xs) ids later =
    (λ same. absurd (omega (arith, later, ids 0 x (omega arith), the_id x.id id same)), dead_id greatest id xs (λ k d within. ids (suc k) d (omega (arith, within))) later)
  where
    the_id : (m n : ℕ) → Object m ≡ Object n → m ≡ n
    the_id m n same = cc

-- nor is the index file
pub dead_index : (n : ℕ) (xs : List Entry) → IsDead (Index n) xs
dead_index n [] = tt
dead_index n (x ∷ xs) = (λ same. absurd (cc), dead_index n xs)

pub not_index : (id : ℕ) → Index 0 ≢ Object id
not_index id same = absurd (cc)

-- ---- histories

-- a file at rest, its index and the objects stand for a history
pub stands_for : (records : ℕ) (image : Files) (bodies : List (List ℕ)) (index : IndexView) (history : List Push) → AtRest bodies (image (Index 0)) → length bodies ≤ records
    → Lists bodies index → AreHeld image index.entries history → HasBoundedTotals history → StandFor records image history
stands_for records image bodies index history rest within lists held totals =
    let is : bodies_of (bytes_of (image (Index 0))) ≡ bodies = bodies-at_rest bodies (image (Index 0)) rest in record {
      index = index;
      has = record { lists = subst (λ (bs : List (List ℕ)). Lists bs index) (sym is) lists; few = omega (arith, ap length is, within) };
      held = held;
      totals = totals;
    }

-- files stand for one history
pub stand_once : (records : ℕ) (files : Files) (one other : List Push) → StandFor records files one → StandFor records files other → one ≡ other
stand_once records files one other first second =
    let same = lists_once (bodies_of (bytes_of (files (Index 0)))) first.index second.index first.has.lists second.has.lists in
    held_once files first.index.entries one other first.held (subst (λ (es : List Entry). AreHeld files es other) (sym same) second.held)

-- with as many pushes as its entries say
pub length_stands : (records : ℕ) (files : Files) (history : List Push) (stands : StandFor records files history) → length history ≡ end_of stands.index.entries
length_stands records files history stands =
    length_held files stands.index.entries history (lists_divide (bodies_of (bytes_of (files (Index 0)))) stands.index stands.has.lists).divide stands.held

pub as_long : (records : ℕ) (files : Files) (history : List Push) (index : IndexView) → StandFor records files history → HasIndex records files index → length history ≡ end_of index.entries
as_long records files history index stands has =
    length_stands records files history stands ∙ ap end_of (lists_once (bodies_of (bytes_of (files (Index 0)))) stands.index index stands.has.lists has.lists)

-- files with the same bodies and the same other files stand for the same
stands_alike : (records : ℕ) (files image : Files) (history : List Push) → bodies_of (bytes_of (image (Index 0))) ≡ bodies_of (bytes_of (files (Index 0)))
    → ((file : FileId) → file ≢ Index 0 → image file ≡ files file) → StandFor records files history → StandFor records image history
stands_alike records files image history bodies others stands = record {
  index = stands.index;
  has = record {
    lists = subst (λ (bs : List (List ℕ)). Lists bs stands.index) (sym bodies) stands.has.lists;
    few = omega (arith, ap length bodies, stands.has.few);
  };
  held = held_beside files image (Index 0) stands.index.entries history others (dead_index 0 stands.index.entries) stands.held;
  totals = stands.totals;
}

pub alike : (records : ℕ) (files image : Files) → bodies_of (bytes_of (image (Index 0))) ≡ bodies_of (bytes_of (files (Index 0)))
    → ((file : FileId) → file ≢ Index 0 → image file ≡ files file) → StandAlike records files image
alike records files image bodies others history =
    (stands_alike records files image history bodies others, stands_alike records image files history (sym bodies) (λ file other. sym (others file other)))

-- ---- the file to blame

-- where an object is the first that is wrong, no front of a history reaches behind it
module _ (records : ℕ) (files : Files) (index : IndexView) (before : List Entry) (entry : Entry) (after : List Entry) (earlier : List Push) (held : AreHeld files before earlier)
    (wrong : (pushes : List Push) → IsObjectOf entry pushes (files (Object entry.id)) → ¬ (HasBoundedTotals (earlier ++ pushes))) where
  none_behind : (history : List Push) → AreHeld files (before ++ entry ∷ after) history → ¬ (HasBoundedTotals history)
  none_behind history all bounded =
      let s = held_split files before (entry ∷ after) history all in
      let f = held_first files entry after s.two s.second in
      let same : s.one ≡ earlier = held_once files before s.one earlier s.first held in
      let whole : history ≡ (earlier ++ f.part) ++ f.rest =
      s.all ∙ ap (λ (l : List Push). l ++ s.two) same ∙ ap (λ (l : List Push). earlier ++ l) f.all ∙ sym (append_assoc earlier f.part f.rest) in
      wrong f.part f.object (bounded_front (earlier ++ f.part) f.rest (subst HasBoundedTotals whole bounded))

-- files with a file to blame stand for no history
pub blamed_stands_for_none : (records : ℕ) (files : Files) (file : FileId) → IsBlamed records files file → (history : List Push) → ¬ (StandFor records files history)
blamed_stands_for_none records files file (no_index none) history stands = none stands.index stands.has
blamed_stands_for_none records files file (no_object index before entry after earlier has parts held bounded wrong) history stands =
    let same : stands.index.entries ≡ before ++ entry ∷ after = lists_once (bodies_of (bytes_of (files (Index 0)))) stands.index index stands.has.lists has.lists ∙ parts in
    none_behind records files index before entry after earlier held wrong history (subst (λ (es : List Entry). AreHeld files es history) same stands.held) stands.totals

-- files without a file to blame stand for a history, as it can't be that they stand for none
module _ (records : ℕ) (files : Files) (none : (history : List Push) → ¬ (StandFor records files history)) (unblamed : (file : FileId) → ¬ (IsBlamed records files file)) where
  unblamed_behind : (index : IndexView) (before after : List Entry) (earlier : List Push) → HasIndex records files index → index.entries ≡ before ++ after → AreHeld files before earlier
      → HasBoundedTotals earlier → ⊥
  unblamed_behind index before [] earlier has parts held bounded =
      none earlier (record { index = index; has = has; held = subst (λ (es : List Entry). AreHeld files es earlier) (sym (parts ∙ append-nil before)) held; totals = bounded })
  unblamed_behind index before (entry ∷ after) earlier has parts held bounded =
      unblamed (Object entry.id) (no_object index before entry after earlier has parts held bounded
      (λ pushes object more. unblamed_behind index (before ++ entry ∷ []) after (earlier ++ pushes) has (parts ∙ sym (append_assoc before (entry ∷ []) after))
      (held_append files before (entry ∷ []) earlier pushes held (held_one files entry pushes object)) more))

  pub one_or_blamed : ⊥
  one_or_blamed = unblamed (Index 0) (no_index (λ index has. unblamed_behind index [] index.entries [] has refl (held_none files) (λ tenant. omega arith)))

-- two places in a list
data Places (xs : List Entry) (x : Entry) (ys : List Entry) (y : Entry) : Type 0 where
  is_same : x ≡ y → Places xs x ys y
  is_earlier : (more : List Entry) → ys ≡ xs ++ x ∷ more → Places xs x ys y
  is_later : (more : List Entry) → xs ≡ ys ++ y ∷ more → Places xs x ys y

head_is : (x y : Entry) (xs ys : List Entry) → x ∷ xs ≡ y ∷ ys → x ≡ y
head_is x y xs ys is = ap (λ (l : List Entry). get_or l 0 x) is

places : (xs : List Entry) (x : Entry) (behind : List Entry) (ys : List Entry) (y : Entry) (others : List Entry) → xs ++ x ∷ behind ≡ ys ++ y ∷ others → Places xs x ys y
places [] x behind [] y others is = is_same (head_is x y behind others is)
places [] x behind (b ∷ ys) y others is = is_earlier ys (ap (λ (e : Entry). e ∷ ys) (sym (head_is x b behind (ys ++ y ∷ others) is)))
places (a ∷ xs) x behind [] y others is = is_later xs (ap (λ (e : Entry). e ∷ xs) (head_is a y (xs ++ x ∷ behind) others is))
places (a ∷ xs) x behind (b ∷ ys) y others is = deeper (places xs x behind ys y others (ap (λ (l : List Entry). drop 1 l) is))
  where
    first : a ≡ b
    first = head_is a b (xs ++ x ∷ behind) (ys ++ y ∷ others) is

    deeper : Places xs x ys y → Places (a ∷ xs) x (b ∷ ys) y
    deeper (is_same e) = is_same e
    deeper (is_earlier more e) = is_earlier more (ap (λ (l : List Entry). b ∷ l) e ∙ ap (λ (h : Entry). h ∷ xs ++ x ∷ more) (sym first))
    deeper (is_later more e) = is_later more (ap (λ (l : List Entry). a ∷ l) e ∙ ap (λ (h : Entry). h ∷ ys ++ y ∷ more) first)

-- at most one file is to blame
pub blamed_once : (records : ℕ) (files : Files) (one other : FileId) → IsBlamed records files one → IsBlamed records files other → one ≡ other
blamed_once records files one other (no_index none) (no_index none') = refl
blamed_once records files one other (no_index none) (no_object index before entry after earlier has parts held bounded wrong) = absurd (none index has)
blamed_once records files one other (no_object index before entry after earlier has parts held bounded wrong) (no_index none) = absurd (none index has)
blamed_once records files one other (no_object index before entry after earlier has parts held bounded wrong) (no_object index' before' entry' after' earlier' has' parts' held' bounded' wrong') =
    by_place (places before entry after before' entry' after'
    (sym parts ∙ lists_once (bodies_of (bytes_of (files (Index 0)))) index index' has.lists has'.lists ∙ parts'))
  where
    by_place : Places before entry before' entry' → Object entry.id ≡ Object entry'.id
    by_place (is_same is) = ap (λ (e : Entry). Object e.id) is
    by_place (is_earlier more is) = absurd (none_behind records files index before entry more earlier held wrong earlier' (subst (λ (es : List Entry). AreHeld files es earlier') is held') bounded')
    by_place (is_later more is) = absurd (none_behind records files index' before' entry' more earlier' held' wrong' earlier (subst (λ (es : List Entry). AreHeld files es earlier) is held) bounded)
