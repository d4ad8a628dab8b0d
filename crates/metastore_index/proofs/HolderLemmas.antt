-- Which entries hold a push, before a record and after it.
use Rattle.std.proofs.Common.{◌≡◌, ℕ, zero, suc, ◌-◌, ◌<◌, ◌≤◌, List, [], ◌∷◌, ◌++◌, get_or, refl, sym, ◌∙◌, subst, arith, All, AllPairs, ◌⊎◌, inl, inr, ⊎_elim}
use Rattle.std.specs.List.{Contains}
use Rattle.std.proofs.lemmas.List.Elements.{All-nil, All-cons, All-push, All-weaker, All-contains, Contains-append_left, Contains-append_right, Contains-append_cases}
use Rattle.std.proofs.lemmas.List.Quantifiers.{all_pairs_push}
use Rattle.metastore_index.specs.declared.entry.Entry.{Entry}
use Rattle.metastore_index.specs.Entries.{AreEntries, Becomes, DivideFrom, IndexView, IsRunOver}
use Rattle.metastore_index.specs.Entries.Becomes.{follows, stands}
use Rattle.metastore_index.specs.Taken.{ComesTo}
use Rattle.metastore_index.specs.Laws.{Holds, IsWithin, LaterIsHigher, LiveOnesCover, OthersStay}
use Rattle.metastore_index.proofs.ChangeLemmas.{AreEntries-becomes}
use Rattle.metastore_index.proofs.DivideLemmas.{DivideFrom-first, DivideFrom-second, end_from, end_from-append, end_of-from}
use Rattle.metastore_index.proofs.TakenLemmas.{Said, kept}

-- the entry's pushes lie between the two
pub record Between (lo hi : ℕ) (entry : Entry) : Type 0 where
  pub from : lo ≤ entry.lo
  pub until : entry.hi ≤ hi

pub end_rises : (start : ℕ) (entries : List Entry) → DivideFrom start entries → start ≤ end_from start entries
end_rises start [] divide = omega arith
end_rises start (entry ∷ more) divide = omega (arith, divide.0, entry.some, end_rises entry.hi more divide.1)

pub between : (start : ℕ) (entries : List Entry) → DivideFrom start entries → All (Between start (end_from start entries)) entries
between start [] divide = All-nil (Between start start)
between start (entry ∷ more) divide =
    let end = end_from entry.hi more in
    All-cons (Between start end) entry more (record { from = omega (arith, divide.0); until = end_rises entry.hi more divide.1 })
    (All-weaker (Between entry.hi end) (Between start end) (λ x b. record { from = omega (arith, divide.0, entry.some, b.from); until = b.until }) more (between entry.hi more divide.1))

pub first_or_later : (first : Entry) (later : List Entry) (x : Entry) → Contains (first ∷ later) x → (first ≡ x) ⊎ Contains later x
first_or_later first later x (zero, within, same) = inl same
first_or_later first later x (suc k, within, same) = inr (k, omega (arith, within), same)

pub none_within : (x : Entry) → Contains [] x → ⊥
none_within x (k, within, same) = omega (arith, within)

-- where one of the entries stands that a run divides
data Part (front run back : List Entry) (level lo hi : ℕ) (x : Entry) : Type 0 where
  in_front : Contains front x → x.hi ≤ lo → Part front run back level lo hi x
  in_run : lo ≤ x.lo → x.hi ≤ hi → x.level ≡ level → Part front run back level lo hi x
  in_back : Contains back x → hi ≤ x.lo → Part front run back level lo hi x

part_of : (front run back : List Entry) (level lo hi : ℕ) (x : Entry) → AreEntries (front ++ run ++ back) → IsRunOver front run back level lo hi → Contains (front ++ run ++ back) x
    → Part front run back level lo hi x
part_of front run back level lo hi x are over among =
    let divide_front : DivideFrom 0 (front ++ run) = DivideFrom-first 0 (front ++ run) back are.divide in
    let lo_is : end_from 0 front ≡ lo = sym (end_of-from front) ∙ over.from in
    let hi_is : end_from 0 (front ++ run) ≡ hi = sym (end_of-from (front ++ run)) ∙ over.until in
    ⊎_elim
    (λ both. ⊎_elim
    (λ here.
    let b = All-contains (Between 0 (end_from 0 front)) front x (between 0 front (DivideFrom-first 0 front run divide_front)) here in
    in_front here (omega (arith, lo_is, b.until)))
    (λ here.
    let b = All-contains (Between (end_from 0 front) (end_from (end_from 0 front) run)) run x (between (end_from 0 front) run (DivideFrom-second 0 front run divide_front)) here in
    in_run (omega (arith, lo_is, b.from)) (omega (arith, hi_is, end_from-append 0 front run, b.until)) (All-contains (λ (y : Entry). y.level ≡ level) run x over.alike here))
    (Contains-append_cases front run x both))
    (λ here.
    let b = All-contains (Between (end_from 0 (front ++ run)) (end_from (end_from 0 (front ++ run)) back)) back x
    (between (end_from 0 (front ++ run)) back (DivideFrom-second 0 (front ++ run) back are.divide)) here in
    in_back here (omega (arith, hi_is, b.from)))
    (Contains-append_cases (front ++ run) back x among)

-- the entry that stands in for the run is among the ones that are left, and so are those before and behind it
there : (front : List Entry) (entry : Entry) (back : List Entry) → Contains (front ++ entry ∷ back) entry
there front entry back = Contains-append_right front (entry ∷ back) entry (0, omega arith, refl)

pub later_one : (entry : Entry) (back : List Entry) (x : Entry) → Contains back x → Contains (entry ∷ back) x
later_one entry back x (k, within, same) = (suc k, omega (arith, within), same)

behind : (front : List Entry) (entry : Entry) (back : List Entry) (x : Entry) → Contains back x → Contains (front ++ entry ∷ back) x
behind front entry back x here = Contains-append_right front (entry ∷ back) x (later_one entry back x here)

-- an entry that holds another push stays
stays : (entries : List Entry) (entry : Entry) (next : List Entry) (at : ℕ) (cover : Entry) → AreEntries entries → Becomes entries entry next → ¬ (Holds entry at)
    → Contains entries cover → Holds cover at → Contains next cover
stays entries entry next at cover are (follows place is) other among holds =
    subst (λ (l : List Entry). Contains l cover) (sym is) (Contains-append_left entries (entry ∷ []) cover among)
stays entries entry next at cover are (stands front run back parts high over is) other among holds =
    subst (λ (l : List Entry). Contains l cover) (sym is)
    (by_part (part_of front run back (entry.level - 1) entry.lo entry.hi cover (subst AreEntries parts are) over (subst (λ (l : List Entry). Contains l cover) parts among)))
  where
    by_part : Part front run back (entry.level - 1) entry.lo entry.hi cover → Contains (front ++ entry ∷ back) cover
    by_part (in_front here below) = Contains-append_left front (entry ∷ back) cover here
    by_part (in_run from until level) = absurd (other (omega (arith, from, holds.0), omega (arith, until, holds.1)))
    by_part (in_back here above) = behind front entry back cover here

-- and was there before
stood : (entries : List Entry) (entry : Entry) (next : List Entry) (at : ℕ) (cover : Entry) → Becomes entries entry next → ¬ (Holds entry at)
    → Contains next cover → Holds cover at → Contains entries cover
stood entries entry next at cover (follows place is) other among holds =
    ⊎_elim
    (λ here. here)
    (λ last. ⊎_elim
    (λ same. absurd (other (subst (λ (x : Entry). Holds x at) (sym same) holds)))
    (λ none. absurd (none_within cover none))
    (first_or_later entry [] cover last))
    (Contains-append_cases entries (entry ∷ []) cover (subst (λ (l : List Entry). Contains l cover) is among))
stood entries entry next at cover (stands front run back parts high over is) other among holds =
    subst (λ (l : List Entry). Contains l cover) (sym parts)
    (⊎_elim
    (λ here. Contains-append_left (front ++ run) back cover (Contains-append_left front run cover here))
    (λ more. ⊎_elim
    (λ same. absurd (other (subst (λ (x : Entry). Holds x at) (sym same) holds)))
    (λ here. Contains-append_right (front ++ run) back cover here)
    (first_or_later entry back cover more))
    (Contains-append_cases front (entry ∷ back) cover (subst (λ (l : List Entry). Contains l cover) is among)))

pub others_stay : OthersStay
others_stay entries entry next are becomes at cover other = (
  λ covers. record { among = stays entries entry next at cover are becomes other covers.among (covers.from, covers.until); from = covers.from; until = covers.until },
  λ covers. record { among = stood entries entry next at cover becomes other covers.among (covers.from, covers.until); from = covers.from; until = covers.until },
)

-- what was within a live entry still is
within_next : (entries : List Entry) (entry : Entry) (next : List Entry) (x : Entry) → AreEntries entries → Becomes entries entry next → IsWithin entries x → IsWithin next x
within_next entries entry next x are (follows place is) w = record {
  cover = w.cover;
  among = subst (λ (l : List Entry). Contains l w.cover) (sym is) (Contains-append_left entries (entry ∷ []) w.cover w.among);
  from = w.from;
  until = w.until;
  level = w.level;
}
within_next entries entry next x are (stands front run back parts high over is) w =
    subst (λ (l : List Entry). IsWithin l x) (sym is)
    (by_part (part_of front run back (entry.level - 1) entry.lo entry.hi w.cover (subst AreEntries parts are) over (subst (λ (l : List Entry). Contains l w.cover) parts w.among)))
  where
    by_part : Part front run back (entry.level - 1) entry.lo entry.hi w.cover → IsWithin (front ++ entry ∷ back) x
    by_part (in_front here below) =
        record { cover = w.cover; among = Contains-append_left front (entry ∷ back) w.cover here; from = w.from; until = w.until; level = w.level }
    by_part (in_run from until level) = record {
      cover = entry;
      among = there front entry back;
      from = omega (arith, from, w.from);
      until = omega (arith, until, w.until);
      level = omega (arith, level, w.level);
    }
    by_part (in_back here above) = record { cover = w.cover; among = behind front entry back w.cover here; from = w.from; until = w.until; level = w.level }

itself_within : (entries : List Entry) (entry : Entry) (next : List Entry) → Becomes entries entry next → IsWithin next entry
itself_within entries entry next becomes =
    record { cover = entry; among = comes_in entries entry next becomes; from = omega arith; until = omega arith; level = omega arith }
  where
    comes_in : (entries : List Entry) (entry : Entry) (next : List Entry) → Becomes entries entry next → Contains next entry
    comes_in entries entry next (follows place is) = subst (λ (l : List Entry). Contains l entry) (sym is) (there entries entry [])
    comes_in entries entry next (stands front run back parts high over is) = subst (λ (l : List Entry). Contains l entry) (sym is) (there front entry back)

-- an entry that shares a push with what lies within the others is of a higher level
higher : (entries : List Entry) (entry : Entry) (next : List Entry) (x : Entry) → AreEntries entries → Becomes entries entry next → IsWithin entries x
    → (at : ℕ) → Holds x at → Holds entry at → x.level < entry.level
higher entries entry next x are (follows place is) w at old new =
    let b = All-contains (Between 0 (end_from 0 entries)) entries w.cover (between 0 entries are.divide) w.among in
    absurd (omega (arith, place.0, end_of-from entries, b.until, w.until, old.1, new.0))
higher entries entry next x are (stands front run back parts high over is) w at old new =
    by_part (part_of front run back (entry.level - 1) entry.lo entry.hi w.cover (subst AreEntries parts are) over (subst (λ (l : List Entry). Contains l w.cover) parts w.among))
  where
    by_part : Part front run back (entry.level - 1) entry.lo entry.hi w.cover → x.level < entry.level
    by_part (in_front here below) = absurd (omega (arith, below, w.until, old.1, new.0))
    by_part (in_run from until level) = omega (arith, level, w.level, high)
    by_part (in_back here above) = absurd (omega (arith, above, w.from, old.0, new.1))

abbrev pub Higher : Entry → Entry → Type 0
Higher older newer = (at : ℕ) → Holds older at → Holds newer at → older.level < newer.level

abbrev Layered : Said
Layered taken live greatest = AreEntries live × All (IsWithin live) taken × AllPairs Higher taken

layered : (taken : List Entry) (index : IndexView) → ComesTo taken index → Layered taken index.entries index.greatest
layered = kept Layered
    (record { divide = tt; levels = λ i j d below within. absurd (omega (arith, within)) }, λ k d within. absurd (omega (arith, within)), λ i j d below within. absurd (omega (arith, within)))
    (λ before index entry next holds takes. (
      AreEntries-becomes index.entries entry next.entries holds.0 takes.becomes,
      All-push (IsWithin next.entries) before entry
          (All-weaker (IsWithin index.entries) (IsWithin next.entries) (λ x w. within_next index.entries entry next.entries x holds.0 takes.becomes w) before holds.1)
          (itself_within index.entries entry next.entries takes.becomes),
      all_pairs_push Higher before entry holds.2 (λ k d within. higher index.entries entry next.entries (get_or before k d) holds.0 takes.becomes (holds.1 k d within)),
    ))

pub live_ones_cover : LiveOnesCover
live_ones_cover taken index comes = (layered taken index comes).1

pub later_is_higher : LaterIsHigher
later_is_higher taken index comes = (layered taken index comes).2
