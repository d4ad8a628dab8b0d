-- What holds after each record holds after all of them.
use Rattle.std.proofs.Common.{◌≡◌, ℕ, ◌^◌, ◌<◌, ◌≤◌, List, [], ◌∷◌, ◌++◌, refl, sym, subst, arith, All, AllPairs, append_assoc, append-nil}
use Rattle.std.specs.List.{AllZip, Contains}
use Rattle.std.proofs.lemmas.List.Elements.{All-push, All-weaker, Contains-append_left, Contains-append_right}
use Rattle.std.proofs.lemmas.List.Quantifiers.{all_pairs_push}
use Rattle.metastore_index.specs.declared.entry.Entry.{Entry}
use Rattle.metastore_index.specs.Entries.{AreEntries, Becomes, HasPlace, IndexView}
use Rattle.metastore_index.specs.Taken.{ComesFrom, ComesTo, IsBodyOf, Takes, nothing}
use Rattle.metastore_index.specs.Laws.{NoneComeToNothing, OneMoreComes, OneMoreBodyComes, LiveOnesDivide, LiveOnesWereTaken, IdsRise}
use Rattle.metastore_index.proofs.ChangeLemmas.{AreEntries-becomes, All-becomes}

-- what is said of the records so far, the live entries and the greatest id
abbrev pub Said : Type 1
Said = List Entry → List Entry → ℕ → Type 0

-- each record keeps it
abbrev pub Keeps : Said → Type 0
Keeps P =
    (before : List Entry) (index : IndexView) (entry : Entry) (next : IndexView) → P before index.entries index.greatest → Takes index entry next
    → P (before ++ entry ∷ []) next.entries next.greatest

kept_from : (P : Said) → Keeps P → (before later : List Entry) (index last : IndexView) → P before index.entries index.greatest → ComesFrom index later last
    → P (before ++ later) last.entries last.greatest
kept_from P keeps before [] index last holds same =
    subst (P (before ++ []) last.entries) (sym same.1)
    (subst (λ (entries : List Entry). P (before ++ []) entries index.greatest) (sym same.0)
    (subst (λ (all : List Entry). P all index.entries index.greatest) (sym (append-nil before)) holds))
kept_from P keeps before (entry ∷ later) index last holds (next, takes, comes) =
    subst (λ (all : List Entry). P all last.entries last.greatest) (append_assoc before (entry ∷ []) later)
    (kept_from P keeps (before ++ entry ∷ []) later next last (keeps before index entry next holds takes) comes)

pub kept : (P : Said) → P [] [] 0 → Keeps P → (taken : List Entry) (index : IndexView) → ComesTo taken index → P taken index.entries index.greatest
kept P base keeps taken index comes = kept_from P keeps [] taken nothing index base comes

takes_alike : (index last : IndexView) (entry : Entry) (next : IndexView) → last.entries ≡ index.entries → last.greatest ≡ index.greatest → Takes last entry next → Takes index entry next
takes_alike index last entry next entries greatest takes = record {
  taken = record {
    later = omega (arith, greatest, takes.taken.later);
    bounded = takes.taken.bounded;
    fits = subst (λ (l : List Entry). HasPlace l entry) entries takes.taken.fits;
  };
  becomes = subst (λ (l : List Entry). Becomes l entry next.entries) entries takes.becomes;
  greatest = takes.greatest;
}

one_more_from : (index : IndexView) (taken : List Entry) (last : IndexView) (entry : Entry) (next : IndexView) → ComesFrom index taken last → Takes last entry next
    → ComesFrom index (taken ++ entry ∷ []) next
one_more_from index [] last entry next same takes = (next, takes_alike index last entry next same.0 same.1 takes, (refl, refl))
one_more_from index (first ∷ later) last entry next (second, step, comes) takes = (second, step, one_more_from second later last entry next comes takes)

pub none_come_to_nothing : NoneComeToNothing
none_come_to_nothing index entries greatest = ((entries, greatest), ([], tt, (entries, greatest)))

pub one_more_comes : OneMoreComes
one_more_comes taken index entry next comes takes = one_more_from nothing taken index entry next comes takes

bodies_push : (bodies : List (List ℕ)) (taken : List Entry) (body : List ℕ) (entry : Entry) → AllZip IsBodyOf bodies taken → IsBodyOf body entry → AllZip IsBodyOf (bodies ++ body ∷ []) (taken ++ entry ∷ [])
bodies_push [] [] body entry are is = (is, tt)
bodies_push [] (first ∷ later) body entry are is = absurd are
bodies_push (one ∷ more) [] body entry are is = absurd are
bodies_push (one ∷ more) (first ∷ later) body entry are is = (are.0, bodies_push more later body entry are.1 is)

pub one_more_body_comes : OneMoreBodyComes
one_more_body_comes bodies index body entry next (taken, are, comes) is takes =
    (taken ++ entry ∷ [], bodies_push bodies taken body entry are is, one_more_comes taken index entry next comes takes)

abbrev LiveDivide : Said
LiveDivide taken live greatest = AreEntries live

pub live_ones_divide : LiveOnesDivide
live_ones_divide = kept LiveDivide (record { divide = tt; levels = λ i j d below within. absurd (omega (arith, within)) })
    (λ before index entry next are takes. AreEntries-becomes index.entries entry next.entries are takes.becomes)

abbrev LiveWereTaken : Said
LiveWereTaken taken live greatest = All (Contains taken) live

pub live_ones_were_taken : LiveOnesWereTaken
live_ones_were_taken = kept LiveWereTaken (λ k d within. absurd (omega (arith, within)))
    (λ before index entry next were takes.
    let all = before ++ entry ∷ [] in
    All-becomes (Contains all) index.entries entry next.entries
    (All-weaker (Contains before) (Contains all) (λ x among. Contains-append_left before (entry ∷ []) x among) index.entries were)
    (Contains-append_right before (entry ∷ []) entry (0, omega arith, refl)) takes.becomes)

abbrev Rise : Said
Rise taken live greatest = AllPairs (λ older newer. older.id < newer.id) taken × All (λ entry. entry.id ≤ greatest) taken × (greatest < 2 ^ 63)

pub ids_rise : IdsRise
ids_rise = kept Rise (λ i j d below within. absurd (omega (arith, within)), λ k d within. absurd (omega (arith, within)), omega arith)
    (λ before index entry next rise takes. (
      all_pairs_push (λ older newer. older.id < newer.id) before entry rise.0 (λ k d within. omega (arith, rise.1 k d within, takes.taken.later)),
      All-push (λ (x : Entry). x.id ≤ next.greatest) before entry
          (All-weaker (λ (x : Entry). x.id ≤ index.greatest) (λ x. x.id ≤ next.greatest) (λ x low. omega (arith, low, takes.taken.later, takes.greatest)) before rise.1)
          (omega (arith, takes.greatest)),
      omega (arith, takes.greatest, takes.taken.bounded),
    ))
