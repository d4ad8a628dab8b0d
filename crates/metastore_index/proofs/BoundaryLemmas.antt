-- Where the live entries begin after a record that stands in for a run.
use Rattle.std.proofs.Common.{◌≡◌, ◌-◌, List, [], ◌∷◌, ◌++◌, refl, sym, ◌∙◌, subst, arith, All, append_assoc}
use Rattle.std.specs.List.{Contains}
use Rattle.std.proofs.lemmas.List.Elements.{All-append, All-cons, All-weaker, All-contains_itself, Contains-append_left, Contains-append_right}
use Rattle.metastore_index.specs.declared.entry.Entry.{Entry}
use Rattle.metastore_index.specs.Entries.{DivideFrom, IsRunOver}
use Rattle.metastore_index.specs.Entries.Becomes.{follows, stands}
use Rattle.metastore_index.specs.Laws.{BeginsAmong, BoundariesStay}
use Rattle.metastore_index.proofs.DivideLemmas.{DivideFrom-second, end_of-from}

begin_among : (front : List Entry) (first : Entry) (rest back : List Entry) (entry : Entry) → DivideFrom 0 (front ++ first ∷ rest ++ back)
    → IsRunOver front (first ∷ rest) back (entry.level - 1) entry.lo entry.hi → All (BeginsAmong (front ++ first ∷ rest ++ back)) (front ++ entry ∷ back)
begin_among front first rest back entry divide over =
    let all = front ++ first ∷ rest ++ back in
    let here : DivideFrom 0 (front ++ (first ∷ rest ++ back)) = subst (DivideFrom 0) (append_assoc front (first ∷ rest) back) divide in
    let from = DivideFrom-second 0 front (first ∷ rest ++ back) here in
    let begin : first.lo ≡ entry.lo = from.0 ∙ sym (end_of-from front) ∙ over.from in
    All-append (BeginsAmong all) front (entry ∷ back)
    (All-weaker (Contains front) (BeginsAmong all)
    (λ x among. (x, Contains-append_left (front ++ first ∷ rest) back x (Contains-append_left front (first ∷ rest) x among), refl)) front (All-contains_itself front))
    (All-cons (BeginsAmong all) entry back
    (first, Contains-append_left (front ++ first ∷ rest) back first (Contains-append_right front (first ∷ rest) first (0, omega arith, refl)), begin)
    (All-weaker (Contains back) (BeginsAmong all) (λ x among. (x, Contains-append_right (front ++ first ∷ rest) back x among, refl)) back (All-contains_itself back)))

pub boundaries_stay : BoundariesStay
boundaries_stay entries entry next are (follows place is) high = absurd (omega (arith, place.1, high))
boundaries_stay entries entry next are (stands front [] back parts _ over is) high = absurd (over.some refl)
boundaries_stay entries entry next are (stands front (first ∷ rest) back parts _ over is) high =
    subst (All (BeginsAmong entries)) (sym is)
    (subst (λ (l : List Entry). All (BeginsAmong l) (front ++ entry ∷ back)) (sym parts)
    (begin_among front first rest back entry (subst (DivideFrom 0) parts are.divide) over))
