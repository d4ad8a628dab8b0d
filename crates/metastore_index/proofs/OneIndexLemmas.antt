-- Records come to one index.
use Rattle.std.proofs.Common.{◌≡◌, ℕ, ◌-◌, ◌<◌, ◌≤◌, List, [], ◌∷◌, ◌++◌, get_or, take, drop, refl, sym, ap, ◌∙◌, subst, arith, append_assoc}
use Rattle.std.specs.List.{AllZip}
use Rattle.std.specs.Coded.{le_prop}
use mathlib.Core.HLevel.{is_prop→PathP}
use Rattle.metastore_index.specs.declared.entry.Entry.{Entry}
use Rattle.metastore_index.specs.Bodies.{body_of}
use Rattle.metastore_index.specs.Entries.{AreEntries, Becomes, DivideFrom, HasPlace, IndexView, IsRunOver, IsTaken}
use Rattle.metastore_index.specs.Entries.Becomes.{follows, stands}
use Rattle.metastore_index.specs.Taken.{ComesFrom, ComesTo, IsBodyOf, Takes, nothing}
use Rattle.metastore_index.specs.Laws.{IsSameIndex, NextIsTaken, OneIndex, OneIndexOfBodies, OneRun}
use Rattle.metastore_index.proofs.BodyLemmas.{same_number}
use Rattle.metastore_index.proofs.ChangeLemmas.{AreEntries-becomes}
use Rattle.metastore_index.proofs.DivideLemmas.{DivideFrom-first, end_from, end_of-from}
use Rattle.metastore_index.proofs.HolderLemmas.{end_rises}

head_is : (x y : Entry) (xs ys : List Entry) → x ∷ xs ≡ y ∷ ys → x ≡ y
head_is x y xs ys is = ap (λ (l : List Entry). get_or l 0 x) is

tail_is : (x y : Entry) (xs ys : List Entry) → x ∷ xs ≡ y ∷ ys → xs ≡ ys
tail_is x y xs ys is = ap (λ (l : List Entry). drop 1 l) is

-- a list that divides the pushes is parted by where its front ends
same_parts : (start : ℕ) (xs ys rest others : List Entry) → DivideFrom start (xs ++ rest) → xs ++ rest ≡ ys ++ others → end_from start xs ≡ end_from start ys
    → (xs ≡ ys) × (rest ≡ others)
same_parts start [] [] rest others divide is end = (refl, is)
same_parts start [] (y ∷ ys) rest others divide is end =
    let other : DivideFrom start (y ∷ ys ++ others) = subst (DivideFrom start) is divide in
    absurd (omega (arith, end, other.0, y.some, end_rises y.hi ys (DivideFrom-first y.hi ys others other.1)))
same_parts start (x ∷ xs) [] rest others divide is end =
    absurd (omega (arith, end, divide.0, x.some, end_rises x.hi xs (DivideFrom-first x.hi xs rest divide.1)))
same_parts start (x ∷ xs) (y ∷ ys) rest others divide is end =
    let first = head_is x y (xs ++ rest) (ys ++ others) is in
    let more = same_parts x.hi xs ys rest others divide.1 (tail_is x y (xs ++ rest) (ys ++ others) is)
    (end ∙ ap (λ (e : Entry). end_from e.hi ys) (sym first)) in
    (ap (λ (e : Entry). e ∷ xs) first ∙ ap (λ (l : List Entry). y ∷ l) more.0, more.1)

same_stand : (entries : List Entry) (entry : Entry) (front run back front' run' back' : List Entry) → AreEntries entries
    → entries ≡ front ++ run ++ back → IsRunOver front run back (entry.level - 1) entry.lo entry.hi
    → entries ≡ front' ++ run' ++ back' → IsRunOver front' run' back' (entry.level - 1) entry.lo entry.hi
    → front ++ entry ∷ back ≡ front' ++ entry ∷ back'
same_stand entries entry front run back front' run' back' are parts over parts' over' =
    let divide : DivideFrom 0 (front ++ run ++ back) = subst (DivideFrom 0) parts are.divide in
    let whole : front ++ run ++ back ≡ front' ++ run' ++ back' = sym parts ∙ parts' in
    let behind = same_parts 0 (front ++ run) (front' ++ run') back back' divide whole
    (sym (end_of-from (front ++ run)) ∙ over.until ∙ sym over'.until ∙ end_of-from (front' ++ run')) in
    let before = same_parts 0 front front' (run ++ back) (run' ++ back') (subst (DivideFrom 0) (append_assoc front run back) divide)
    (sym (append_assoc front run back) ∙ whole ∙ append_assoc front' run' back')
    (sym (end_of-from front) ∙ over.from ∙ sym over'.from ∙ end_of-from front') in
    ap (λ (l : List Entry). l ++ entry ∷ back) before.0 ∙ ap (λ (l : List Entry). front' ++ entry ∷ l) behind.1

one_level : (entries front : List Entry) (first : Entry) (rest back front' : List Entry) (first' : Entry) (rest' back' : List Entry) (lo hi level other : ℕ) → AreEntries entries
    → entries ≡ front ++ first ∷ rest ++ back → IsRunOver front (first ∷ rest) back level lo hi
    → entries ≡ front' ++ first' ∷ rest' ++ back' → IsRunOver front' (first' ∷ rest') back' other lo hi
    → level ≡ other
one_level entries front first rest back front' first' rest' back' lo hi level other are parts over parts' over' =
    let whole = sym (append_assoc front (first ∷ rest) back) ∙ sym parts ∙ parts' ∙ append_assoc front' (first' ∷ rest') back' in
    let divide : DivideFrom 0 (front ++ (first ∷ rest ++ back)) = subst (DivideFrom 0) (parts ∙ append_assoc front (first ∷ rest) back) are.divide in
    let behind = same_parts 0 front front' (first ∷ rest ++ back) (first' ∷ rest' ++ back') divide whole
    (sym (end_of-from front) ∙ over.from ∙ sym over'.from ∙ end_of-from front') in
    let same = head_is first first' (rest ++ back) (rest' ++ back') behind.1 in
    omega (arith, over.alike 0 first (omega arith), over'.alike 0 first' (omega arith), ap (λ (e : Entry). e.level) same)

pub one_run : OneRun
one_run entries are lo hi level other has has' = by_runs has.0 has.1 has.2 has.3 has.4 has'.0 has'.1 has'.2 has'.3 has'.4
  where
    by_runs : (front run back : List Entry) → entries ≡ front ++ run ++ back → IsRunOver front run back level lo hi
        → (front' run' back' : List Entry) → entries ≡ front' ++ run' ++ back' → IsRunOver front' run' back' other lo hi → level ≡ other
    by_runs front [] back parts over front' run' back' parts' over' = absurd (over.some refl)
    by_runs front (first ∷ rest) back parts over front' [] back' parts' over' = absurd (over'.some refl)
    by_runs front (first ∷ rest) back parts over front' (first' ∷ rest') back' parts' over' =
        one_level entries front first rest back front' first' rest' back' lo hi level other are parts over parts' over'

becomes_one : (entries : List Entry) (entry : Entry) (next other : List Entry) → AreEntries entries → Becomes entries entry next → Becomes entries entry other → next ≡ other
becomes_one entries entry next other are (follows place is) (follows place' is') = is ∙ sym is'
becomes_one entries entry next other are (follows place is) (stands front run back parts high over is') = absurd (omega (arith, place.1, high))
becomes_one entries entry next other are (stands front run back parts high over is) (follows place is') = absurd (omega (arith, place.1, high))
becomes_one entries entry next other are (stands front run back parts high over is) (stands front' run' back' parts' high' over' is') =
    is ∙ same_stand entries entry front run back front' run' back' are parts over parts' over' ∙ sym is'

takes_one : (index other : IndexView) (entry : Entry) (next last : IndexView) → AreEntries index.entries → IsSameIndex index other → Takes index entry next → Takes other entry last → IsSameIndex next last
takes_one index other entry next last are same one two = record {
  entries = becomes_one index.entries entry next.entries last.entries are one.becomes (subst (λ (l : List Entry). Becomes l entry last.entries) (sym same.entries) two.becomes);
  greatest = one.greatest ∙ sym two.greatest;
}

one_from : (start begin : IndexView) (taken : List Entry) (index other : IndexView) → AreEntries start.entries → IsSameIndex start begin → ComesFrom start taken index → ComesFrom begin taken other
    → IsSameIndex index other
one_from start begin [] index other are same one two = record { entries = one.0 ∙ same.entries ∙ sym two.0; greatest = one.1 ∙ same.greatest ∙ sym two.1 }
one_from start begin (entry ∷ later) index other are same (next, takes, comes) (last, takes', comes') =
    one_from next last later index other (AreEntries-becomes start.entries entry next.entries are takes.becomes) (takes_one start begin entry next last are same takes takes') comes comes'

no_entries : AreEntries []
no_entries = record { divide = tt; levels = λ i j d below within. absurd (omega (arith, within)) }

pub one_index : OneIndex
one_index taken index other one two = one_from nothing nothing taken index other no_entries (record { entries = refl; greatest = refl }) one two

-- entries are the same where their numbers are
same_entry : (x y : Entry) → x.lo ≡ y.lo → x.hi ≡ y.hi → x.id ≡ y.id → x.length ≡ y.length → x.tmin ≡ y.tmin → x.tmax ≡ y.tmax → x.level ≡ y.level → x ≡ y
same_entry x y lo hi id size tmin tmax level = λ i. record {
  lo = lo i;
  hi = hi i;
  id = id i;
  length = size i;
  tmin = tmin i;
  tmax = tmax i;
  level = level i;
  some = is_prop→PathP (λ j. lo j < hi j) (λ j. le_prop) x.some y.some i;
  known = is_prop→PathP (λ j. level j ≤ 3) (λ j. le_prop) x.known y.known i;
}

-- a body is the record of one entry
pub same_body : (body : List ℕ) (x y : Entry) → IsBodyOf body x → IsBodyOf body y → x ≡ y
same_body body x y is other =
    let same : body_of x ≡ body_of y = sym is.same ∙ other.same in
    same_entry x y
    (same_number x.lo y.lo (omega (arith, x.some, is.hi)) (omega (arith, y.some, other.hi)) (ap (λ (l : List ℕ). take 8 (drop 0 l)) same))
    (same_number x.hi y.hi is.hi other.hi (ap (λ (l : List ℕ). take 8 (drop 8 l)) same))
    (same_number x.id y.id is.id other.id (ap (λ (l : List ℕ). take 8 (drop 16 l)) same))
    (same_number x.length y.length is.length other.length (ap (λ (l : List ℕ). take 8 (drop 24 l)) same))
    (same_number x.tmin y.tmin is.tmin other.tmin (ap (λ (l : List ℕ). take 8 (drop 32 l)) same))
    (same_number x.tmax y.tmax is.tmax other.tmax (ap (λ (l : List ℕ). take 8 (drop 40 l)) same))
    (ap (λ (l : List ℕ). get_or l 48 0) same)

same_bodies : (bodies : List (List ℕ)) (taken others : List Entry) → AllZip IsBodyOf bodies taken → AllZip IsBodyOf bodies others → taken ≡ others
same_bodies [] [] [] are other = refl
same_bodies [] [] (y ∷ ys) are other = absurd other
same_bodies [] (x ∷ xs) others are other = absurd are
same_bodies (body ∷ more) [] others are other = absurd are
same_bodies (body ∷ more) (x ∷ xs) [] are other = absurd other
same_bodies (body ∷ more) (x ∷ xs) (y ∷ ys) are other =
    ap (λ (e : Entry). e ∷ xs) (same_body body x y are.0 other.0) ∙ ap (λ (l : List Entry). y ∷ l) (same_bodies more xs ys are.1 other.1)

pub one_index_of_bodies : OneIndexOfBodies
one_index_of_bodies bodies index other (taken, are, comes) (others, are', comes') =
    one_index taken index other comes (subst (λ (l : List Entry). ComesTo l other) (sym (same_bodies bodies taken others are are')) comes')

taken_alike : (index other : IndexView) (entry : Entry) → IsSameIndex index other → IsTaken index entry → IsTaken other entry
taken_alike index other entry same taken = record {
  later = omega (arith, same.greatest, taken.later);
  bounded = taken.bounded;
  fits = subst (λ (l : List Entry). HasPlace l entry) same.entries taken.fits;
}

-- the record that comes next is taken, since it was taken once
next_from : (start begin : IndexView) (bodies : List (List ℕ)) (body : List ℕ) (more : List (List ℕ)) (taken others : List Entry) (index last : IndexView) (entry : Entry) → AreEntries start.entries → IsSameIndex start begin
    → AllZip IsBodyOf (bodies ++ body ∷ more) taken → ComesFrom start taken last → AllZip IsBodyOf bodies others → ComesFrom begin others index → IsBodyOf body entry → IsTaken index entry
next_from start begin [] body more [] others index last entry divide same are comes are' comes' is = absurd are
next_from start begin [] body more (x ∷ xs) (y ∷ ys) index last entry divide same are comes are' comes' is = absurd are'
next_from start begin [] body more (x ∷ xs) [] index last entry divide same are (next, takes, comes) are' comes' is =
    taken_alike start index entry (record { entries = same.entries ∙ sym comes'.0; greatest = same.greatest ∙ sym comes'.1 })
    (subst (IsTaken start) (same_body body x entry are.0 is) takes.taken)
next_from start begin (first ∷ bodies) body more [] others index last entry divide same are comes are' comes' is = absurd are
next_from start begin (first ∷ bodies) body more (x ∷ xs) [] index last entry divide same are comes are' comes' is = absurd are'
next_from start begin (first ∷ bodies) body more (x ∷ xs) (y ∷ ys) index last entry divide same are (next, takes, comes) are' (next', takes', comes') is =
    next_from next next' bodies body more xs ys index last entry (AreEntries-becomes start.entries x next.entries divide takes.becomes)
    (takes_one start begin x next next' divide same takes (subst (λ (e : Entry). Takes begin e next') (sym (same_body first x y are.0 are'.0)) takes'))
    are.1 comes are'.1 comes' is

pub next_is_taken : NextIsTaken
next_is_taken bodies body more index last entry (taken, are, comes) (others, are', comes') is =
    next_from nothing nothing bodies body more taken others index last entry no_entries (record { entries = refl; greatest = refl }) are comes are' comes' is
