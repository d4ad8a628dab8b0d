-- Entries that divide the pushes, and the ends of their fronts.
use Rattle.std.proofs.Common.{◌≡◌, ℕ, zero, suc, ◌-◌, ◌<◌, ◌≤◌, List, [], ◌∷◌, ◌++◌, length, get_or, take, refl, sym, ap, ◌∙◌, arith}
use Rattle.std.proofs.lemmas.List.{take_all}
use Rattle.metastore_index.specs.declared.entry.Entry.{Entry}
use Rattle.metastore_index.specs.Entries.{DivideFrom, end_of}

-- the push after the last of these entries, where they begin at a push
abbrev pub end_from : ℕ → List Entry → ℕ
end_from start [] = start
end_from start (entry ∷ more) = end_from entry.hi more

pub end_of-cons : (entry : Entry) (more : List Entry) → end_of (entry ∷ more) ≡ end_from entry.hi more
end_of-cons entry [] = refl
end_of-cons entry (next ∷ more) = end_of-cons next more

pub end_of-from : (entries : List Entry) → end_of entries ≡ end_from 0 entries
end_of-from [] = refl
end_of-from (entry ∷ more) = end_of-cons entry more

pub end_from-append : (start : ℕ) (xs ys : List Entry) → end_from start (xs ++ ys) ≡ end_from (end_from start xs) ys
end_from-append start [] ys = refl
end_from-append start (x ∷ xs) ys = end_from-append x.hi xs ys

pub end_of-push : (entries : List Entry) (entry : Entry) → end_of (entries ++ entry ∷ []) ≡ entry.hi
end_of-push entries entry = end_of-from (entries ++ entry ∷ []) ∙ end_from-append 0 entries (entry ∷ [])

pub DivideFrom-first : (start : ℕ) (xs ys : List Entry) → DivideFrom start (xs ++ ys) → DivideFrom start xs
DivideFrom-first start [] ys divide = tt
DivideFrom-first start (x ∷ xs) ys divide = (divide.0, DivideFrom-first x.hi xs ys divide.1)

pub DivideFrom-second : (start : ℕ) (xs ys : List Entry) → DivideFrom start (xs ++ ys) → DivideFrom (end_from start xs) ys
DivideFrom-second start [] ys divide = divide
DivideFrom-second start (x ∷ xs) ys divide = DivideFrom-second x.hi xs ys divide.1

pub DivideFrom-append : (start : ℕ) (xs ys : List Entry) → DivideFrom start xs → DivideFrom (end_from start xs) ys → DivideFrom start (xs ++ ys)
DivideFrom-append start [] ys first second = second
DivideFrom-append start (x ∷ xs) ys first second = (first.0, DivideFrom-append x.hi xs ys first.1 second)

-- an entry begins where those before it end
lo_from : (start : ℕ) (entries : List Entry) (k : ℕ) (d : Entry) → DivideFrom start entries → k < length entries → (get_or entries k d).lo ≡ end_from start (take k entries)
lo_from start [] k d divide within = absurd (omega (arith, within))
lo_from start (entry ∷ more) zero d divide within = divide.0
lo_from start (entry ∷ more) (suc k) d divide within = lo_from entry.hi more k d divide.1 (omega (arith, within))

pub lo_at : (entries : List Entry) (k : ℕ) (d : Entry) → DivideFrom 0 entries → k < length entries → (get_or entries k d).lo ≡ end_of (take k entries)
lo_at entries k d divide within = lo_from 0 entries k d divide within ∙ sym (end_of-from (take k entries))

hi_from : (start : ℕ) (entries : List Entry) (k : ℕ) (d : Entry) → k < length entries → (get_or entries k d).hi ≡ end_from start (take (suc k) entries)
hi_from start [] k d within = absurd (omega (arith, within))
hi_from start (entry ∷ more) zero d within = refl
hi_from start (entry ∷ more) (suc k) d within = hi_from entry.hi more k d (omega (arith, within))

-- an entry ends where the front ends whose last it is
pub hi_at : (entries : List Entry) (k : ℕ) (d : Entry) → k < length entries → (get_or entries k d).hi ≡ end_of (take (suc k) entries)
hi_at entries k d within = hi_from 0 entries k d within ∙ sym (end_of-from (take (suc k) entries))

after_start : (start : ℕ) (entries : List Entry) (k : ℕ) (d : Entry) → DivideFrom start entries → k < length entries → start < (get_or entries k d).hi
after_start start [] k d divide within = absurd (omega (arith, within))
after_start start (entry ∷ more) zero d divide within = omega (arith, divide.0, entry.some)
after_start start (entry ∷ more) (suc k) d divide within =
    omega (arith, divide.0, entry.some, after_start entry.hi more k d divide.1 (omega (arith, within)))

rises_from : (start : ℕ) (entries : List Entry) (i j : ℕ) (d : Entry) → DivideFrom start entries → i < j → j < length entries → (get_or entries i d).hi < (get_or entries j d).hi
rises_from start [] i j d divide below within = absurd (omega (arith, within))
rises_from start (entry ∷ more) i zero d divide below within = absurd (omega (arith, below))
rises_from start (entry ∷ more) zero (suc j) d divide below within = after_start entry.hi more j d divide.1 (omega (arith, within))
rises_from start (entry ∷ more) (suc i) (suc j) d divide below within =
    rises_from entry.hi more i j d divide.1 (omega (arith, below)) (omega (arith, within))

-- a later entry ends later
pub hi_rises : (entries : List Entry) (i j : ℕ) (d : Entry) → DivideFrom 0 entries → i < j → j < length entries → (get_or entries i d).hi < (get_or entries j d).hi
hi_rises entries i j d divide below within = rises_from 0 entries i j d divide below within

-- the end of entries whose last is known
pub end_of_last : (entries : List Entry) (last : Entry) → 0 < length entries → get_or entries (length entries - 1) last ≡ last → end_of entries ≡ last.hi
end_of_last entries last some is =
    let e = hi_at entries (length entries - 1) last (omega (arith, some)) in
    let all : take (suc (length entries - 1)) entries ≡ entries = take_all (suc (length entries - 1)) entries (omega arith) in
    sym (ap (λ (entry : Entry). entry.hi) (sym is) ∙ e ∙ ap end_of all)

pub end_of_none : (entries : List Entry) → length entries ≤ 0 → 0 ≡ end_of entries
end_of_none [] none = refl
end_of_none (entry ∷ more) none = absurd (omega (arith, none))
