-- The entry that holds a push.
use Rattle.std.proofs.Common.{◌≡◌, ℕ, zero, suc, ◌<◌, ◌≤◌, List, [], ◌∷◌, length, get_or, take, Bor, HoldsAt, MatchOption, option_copied, Option, Some, None, IfSome, IsNone, slice_get, refl, sym, ap, ◌∙◌, true≢false, ⊎_elim, arith}
use Rattle.std.specs.List.{AllWithin}
use Rattle.std.proofs.lemmas.Bool.{cases_lt}
use Rattle.std.proofs.lemmas.List.{take_all}
use Rattle.std.proofs.lemmas.Option.{slice_get-get_or, slice_get_past, slice_get_within}
use Rattle.metastore_index.specs.declared.entry.Entry.{Entry}
use Rattle.metastore_index.specs.Entries.{AreEntries, Covers, end_of}
use Rattle.metastore_index.proofs.DivideLemmas.{lo_at, hi_at}

front_ends : (entries : List Entry) (at n : ℕ) → AllWithin (λ entry. entry.hi ≤ at) entries 0 n → n ≤ length entries → end_of (take n entries) ≤ at
front_ends entries at zero before within = omega arith
front_ends [] at (suc n) before within = absurd (omega (arith, within))
front_ends (entry ∷ more) at (suc n) before within =
    omega (arith, hi_at (entry ∷ more) n entry (omega (arith, within)), before n entry (omega arith) (omega arith))

-- what `get` found, copied
pub copied_is : (entries : List Entry) (n : ℕ) (found : Option (Bor Entry)) → MatchOption found (length entries ≤ n) (λ x. (n < length entries) × HoldsAt (λ y. x.now ≡ y) entries n)
    → option_copied found ≡ slice_get entries n
copied_is entries n None past = sym (slice_get_past entries n past)
copied_is entries n (Some x) at = ap Some (at.1 x.now) ∙ sym (slice_get-get_or entries n x.now at.0)

module _ (entries : List Entry) (at n : ℕ) (are : AreEntries entries) (before : AllWithin (λ entry. entry.hi ≤ at) entries 0 n)
    (others : AllWithin (λ entry. at < entry.hi) entries n (length entries)) (within : n ≤ length entries) where
  pub entry_covers : (found : Option Entry) → found ≡ slice_get entries n → IfSome found (λ entry. Covers entries at entry)
  entry_covers None is = tt
  entry_covers (Some entry) is =
      let inside = slice_get_within entries n entry (sym is) in
      let e = slice_get-get_or entries n entry inside in
      let same : get_or entries n entry ≡ entry = cc in
      record {
        among = (n, inside, same);
        from = omega (arith, ap (λ (x : Entry). x.lo) same, lo_at entries n entry are.divide inside, front_ends entries at n before within);
        until = omega (arith, ap (λ (x : Entry). x.hi) same, others n entry (omega arith) inside);
      }

  pub none_covers : (found : Option Entry) → found ≡ slice_get entries n → IsNone found → end_of entries ≤ at
  none_covers (Some entry) is none = absurd (true≢false none)
  none_covers None is none = by_entries entries refl
    where
      by_entries : (all : List Entry) → entries ≡ all → end_of entries ≤ at
      by_entries [] e = omega (arith, ap end_of e)
      by_entries (first ∷ rest) e =
          let last : n ≡ length entries = ⊎_elim
          (λ lt. let some = slice_get-get_or entries n first lt in cc)
          (λ le. omega arith)
          (cases_lt n (length entries)) in
          omega (arith, ap end_of (take_all n entries (omega arith)), front_ends entries at n before within)
