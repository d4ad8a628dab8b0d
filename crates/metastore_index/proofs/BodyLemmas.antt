-- The parts of a record.
use Rattle.std.proofs.Common.{◌≡◌, ℕ, ◌+◌, ◌<◌, ◌^◌, Bool, true, false, List, [], ◌∷◌, ◌++◌, length, get_or, take, drop, replicate, sym, true≢false, ap, ◌∙◌, w64, arith}
use Rattle.std.specs.Int.{bytes_high_first, from_be_bytes}
use Rattle.std.specs.List.{flat_map}
use Rattle.std.proofs.lemmas.List.{take-append-drop, take_all, length-drop, drop-drop, drop_more}
use Rattle.std.proofs.lemmas.Slice.Eq.{bytes_eq-Decides}
use Rattle.std.specs.Str.{bytes_eq}
use Rattle.std.proofs.lemmas.Nat.{from_be_bytes-to_be_bytes_8}
use Rattle.metastore_index.specs.declared.entry.Entry.{Entry}
use Rattle.metastore_index.specs.Bodies.{body_of}

part_at : (body : List ℕ) (at n : ℕ) → take 8 (drop at body) ≡ bytes_high_first 8 n → drop at body ≡ bytes_high_first 8 n ++ drop (at + 8) body
part_at body at n is =
    sym (take-append-drop 8 (drop at body)) ∙ ap (λ (l : List ℕ). l ++ drop 8 (drop at body)) is ∙ ap (λ (l : List ℕ). bytes_high_first 8 n ++ l) (drop-drop 8 at body)

-- a record whose parts are known
pub body_is : (body : List ℕ) (lo hi id size tmin tmax : ℕ) → length body ≡ 63
    → take 8 (drop 0 body) ≡ bytes_high_first 8 lo → take 8 (drop 8 body) ≡ bytes_high_first 8 hi → take 8 (drop 16 body) ≡ bytes_high_first 8 id
    → take 8 (drop 24 body) ≡ bytes_high_first 8 size → take 8 (drop 32 body) ≡ bytes_high_first 8 tmin → take 8 (drop 40 body) ≡ bytes_high_first 8 tmax
    → drop 49 body ≡ replicate 14 0
    → body ≡ flat_map (bytes_high_first 8) (lo ∷ hi ∷ id ∷ size ∷ tmin ∷ tmax ∷ []) ++ get_or body 48 0 ∷ replicate 14 0
body_is body lo hi id size tmin tmax long a b c d e f zeros =
    part_at body 0 lo a ∙ ap (λ (l : List ℕ). bytes_high_first 8 lo ++ l)
    (part_at body 8 hi b ∙ ap (λ (l : List ℕ). bytes_high_first 8 hi ++ l)
    (part_at body 16 id c ∙ ap (λ (l : List ℕ). bytes_high_first 8 id ++ l)
    (part_at body 24 size d ∙ ap (λ (l : List ℕ). bytes_high_first 8 size ++ l)
    (part_at body 32 tmin e ∙ ap (λ (l : List ℕ). bytes_high_first 8 tmin ++ l)
    (part_at body 40 tmax f ∙ ap (λ (l : List ℕ). bytes_high_first 8 tmax ++ l)
    (drop_more body 48 0 (omega arith) ∙ ap (λ (l : List ℕ). get_or body 48 0 ∷ l) zeros))))))

pub same_number : (m n : ℕ) → m < 2 ^ 64 → n < 2 ^ 64 → bytes_high_first 8 m ≡ bytes_high_first 8 n → m ≡ n
same_number m n low within same =
    sym (from_be_bytes-to_be_bytes_8 m low) ∙ ap (from_be_bytes w64) same ∙ from_be_bytes-to_be_bytes_8 n within

last_part : (body : List ℕ) → length body ≡ 63 → take 14 (drop 49 body) ≡ drop 49 body
last_part body long = take_all 14 (drop 49 body) (omega (arith, length-drop 49 body, long))

-- what the test of the last bytes says
pub ends_zero : (body : List ℕ) (same : Bool) → length body ≡ 63 → same ≡ bytes_eq (take 14 (drop 49 body)) (replicate 14 0) → same ≡ true → drop 49 body ≡ replicate 14 0
ends_zero body same long is holds =
    sym (last_part body long) ∙ (bytes_eq-Decides (take 14 (drop 49 body)) (replicate 14 0)).0 (sym is ∙ holds)

pub ends_otherwise : (body : List ℕ) (same : Bool) → length body ≡ 63 → same ≡ bytes_eq (take 14 (drop 49 body)) (replicate 14 0) → same ≡ false → drop 49 body ≡ replicate 14 0 → ⊥
ends_otherwise body same long is other zeros =
    let equal = (bytes_eq-Decides (take 14 (drop 49 body)) (replicate 14 0)).1 (last_part body long ∙ zeros) in
    true≢false (sym equal ∙ sym is ∙ other)

-- what stands in an entry's record
pub record IsRecordOf (body : List ℕ) (entry : Entry) (lo hi : ℕ) : Type 0 where
  pub from : lo ≡ entry.lo
  pub until : hi ≡ entry.hi
  pub level : get_or body 48 0 ≡ entry.level
  pub zeros : drop 49 body ≡ replicate 14 0

pub record_of : (body : List ℕ) (entry : Entry) (lo hi : ℕ) → lo < 2 ^ 64 → hi < 2 ^ 64 → entry.hi < 2 ^ 64
    → take 8 (drop 0 body) ≡ bytes_high_first 8 lo → take 8 (drop 8 body) ≡ bytes_high_first 8 hi → body ≡ body_of entry → IsRecordOf body entry lo hi
record_of body entry lo hi low high within first second is = record {
  from = same_number lo entry.lo low (omega (arith, entry.some, within)) (sym first ∙ ap (λ (l : List ℕ). take 8 (drop 0 l)) is);
  until = same_number hi entry.hi high within (sym second ∙ ap (λ (l : List ℕ). take 8 (drop 8 l)) is);
  level = ap (λ (l : List ℕ). get_or l 48 0) is;
  zeros = ap (λ (l : List ℕ). drop 49 l) is;
}
