-- Bytes that end inside a number, a text or a mark.
use Rattle.std.proofs.Common.{◌≡◌, ◌≢◌, ℕ, suc, zero, ◌+◌, ◌-◌, ◌<◌, ◌≤◌, ◌^◌, List, [], ◌∷◌, ◌++◌, length, get_or, take, drop, refl, subst, sym, ap, ◌∙◌, w32, w64, arith}
use Rattle.std.specs.Int.{bytes_high_first, from_be_bytes}
use Rattle.std.proofs.lemmas.List.{append_assoc, length-append, take-append-drop}
use Rattle.std.proofs.lemmas.Nat.{be_bytes_4, be_bytes_8}
use Rattle.segment_file.specs.declared.fault.ObjectFault.{ObjectFault}
use Rattle.segment_file.specs.declared.fault.ObjectRule.TheVariants.{Form}
use Rattle.segment_file.specs.Reading.{AreShort, CursorView, IsCut, IsWhole, Passes, marks, numbers, texts}
use Rattle.segment_file.proofs.ReadLemmas.{fillers, length-fillers}

abbrev pub AreBytes : List ℕ → Type 0
AreBytes bytes = (i : ℕ) → get_or bytes i 0 < 256

abbrev pub zeros : ℕ → List ℕ
zeros n = fillers {A = ℕ} 0 n

pub length-zeros : (n : ℕ) → length (zeros n) ≡ n
length-zeros n = length-fillers {A = ℕ} 0 n

zeros_are : (n : ℕ) → AreBytes (zeros n)
zeros_are zero i = omega arith
zeros_are (suc n) zero = omega arith
zeros_are (suc n) (suc i) = zeros_are n i

both_are : (bytes more : List ℕ) → AreBytes bytes → AreBytes more → AreBytes (bytes ++ more)
both_are [] more are also i = also i
both_are (b ∷ bytes) more are also zero = are 0
both_are (b ∷ bytes) more are also (suc i) = both_are bytes more (λ j. are (suc j)) also i

-- these bytes and zeros behind them, so many in all
abbrev filled : List ℕ → ℕ → List ℕ
filled bytes size = bytes ++ zeros (size - length bytes)

filled-long : (bytes : List ℕ) (size : ℕ) → length bytes < size → length (filled bytes size) ≡ size
filled-long bytes size short = length-append bytes (zeros (size - length bytes)) ∙ omega (arith, length-zeros (size - length bytes), short)

filled_are : (bytes : List ℕ) (size : ℕ) → AreBytes bytes → AreBytes (filled bytes size)
filled_are bytes size are = both_are bytes (zeros (size - length bytes)) are (zeros_are (size - length bytes))

some_missing : (n : ℕ) → 0 < n → zeros n ≢ []
some_missing zero some none = absurd (omega (arith, some))
some_missing (suc n) some none = absurd cc

pub four_below : (bytes : List ℕ) → AreBytes bytes → from_be_bytes w32 bytes < 256 ^ 4
four_below bytes are = omega (arith, are 0, are 1, are 2, are 3)

pub eight_below : (bytes : List ℕ) → AreBytes bytes → from_be_bytes w64 bytes < 256 ^ 8
eight_below bytes are = omega (arith, are 0, are 1, are 2, are 3, are 4, are 5, are 6, are 7)

pub cut_four : (c : CursorView) (fault : ObjectFault) → AreShort 4 c.rest → fault.rule ≡ Form → fault.at ≡ c.at + length c.rest → IsCut (numbers 4) c fault
cut_four c fault short rule place =
    let all = filled c.rest 4 in record {
      item = from_be_bytes w32 all;
      fits = four_below all (filled_are c.rest 4 short.each);
      missing = zeros (4 - length c.rest);
      part = be_bytes_4 all (from_be_bytes w32 all) (filled-long c.rest 4 short.few) (filled_are c.rest 4 short.each) refl;
      some = some_missing (4 - length c.rest) (omega (arith, short.few));
      rule = rule;
      place = place;
    }

pub cut_eight : (c : CursorView) (fault : ObjectFault) → AreShort 8 c.rest → fault.rule ≡ Form → fault.at ≡ c.at + length c.rest → IsCut (numbers 8) c fault
cut_eight c fault short rule place =
    let all = filled c.rest 8 in record {
      item = from_be_bytes w64 all;
      fits = eight_below all (filled_are c.rest 8 short.each);
      missing = zeros (8 - length c.rest);
      part = be_bytes_8 all (from_be_bytes w64 all) (filled-long c.rest 8 short.few) (filled_are c.rest 8 short.each) refl;
      some = some_missing (8 - length c.rest) (omega (arith, short.few));
      rule = rule;
      place = place;
    }

pub cut_mark : (c : CursorView) (fault : ObjectFault) → length c.rest < 4 → fault.rule ≡ Form → fault.at ≡ c.at + length c.rest → IsCut marks c fault
cut_mark c fault short rule place = record {
  item = filled c.rest 4;
  fits = filled-long c.rest 4 short;
  missing = zeros (4 - length c.rest);
  part = refl;
  some = some_missing (4 - length c.rest) (omega (arith, short));
  rule = rule;
  place = place;
}

-- ---- texts

-- the bytes end inside the length
pub cut_length : (c : CursorView) (fault : ObjectFault) → IsCut (numbers 4) c fault → IsCut texts c fault
cut_length c fault cut = record {
  item = zeros cut.item;
  fits = omega (arith, length-zeros cut.item, cut.fits);
  missing = cut.missing ++ zeros cut.item;
  part =
      ap (λ (n : ℕ). bytes_high_first 4 n ++ zeros cut.item) (length-zeros cut.item) ∙ ap (λ (l : List ℕ). l ++ zeros cut.item) cut.part
      ∙ append_assoc c.rest cut.missing (zeros cut.item);
  some = λ none. cut.some (front_none cut.missing (zeros cut.item) none);
  rule = cut.rule;
  place = cut.place;
} where
  front_none : (front back : List ℕ) → front ++ back ≡ [] → front ≡ []
  front_none [] back none = refl
  front_none (x ∷ front) back none = absurd cc

-- the bytes end inside the text
pub cut_text : (p q : CursorView) (size : ℕ) (fault : ObjectFault) → IsWhole (numbers 4) p q size → length q.rest < size
    → fault.rule ≡ Form → fault.at ≡ q.at + length q.rest → IsCut texts p fault
cut_text p q size fault whole short rule place =
    let long = filled-long q.rest size short in
    let sum = ap length whole.passes.bytes_are ∙ length-append (bytes_high_first 4 size) q.rest in record {
      item = filled q.rest size;
      fits = omega (arith, long, whole.fits);
      missing = zeros (size - length q.rest);
      part =
          ap (λ (n : ℕ). bytes_high_first 4 n ++ filled q.rest size) long ∙ sym (append_assoc (bytes_high_first 4 size) q.rest (zeros (size - length q.rest)))
          ∙ ap (λ (l : List ℕ). l ++ zeros (size - length q.rest)) (sym whole.passes.bytes_are);
      some = some_missing (size - length q.rest) (omega (arith, short));
      rule = rule;
      place = omega (arith, place, whole.passes.place, sum);
    }

pub whole_text : (p q r : CursorView) (size : ℕ) (text : List ℕ) → IsWhole (numbers 4) p q size → length text ≡ size → Passes text q r → IsWhole texts p r text
whole_text p q r size text whole long passes = record {
  fits = omega (arith, long, whole.fits);
  passes = record {
    bytes_are =
        whole.passes.bytes_are ∙ ap (λ (l : List ℕ). bytes_high_first 4 size ++ l) passes.bytes_are ∙ sym (append_assoc (bytes_high_first 4 size) text r.rest)
        ∙ ap (λ (n : ℕ). (bytes_high_first 4 n ++ text) ++ r.rest) (sym long);
    place =
        let sum = length-append (bytes_high_first 4 (length text)) text in
        let first = length-append (bytes_high_first 4 size) [] in
        omega (arith, passes.place, whole.passes.place, sum, long);
  };
}

-- ---- the bytes at the front

take_are : (n : ℕ) (bytes : List ℕ) → AreBytes bytes → AreBytes (take n bytes)
take_are zero bytes are i = zeros_are 0 i
take_are (suc n) [] are i = zeros_are 0 i
take_are (suc n) (b ∷ bytes) are zero = are 0
take_are (suc n) (b ∷ bytes) are (suc i) = take_are n bytes (λ j. are (suc j)) i

take-long : (n : ℕ) (bytes : List ℕ) → n ≤ length bytes → length (take n bytes) ≡ n
take-long zero bytes long = refl
take-long (suc n) [] long = absurd (omega (arith, long))
take-long (suc n) (b ∷ bytes) long = ap suc (take-long n bytes (omega (arith, long)))

pub front_four : (bytes front rest : List ℕ) (n : ℕ) → AreBytes bytes → 4 ≤ length bytes → front ≡ take 4 bytes → rest ≡ drop 4 bytes → n ≡ from_be_bytes w32 front
    → (n < 256 ^ 4) × (bytes ≡ bytes_high_first 4 n ++ rest)
front_four bytes front rest n are long is behind number =
    let named : n ≡ from_be_bytes w32 (take 4 bytes) = number ∙ ap (from_be_bytes w32) is in
    let spelled : bytes_high_first 4 n ≡ take 4 bytes = be_bytes_4 (take 4 bytes) n (take-long 4 bytes long) (take_are 4 bytes are) named in (
      subst (λ (m : ℕ). m < 256 ^ 4) (sym named) (four_below (take 4 bytes) (take_are 4 bytes are)),
      sym (take-append-drop 4 bytes) ∙ (λ i. sym spelled i ++ sym behind i),
    )

pub front_eight : (bytes front rest : List ℕ) (n : ℕ) → AreBytes bytes → 8 ≤ length bytes → front ≡ take 8 bytes → rest ≡ drop 8 bytes → n ≡ from_be_bytes w64 front
    → (n < 256 ^ 8) × (bytes ≡ bytes_high_first 8 n ++ rest)
front_eight bytes front rest n are long is behind number =
    let named : n ≡ from_be_bytes w64 (take 8 bytes) = number ∙ ap (from_be_bytes w64) is in
    let spelled : bytes_high_first 8 n ≡ take 8 bytes = be_bytes_8 (take 8 bytes) n (take-long 8 bytes long) (take_are 8 bytes are) named in (
      subst (λ (m : ℕ). m < 256 ^ 8) (sym named) (eight_below (take 8 bytes) (take_are 8 bytes are)),
      sym (take-append-drop 8 bytes) ∙ (λ i. sym spelled i ++ sym behind i),
    )
