-- What a written profile is read as.
use Rattle.std.proofs.Common.{◌≡◌, ◌==◌, ℕ, zero, suc, Ok, ◌+◌, ◌*◌, ◌^◌, ◌<◌, ◌≤◌, List, [], ◌∷◌, ◌++◌, length, map, reverse, Bool, true, false, cond, Some, None, refl, sym, ap, ◌∙◌, subst, append-nil, arith}
use Rattle.std.specs.Prelude.{pos}
use Rattle.std.specs.Option.{option_or}
use Rattle.std.specs.List.{All, AllByRecursion, cons_option, enumerate_from, filter_map, flat_map, range_with_len}
use Rattle.std.proofs.lemmas.Grind.{flat_map-append}
use Rattle.std.proofs.lemmas.List.{length-append, length-map, length-reverse, map-id}
use Rattle.std.proofs.lemmas.List.Elements.{recursion_from_All}
use Rattle.wire_proto.specs.Message.{WireField}
use Rattle.wire_proto.specs.Reading.{fields_of}
use Rattle.wire_proto.specs.Writing.{bytes_field, varint}
use Rattle.wire_proto.proofs.Written.{varint_spelled}
use Rattle.profile_model.specs.Sums.{Sample}
use Rattle.profile_model.specs.declared.kind.ProfileType.{ProfileType}
use Rattle.pprof_message.specs.Broken.{broken_in, broken_part, broken_place, in_location, in_pprof, in_sample, no_part}
use Rattle.pprof_message.specs.Fields as found
use Rattle.pprof_message.specs.Fields.{fields_in, messages, merged, number_of, parts, singular}
use Rattle.pprof_message.specs.Messages.{function_of, int64, location_of, pprof_of, sample_of, value_type_of}
use Rattle.pprof_message.specs.Read.{IsReadMessage}
use Rattle.pprof_message.specs.declared.lists.ValueType.{ValueType}
use Rattle.pprof_writer.specs.Fields.{Field, Number, Part, message}
use Rattle.pprof_writer.specs.Messages.{AreHeld, said, said_function, said_location, said_sample, said_type}
use Rattle.pprof_writer.specs.Tables.{frames_in, id_of, place_of, texts_of}
use Rattle.pprof_writer.specs.Written.{fields_with, packed, profile_fields, value_type, written_function, written_line, written_location, written_pprof, written_sample}
use Rattle.pprof_writer.proofs.ListLemmas.{all-append, all-map, all-weaker, map-agrees}
use Rattle.pprof_writer.proofs.MessageLemmas.{AreRead, AreSound, IsSound, IsUnbroken, bytes_in, held, message-read, message-unbroken, messages-placed, none-either, placed, unbroken}
use Rattle.pprof_writer.proofs.PieceLemmas.{function-read, int64-is, line-short, location, location-read, numbers, packed-read, packed-short, sound-location, sound-numbers, value-type-read}
use Rattle.pprof_writer.proofs.PlaceLemmas.{place-within}

-- ---- a sample

abbrev sample_fields : List ℕ → ℕ → List Field
sample_fields ids value = Part 1 (packed ids) ∷ Part 2 (packed (value ∷ [])) ∷ []

pub record IsSmall (ids : List ℕ) (value : ℕ) : Type 0 where
  pub ids_fit : AllByRecursion (λ n. n < 2 ^ 64) ids
  pub few : length ids < 2 ^ 50
  pub value_fits : value < 2 ^ 63

value-small : (value : ℕ) → value < 2 ^ 63 → AllByRecursion (λ n. n < 2 ^ 64) (value ∷ [])
value-small value small = (omega arith, tt)

sound-sample : (ids : List ℕ) (value : ℕ) → IsSmall ids value → AreSound (sample_fields ids value)
sound-sample ids value small =
    let first = packed-short ids small.ids_fit in
    let few = small.few in
    let second = packed-short (value ∷ []) (value-small value small.value_fits) in
    (record { not_zero = omega arith; at_most_last = omega arith; short = omega arith }, (record { not_zero = omega arith; at_most_last = omega arith; short = omega arith }, tt))

sample-read : (ids : List ℕ) (value at : ℕ) → IsSmall ids value
    → sample_of (fields_of (message (sample_fields ids value)) at).fields ≡ record { location_ids = ids; values = pos value ∷ []; labels = [] }
sample-read ids value at small =
    let first = packed-read ids small.ids_fit in
    let second = packed-read (value ∷ []) (value-small value small.value_fits) in
    ap (λ m. sample_of m.fields) (message-read (sample_fields ids value) at (sound-sample ids value small))
    ∙ (λ i. record { location_ids = (ap (λ (p : found.Packed). p.numbers ++ []) first ∙ append-nil ids) i; values = map int64 (ap (λ (p : found.Packed). p.numbers ++ []) second i); labels = [] })
    ∙ (λ i. record { location_ids = ids; values = int64-is value small.value_fits i ∷ []; labels = [] })

packed-unbroken : (ns : List ℕ) (at : ℕ) → AllByRecursion (λ n. n < 2 ^ 64) ns → cond (found.packed (packed ns)).is_whole None (Some at) ≡ None
packed-unbroken ns at small = ap (λ (p : found.Packed). cond p.is_whole None (Some at)) (packed-read ns small)

sample-unbroken : (ids : List ℕ) (value : ℕ) → IsSmall ids value → AllByRecursion (IsUnbroken in_sample) (sample_fields ids value)
sample-unbroken ids value small = (
  (λ at. ap (λ o. option_or o (option_or None None)) (packed-unbroken ids at small.ids_fit)),
  ((λ at. ap (λ o. option_or o None) (packed-unbroken (value ∷ []) at (value-small value small.value_fits))), tt),
)

-- ---- fields of a profile

abbrev IsWhole : Field → Type 0
IsWhole (Number number n) = ⊥
IsWhole (Part number bytes) = Unit {0}

pub record IsGood (field : Field) : Type 0 where
  pub sound : IsSound field
  pub unbroken : IsUnbroken in_pprof field
  pub is_part : IsWhole field

abbrev AreGood : List Field → Type 0
AreGood fields = AllByRecursion IsGood fields

no-numbers : (number : ℕ) (fields : List Field) (at : ℕ) → AllByRecursion IsWhole fields → filter_map (number_of number) (placed at fields) ≡ []
no-numbers number [] at whole = refl
no-numbers number (Number other n ∷ fields) at whole = absurd whole.0
no-numbers number (Part other bytes ∷ fields) at whole =
    ap (λ o. cons_option o (filter_map (number_of number) (placed (at + length (bytes_field other bytes)) fields))) (none-either (other == number))
    ∙ no-numbers number fields (at + length (bytes_field other bytes)) whole.1

part-bytes : (bytes : List ℕ) (place : ℕ) (b : Bool) (more : List found.Part) (others : List (List ℕ)) → map (λ part. part.bytes) more ≡ others
    → map (λ part. part.bytes) (cons_option (cond b (Some (record { bytes = bytes; at = place })) None) more) ≡ cond b (bytes ∷ []) [] ++ others
part-bytes bytes place true more others rest = ap (λ ts. bytes ∷ ts) rest
part-bytes bytes place false more others rest = rest

-- the bytes in the fields of a number
parts-placed : (number : ℕ) (fields : List Field) (at : ℕ) → AllByRecursion IsWhole fields → map (λ part. part.bytes) (parts number (placed at fields)) ≡ held number fields
parts-placed number [] at whole = refl
parts-placed number (Number other n ∷ fields) at whole = absurd whole.0
parts-placed number (Part other bytes ∷ fields) at whole =
    part-bytes bytes _ (other == number) (parts number (placed (at + length (bytes_field other bytes)) fields)) (held number fields)
    (parts-placed number fields (at + length (bytes_field other bytes)) whole.1)

held-same : {X : Type 0} (number other : ℕ) (bytes : X → List ℕ) (xs : List X) → (other == number) ≡ true → held number (fields_with other bytes xs) ≡ map bytes xs
held-same number other bytes [] is = refl
held-same number other bytes (x ∷ xs) is = (λ i. cond (is i) (bytes x ∷ []) [] ++ held-same number other bytes xs is i)

held-other : {X : Type 0} (number other : ℕ) (bytes : X → List ℕ) (xs : List X) → (other == number) ≡ false → held number (fields_with other bytes xs) ≡ []
held-other number other bytes [] is = refl
held-other number other bytes (x ∷ xs) is = (λ i. cond (is i) (bytes x ∷ []) [] ++ held-other number other bytes xs is i)

held-six : (number : ℕ) (a b c d e f : List Field) (a' b' c' d' e' f' : List (List ℕ)) → held number a ≡ a' → held number b ≡ b' → held number c ≡ c' → held number d ≡ d' → held number e ≡ e' → held number f ≡ f'
    → held number (a ++ b ++ c ++ d ++ e ++ f) ≡ a' ++ b' ++ c' ++ d' ++ e' ++ f'
held-six number a b c d e f a' b' c' d' e' f' ha hb hc hd he hf =
    flat_map-append (bytes_in number) (a ++ b ++ c ++ d ++ e) f
    ∙ ap (λ t. t ++ held number f) (flat_map-append (bytes_in number) (a ++ b ++ c ++ d) e
    ∙ ap (λ t. t ++ held number e) (flat_map-append (bytes_in number) (a ++ b ++ c) d
    ∙ ap (λ t. t ++ held number d) (flat_map-append (bytes_in number) (a ++ b) c
    ∙ ap (λ t. t ++ held number c) (flat_map-append (bytes_in number) a b))))
    ∙ (λ i. ha i ++ hb i ++ hc i ++ hd i ++ he i ++ hf i)

-- members of a number are read from their bytes
members-read : {X A : Type 0} (number : ℕ) (read : List WireField → A) (bytes : X → List ℕ) (g : X → A) (xs : List X) (fields : List Field)
    → held number fields ≡ map bytes xs → AllByRecursion (λ x. (place : ℕ) → read (fields_of (bytes x) place).fields ≡ g x) xs
    → messages number read (placed 0 fields) ≡ map g xs
members-read number read bytes g xs fields holds reads =
    let view : List ℕ → _ = λ t. read (fields_of t 0).fields in
    let are : AreRead read view (map bytes xs) =
    all-map (λ t. (place : ℕ) → read (fields_of t place).fields ≡ view t) bytes xs
    (all-weaker (λ x. (place : ℕ) → read (fields_of (bytes x) place).fields ≡ g x) (λ x. (place : ℕ) → read (fields_of (bytes x) place).fields ≡ view (bytes x)) (λ x r place. r place ∙ sym (r 0)) xs reads) in
    messages-placed number read view fields 0 (subst (AreRead read view) (sym holds) are)
    ∙ ap (map view) holds ∙ map-map view bytes xs
    ∙ map-agrees (λ x. view (bytes x)) g xs (all-weaker (λ x. (place : ℕ) → read (fields_of (bytes x) place).fields ≡ g x) (λ x. view (bytes x) ≡ g x) (λ x r. r 0) xs reads)
  where
    map-map : {X Y Z : Type 0} (f : Y → Z) (g : X → Y) (xs : List X) → map f (map g xs) ≡ map (λ x. f (g x)) xs
    map-map f g [] = refl
    map-map f g (x ∷ xs) = ap (λ ts. f (g x) ∷ ts) (map-map f g xs)

-- a message that comes once is read from its bytes
merged-one : (ps : List found.Part) (bytes : List ℕ) (r : ValueType) → map (λ part. part.bytes) ps ≡ bytes ∷ [] → ((place : ℕ) → value_type_of (fields_of bytes place).fields ≡ r)
    → value_type_of (flat_map fields_in ps) ≡ r
merged-one [] bytes r is reads = absurd (let wrong : [] ≡ bytes ∷ [] = is in cc)
merged-one (p ∷ []) bytes r is reads =
    let same : p.bytes ≡ bytes = cc in
    ap value_type_of (append-nil (fields_of p.bytes p.at).fields) ∙ ap (λ b. value_type_of (fields_of b p.at).fields) same ∙ reads p.at
merged-one (p ∷ q ∷ ps) bytes r is reads = absurd (let wrong : map (λ part. part.bytes) (q ∷ ps) ≡ [] = cc in let worse : q.bytes ∷ map (λ part. part.bytes) ps ≡ [] = wrong in cc)

-- ---- a whole profile

number-short : (number n : ℕ) (b : Bool) → number ≤ 11 → n < 2 ^ 63 → length (cond b [] (varint (number * 8) ++ varint n)) ≤ 20
number-short number n true low small = omega arith
number-short number n false low small =
    let one = (varint_spelled (number * 8) (omega arith)).at_most_ten in
    let two = (varint_spelled n (omega arith)).at_most_ten in
    let long = length-append (varint (number * 8)) (varint n) in
    omega arith

numbers-short : (p q : ℕ) → p < 2 ^ 63 → q < 2 ^ 63 → length (message (numbers p q)) ≤ 40
numbers-short p q hp hq =
    let one = number-short 1 p (p == 0) (omega arith) hp in
    let two = number-short 2 q (q == 0) (omega arith) hq in
    simp (length-append, append-nil) (omega arith)

-- a value type, and a function: two numbers
pair-unbroken : (p q place : ℕ) → p < 2 ^ 63 → q < 2 ^ 63 → broken_part no_part (record { bytes = message (numbers p q); at = place }) ≡ None
pair-unbroken p q place hp hq = message-unbroken no_part (numbers p q) (record { bytes = message (numbers p q); at = place }) refl (sound-numbers p q hp hq) ((λ at. refl), ((λ at. refl), tt))

first-type : (texts : List (List ℕ)) (kind unit : List ℕ) → length texts < 2 ^ 63 → IsGood (Part 1 (value_type texts kind unit))
unfolding value_type
first-type texts kind unit fits =
    let one = place-within texts kind in
    let two = place-within texts unit in
    let short = numbers-short (place_of texts kind) (place_of texts unit) (omega arith) (omega arith) in
    record {
      sound = record { not_zero = omega arith; at_most_last = omega arith; short = omega arith };
      unbroken = λ at. ap (λ o. option_or o None) (pair-unbroken (place_of texts kind) (place_of texts unit) _ (omega arith) (omega arith));
      is_part = tt;
    }

last-type : (texts : List (List ℕ)) (kind unit : List ℕ) → length texts < 2 ^ 63 → IsGood (Part 11 (value_type texts kind unit))
unfolding value_type
last-type texts kind unit fits =
    let one = place-within texts kind in
    let two = place-within texts unit in
    let short = numbers-short (place_of texts kind) (place_of texts unit) (omega arith) (omega arith) in
    record {
      sound = record { not_zero = omega arith; at_most_last = omega arith; short = omega arith };
      unbroken = λ at. pair-unbroken (place_of texts kind) (place_of texts unit) _ (omega arith) (omega arith);
      is_part = tt;
    }

type-read : (texts : List (List ℕ)) (kind unit : List ℕ) (place : ℕ) → length texts < 2 ^ 63 → value_type_of (fields_of (value_type texts kind unit) place).fields ≡ said_type texts kind unit
unfolding value_type
type-read texts kind unit place fits =
    let one = place-within texts kind in
    let two = place-within texts unit in
    value-type-read (place_of texts kind) (place_of texts unit) place (omega arith) (omega arith)

good-function : (one : ℕ × ℕ) → one.0 < 2 ^ 63 → one.1 < 2 ^ 63 → IsGood (Part 5 (written_function one))
unfolding written_function
good-function one hp hq =
    let short = numbers-short one.0 one.1 hp hq in
    record {
      sound = record { not_zero = omega arith; at_most_last = omega arith; short = omega arith };
      unbroken = λ at. ap (λ o. option_or o None) (pair-unbroken one.0 one.1 _ hp hq);
      is_part = tt;
    }

line-unbroken : (id place : ℕ) → id < 2 ^ 63 → broken_part no_part (record { bytes = written_line id; at = place }) ≡ None
unfolding written_line
line-unbroken id place small =
    message-unbroken no_part (Number 1 id ∷ []) (record { bytes = message (Number 1 id ∷ []); at = place }) refl
    (record { not_zero = omega arith; at_most_last = omega arith; small = omega arith }, tt) ((λ at. refl), tt)

good-location : (id : ℕ) → id < 2 ^ 63 → IsGood (Part 4 (written_location id))
unfolding written_location
good-location id small =
    let line = line-short id small in
    let one = number-short 1 id (id == 0) (omega arith) small in
    let two = (varint_spelled (4 * 8 + 2) (omega arith)).at_most_ten in
    let three = (varint_spelled (length (written_line id)) (omega arith)).at_most_ten in
    record {
      sound = record { not_zero = omega arith; at_most_last = omega arith; short = simp (length-append, append-nil) (omega arith) };
      unbroken = λ at. ap (λ o. option_or o None)
          (message-unbroken in_location (location id) (record { bytes = message (location id); at = _ }) refl (sound-location id small) ((λ at. refl), ((λ at. line-unbroken id _ small), tt)));
      is_part = tt;
    }

good-text : (text : List ℕ) → length text < 2 ^ 64 → IsGood (Part 6 text)
good-text text short = record { sound = record { not_zero = omega arith; at_most_last = omega arith; short = short }; unbroken = λ at. refl; is_part = tt }

small-sample : (frames : List (List ℕ)) (sample : Sample) → length frames < 2 ^ 63 → length sample.0 < 2 ^ 50 → sample.1 < 2 ^ 63 → IsSmall (map (id_of frames) (reverse sample.0)) sample.1
small-sample frames sample fits few small = record {
  ids_fit = all-map (λ n. n < 2 ^ 64) (id_of frames) (reverse sample.0) (each (reverse sample.0));
  few = (let one = length-map (reverse sample.0) (id_of frames) in let two = length-reverse sample.0 in omega arith);
  value_fits = small;
}
  where
    each : (xs : List (List ℕ)) → AllByRecursion (λ x. id_of frames x < 2 ^ 64) xs
    each [] = tt
    each (x ∷ xs) = ((let within = place-within frames x in omega arith), each xs)

good-sample : (frames : List (List ℕ)) (sample : Sample) → IsSmall (map (id_of frames) (reverse sample.0)) sample.1 → IsGood (Part 2 (written_sample frames sample))
unfolding written_sample
good-sample frames sample small =
    let ids = map (id_of frames) (reverse sample.0) in
    let first = packed-short ids small.ids_fit in
    let few = small.few in
    let value = (varint_spelled sample.1 (let fits = small.value_fits in omega arith)).at_most_ten in
    let a = (varint_spelled (1 * 8 + 2) (omega arith)).at_most_ten in
    let b = (varint_spelled (2 * 8 + 2) (omega arith)).at_most_ten in
    let c = (varint_spelled (length (packed ids)) (omega arith)).at_most_ten in
    let d = (varint_spelled (length (varint sample.1)) (omega arith)).at_most_ten in
    record {
      sound = record { not_zero = omega arith; at_most_last = omega arith; short = simp (length-append, append-nil) (omega arith) };
      unbroken = λ at. ap (λ o. option_or o None)
          (message-unbroken in_sample (sample_fields ids sample.1) (record { bytes = message (sample_fields ids sample.1); at = _ }) refl (sound-sample ids sample.1 small) (sample-unbroken ids sample.1 small));
      is_part = tt;
    }

-- ---- the members of a profile

range-small : (from n : ℕ) → from + n ≤ 2 ^ 63 → AllByRecursion (λ id. id < 2 ^ 63) (range_with_len from n)
range-small from zero small = tt
range-small from (suc n) small = ((omega arith), range-small (from + 1) n (omega arith))

pub record IsFunction (one : ℕ × ℕ) : Type 0 where
  pub id_fits : one.0 < 2 ^ 63
  pub place_fits : one.1 < 2 ^ 63

functions-small : (from : ℕ) (texts frames : List (List ℕ)) → length texts < 2 ^ 63 → from + length frames ≤ 2 ^ 63
    → AllByRecursion IsFunction (enumerate_from from (map (place_of texts) frames))
functions-small from texts [] fits small = tt
functions-small from texts (f ∷ frames) fits small =
    let within = place-within texts f in
    (record { id_fits = omega arith; place_fits = omega arith }, functions-small (from + 1) texts frames fits (omega arith))

pub record IsSample (sample : Sample) : Type 0 where
  pub few : length sample.0 < 2 ^ 50
  pub value_fits : sample.1 < 2 ^ 63

samples-small : (sums : List Sample) → All (λ sample. length sample.0 < 2 ^ 50) sums → All (λ sample. sample.1 < 2 ^ 63) sums → AllByRecursion IsSample sums
samples-small sums few small =
    recursion_from_All IsSample sums (λ k d within. record { few = few k d within; value_fits = small k d within })

good-members : {X : Type 0} (P : X → Type 0) (number : ℕ) (bytes : X → List ℕ) (xs : List X) → ((x : X) → P x → IsGood (Part number (bytes x))) → AllByRecursion P xs → AreGood (fields_with number bytes xs)
good-members P number bytes xs good each = all-map IsGood (λ x. Part number (bytes x)) xs (all-weaker P (λ x. IsGood (Part number (bytes x))) good xs each)

sample-said : (frames : List (List ℕ)) (s : Sample) (place : ℕ) → IsSmall (map (id_of frames) (reverse s.0)) s.1
    → sample_of (fields_of (written_sample frames s) place).fields ≡ said_sample frames s
unfolding written_sample
sample-said frames s place small = sample-read (map (id_of frames) (reverse s.0)) s.1 place small

module _ (frames texts : List (List ℕ)) (kind : ProfileType) (sums : List Sample) (held_in : AreHeld frames texts sums) where
  abbrev first : List Field
  first = Part 1 (value_type texts kind.sample_type kind.sample_unit) ∷ []

  abbrev samples : List Field
  samples = fields_with 2 (written_sample frames) sums

  abbrev locations : List Field
  locations = fields_with 4 written_location (range_with_len 1 (length frames))

  abbrev functions : List Field
  functions = fields_with 5 written_function (enumerate_from 1 (map (place_of texts) frames))

  abbrev named : List Field
  named = fields_with 6 (λ text. text) texts

  abbrev last : List Field
  last = Part 11 (value_type texts kind.period_type kind.period_unit) ∷ []

  abbrev all : List Field
  all = profile_fields frames texts kind sums

  count : 1 + length frames ≤ 2 ^ 63
  count = let fits = held_in.frames_fit in omega arith

  good : AreGood all
  good =
      all-append IsGood (first ++ samples ++ locations ++ functions ++ named) last
      (all-append IsGood (first ++ samples ++ locations ++ functions) named
      (all-append IsGood (first ++ samples ++ locations) functions
      (all-append IsGood (first ++ samples) locations
      (all-append IsGood first samples (first-type texts kind.sample_type kind.sample_unit held_in.texts_fit, tt)
      (good-members IsSample 2 (written_sample frames) sums (λ s is. good-sample frames s (small-sample frames s held_in.frames_fit is.few is.value_fits)) (samples-small sums held_in.stacks held_in.values)))
      (good-members (λ id. id < 2 ^ 63) 4 written_location (range_with_len 1 (length frames)) good-location (range-small 1 (length frames) count)))
      (good-members IsFunction 5 written_function (enumerate_from 1 (map (place_of texts) frames)) (λ one is. good-function one is.id_fits is.place_fits) (functions-small 1 texts frames held_in.texts_fit count)))
      (good-members (λ text. length text < 2 ^ 64) 6 (λ text. text) texts good-text (recursion_from_All (λ text. length text < 2 ^ 64) texts held_in.each_text)))
      (last-type texts kind.period_type kind.period_unit held_in.texts_fit, tt)

  sound : AreSound all
  sound = all-weaker IsGood IsSound (λ f g. g.sound) all good

  are_parts : AllByRecursion IsWhole all
  are_parts = all-weaker IsGood IsWhole (λ f g. g.is_part) all good

  pub message-whole : broken_place (message all) ≡ None
  message-whole = ap (broken_in in_pprof) (message-read all 0 sound) ∙ unbroken in_pprof all 0 (all-weaker IsGood (IsUnbroken in_pprof) (λ f g. g.unbroken) all good)

  behind-four : (xs : List (List ℕ)) → xs ++ [] ++ [] ++ [] ++ [] ≡ xs
  behind-four xs = simp append-nil

  behind-three : (xs : List (List ℕ)) → xs ++ [] ++ [] ++ [] ≡ xs
  behind-three xs = simp append-nil

  behind-two : (xs : List (List ℕ)) → xs ++ [] ++ [] ≡ xs
  behind-two xs = simp append-nil

  six : (number : ℕ) (a b c d e f : List (List ℕ)) → held number first ≡ a → held number samples ≡ b → held number locations ≡ c → held number functions ≡ d → held number named ≡ e → held number last ≡ f
      → held number all ≡ a ++ b ++ c ++ d ++ e ++ f
  six number a b c d e f = held-six number first samples locations functions named last a b c d e f

  no-samples : (number : ℕ) → (2 == number) ≡ false → held number samples ≡ []
  no-samples number is = held-other number 2 (written_sample frames) sums is

  no-locations : (number : ℕ) → (4 == number) ≡ false → held number locations ≡ []
  no-locations number is = held-other number 4 written_location (range_with_len 1 (length frames)) is

  no-functions : (number : ℕ) → (5 == number) ≡ false → held number functions ≡ []
  no-functions number is = held-other number 5 written_function (enumerate_from 1 (map (place_of texts) frames)) is

  no-texts : (number : ℕ) → (6 == number) ≡ false → held number named ≡ []
  no-texts number is = held-other number 6 (λ text. text) texts is

  types-read : messages 1 value_type_of (placed 0 all) ≡ said_type texts kind.sample_type kind.sample_unit ∷ []
  types-read =
      members-read 1 value_type_of (λ (u : Unit {0}). value_type texts kind.sample_type kind.sample_unit) (λ u. said_type texts kind.sample_type kind.sample_unit) (tt ∷ []) all
      (six 1 _ [] [] [] [] [] refl (no-samples 1 refl) (no-locations 1 refl) (no-functions 1 refl) (no-texts 1 refl) refl)
      ((λ place. type-read texts kind.sample_type kind.sample_unit place held_in.texts_fit), tt)

  samples-read : messages 2 sample_of (placed 0 all) ≡ map (said_sample frames) sums
  samples-read =
      members-read 2 sample_of (written_sample frames) (said_sample frames) sums all
      (six 2 [] (map (written_sample frames) sums) [] [] [] [] refl (held-same 2 2 (written_sample frames) sums refl) (no-locations 2 refl) (no-functions 2 refl) (no-texts 2 refl) refl
      ∙ behind-four (map (written_sample frames) sums))
      (all-weaker IsSample (λ s. (place : ℕ) → sample_of (fields_of (written_sample frames s) place).fields ≡ said_sample frames s) (λ s is place. sample-said frames s place (small-sample frames s held_in.frames_fit is.few is.value_fits)) sums (samples-small sums held_in.stacks held_in.values))

  locations-read : messages 4 location_of (placed 0 all) ≡ map said_location (range_with_len 1 (length frames))
  locations-read =
      members-read 4 location_of written_location said_location (range_with_len 1 (length frames)) all
      (six 4 [] [] (map written_location (range_with_len 1 (length frames))) [] [] [] refl (no-samples 4 refl) (held-same 4 4 written_location (range_with_len 1 (length frames)) refl) (no-functions 4 refl) (no-texts 4 refl) refl
      ∙ behind-three (map written_location (range_with_len 1 (length frames))))
      (all-weaker (λ id. id < 2 ^ 63) (λ id. (place : ℕ) → location_of (fields_of (written_location id) place).fields ≡ said_location id) (λ id small place. location-read id place small)
      (range_with_len 1 (length frames)) (range-small 1 (length frames) count))

  functions-read : messages 5 function_of (placed 0 all) ≡ map said_function (enumerate_from 1 (map (place_of texts) frames))
  functions-read =
      members-read 5 function_of written_function said_function (enumerate_from 1 (map (place_of texts) frames)) all
      (six 5 [] [] [] (map written_function (enumerate_from 1 (map (place_of texts) frames))) [] [] refl (no-samples 5 refl) (no-locations 5 refl)
      (held-same 5 5 written_function (enumerate_from 1 (map (place_of texts) frames)) refl) (no-texts 5 refl) refl
      ∙ behind-two (map written_function (enumerate_from 1 (map (place_of texts) frames))))
      (all-weaker IsFunction (λ one. (place : ℕ) → function_of (fields_of (written_function one) place).fields ≡ said_function one) (λ one is place. function-read one.0 one.1 place is.id_fits is.place_fits)
      (enumerate_from 1 (map (place_of texts) frames)) (functions-small 1 texts frames held_in.texts_fit count))

  texts-read : map (λ part. part.bytes) (parts 6 (placed 0 all)) ≡ texts
  texts-read =
      parts-placed 6 all 0 are_parts
      ∙ six 6 [] [] [] [] (map (λ text. text) texts) [] refl (no-samples 6 refl) (no-locations 6 refl) (no-functions 6 refl) (held-same 6 6 (λ text. text) texts refl) refl
      ∙ append-nil (map (λ text. text) texts) ∙ map-id texts

  time-read : int64 (singular 9 (placed 0 all)) ≡ pos 0
  time-read = ap (λ ns. int64 (found.last_of 0 ns)) (no-numbers 9 all 0 are_parts) ∙ int64-is 0 (omega arith)

  period-read : value_type_of (merged 11 (placed 0 all)) ≡ said_type texts kind.period_type kind.period_unit
  period-read =
      merged-one (parts 11 (placed 0 all)) (value_type texts kind.period_type kind.period_unit) (said_type texts kind.period_type kind.period_unit)
      (parts-placed 11 all 0 are_parts ∙ six 11 [] [] [] [] [] _ refl (no-samples 11 refl) (no-locations 11 refl) (no-functions 11 refl) (no-texts 11 refl) refl)
      (λ place. type-read texts kind.period_type kind.period_unit place held_in.texts_fit)

  pub message-said : pprof_of (fields_of (message all) 0).fields ≡ said frames texts kind sums
  message-said =
      ap (λ m. pprof_of m.fields) (message-read all 0 sound)
      ∙ (λ i. record { sample_types = types-read i; samples = samples-read i; locations = locations-read i; functions = functions-read i; texts = texts-read i; time_nanos = time-read i; period_type = period-read i })

pub written_is : (kind : ProfileType) (sums : List Sample) → AreHeld (frames_in sums) (texts_of kind (frames_in sums)) sums
    → IsReadMessage (written_pprof kind sums) (Ok (said (frames_in sums) (texts_of kind (frames_in sums)) kind sums))
unfolding written_pprof
written_is kind sums held_in =
    let frames = frames_in sums in
    let texts = texts_of kind frames in
    (message-whole frames texts kind sums held_in, sym (message-said frames texts kind sums held_in))
