-- Messages that are written field by field.
use Rattle.std.proofs.Common.{◌≡◌, ℕ, suc, ◌+◌, ◌*◌, ◌<◌, ◌≤◌, List, [], ◌∷◌, ◌++◌, length, map, reverse, take, Some, sym, ap, ◌∙◌, subst, append_assoc, append-nil, arith}
use Rattle.std.specs.Prelude.{slice_index_or, IsTrue}
use Rattle.std.specs.List.{All, enumerate_from, range_with_len}
use Rattle.std.specs.Map.{keys_of}
use Rattle.std.proofs.lemmas.List.{length-append, map-append, reverse-append, take_more, length-take-le}
use Rattle.std.proofs.lemmas.List.FromFn.{map-range_with_len_more}
use Rattle.std.proofs.lemmas.Grind.{flat_map-append}
use Rattle.std.proofs.lemmas.List.Elements.{All-cons, All-pop}
use Rattle.wire_proto.specs.Writing.{bytes_field, varint}
use Rattle.profile_model.specs.Stacks.{IsStack}
use Rattle.profile_model.specs.Sums.{Sample}
use Rattle.pprof_writer.specs.Tables.{id_of, is_among}
use Rattle.pprof_writer.specs.Fields.{Field, Part, message, spelled}
use Rattle.pprof_writer.specs.Written.{fields_with, packed, written_function, written_location}

pub one : (a : Field) (none first : List ℕ) → none ≡ [] → first ≡ none ++ spelled a → first ≡ message (a ∷ [])
one a none first empty is = is ∙ ap (λ s. s ++ spelled a) empty ∙ sym (append-nil (spelled a))

pub two : (a b : Field) (none first second : List ℕ) → none ≡ [] → first ≡ none ++ spelled a → second ≡ first ++ spelled b → second ≡ message (a ∷ b ∷ [])
two a b none first second empty is more =
    more ∙ ap (λ s. s ++ spelled b) (is ∙ ap (λ s. s ++ spelled a) empty) ∙ ap (λ t. spelled a ++ t) (sym (append-nil (spelled b)))

pub message-push : (fields : List Field) (field : Field) → message (fields ++ field ∷ []) ≡ message fields ++ spelled field
message-push fields field = flat_map-append spelled fields (field ∷ []) ∙ ap (λ t. message fields ++ t) (append-nil (spelled field))

-- one field more behind others
pub pushed : (out before after : List ℕ) (fields : List Field) (field : Field) → before ≡ out ++ message fields → after ≡ before ++ spelled field
    → after ≡ out ++ message (fields ++ field ∷ [])
pushed out before after fields field is more =
    more ∙ ap (λ s. s ++ spelled field) is ∙ append_assoc out (message fields) (spelled field) ∙ ap (λ t. out ++ t) (sym (message-push fields field))

pub locations-more : (n id : ℕ) → id ≡ n + 1
    → fields_with 4 written_location (range_with_len 1 (n + 1)) ≡ fields_with 4 written_location (range_with_len 1 n) ++ Part 4 (written_location id) ∷ []
locations-more n id is = map-range_with_len_more (λ n. Part 4 (written_location n)) 1 n id (omega arith)

enumerated-push : (from : ℕ) (xs : List ℕ) (x : ℕ) → enumerate_from from (xs ++ x ∷ []) ≡ enumerate_from from xs ++ (from + length xs, x) ∷ []
enumerated-push from [] x = ap (λ n. (n, x) ∷ []) (zero from)
  where
    zero : (n : ℕ) → n ≡ n + 0
    zero n = omega arith
enumerated-push from (y ∷ xs) x =
    ap (λ rest. (from, y) ∷ rest) (enumerated-push (from + 1) xs x ∙ ap (λ n. enumerate_from (from + 1) xs ++ (n, x) ∷ []) (along from (length xs)))
  where
    along : (n m : ℕ) → n + 1 + m ≡ n + suc m
    along n m = omega arith

-- the functions of names at these places
abbrev pub functions : List ℕ → List Field
functions places = fields_with 5 written_function (enumerate_from 1 places)

pub functions-more : (places : List ℕ) (i id place : ℕ) → i < length places → id ≡ i + 1 → place ≡ slice_index_or places i 0
    → functions (take (i + 1) places) ≡ functions (take i places) ++ Part 5 (written_function (id, place)) ∷ []
functions-more places i id place within is here =
    let long : 1 + length (take i places) ≡ id = (let l = length-take-le i places (omega arith) in omega arith) in
    ap functions (take_more places i 0 within) ∙ ap (fields_with 5 written_function) (enumerated-push 1 (take i places) (slice_index_or places i 0))
    ∙ map-append (λ one. Part 5 (written_function one)) (enumerate_from 1 (take i places)) ((1 + length (take i places), slice_index_or places i 0) ∷ [])
    ∙ (λ j. functions (take i places) ++ Part 5 (written_function (long j, sym here j)) ∷ [])

-- more fields behind those of a message
pub joins : (done more : List Field) (before after : List ℕ) → before ≡ message done → after ≡ before ++ message more → after ≡ message (done ++ more)
joins done more before after is grown = grown ∙ ap (λ t. t ++ message more) is ∙ sym (flat_map-append spelled done more)

pub joins-one : (done : List Field) (field : Field) (before after : List ℕ) → before ≡ message done → after ≡ before ++ spelled field → after ≡ message (done ++ field ∷ [])
joins-one done field before after is grown = grown ∙ ap (λ t. t ++ spelled field) is ∙ sym (message-push done field)

-- ---- the locations of a stack

-- the last of the frames that are left is written
pub one_frame_more : (frames rest left : List (List ℕ)) (frame : List ℕ) (before after whole : List ℕ) → rest ≡ left ++ frame ∷ []
    → before ++ packed (map (id_of frames) (reverse rest)) ≡ whole → after ≡ before ++ varint (id_of frames frame)
    → after ++ packed (map (id_of frames) (reverse left)) ≡ whole
one_frame_more frames rest left frame before after whole taken is grown =
    let turned : reverse rest ≡ frame ∷ reverse left = ap reverse taken ∙ reverse-append left (frame ∷ []) in
    ap (λ t. t ++ packed (map (id_of frames) (reverse left))) grown
    ∙ append_assoc before (varint (id_of frames frame)) (packed (map (id_of frames) (reverse left)))
    ∙ ap (λ t. before ++ packed (map (id_of frames) t)) (sym turned) ∙ is

pub others-among : (frames rest left : List (List ℕ)) (frame : List ℕ) → rest ≡ left ++ frame ∷ [] → All (λ f. IsTrue (is_among frames f)) rest
    → All (λ f. IsTrue (is_among frames f)) left × IsTrue (is_among frames frame)
others-among frames rest left frame taken among =
    let parts = All-pop (λ f. IsTrue (is_among frames f)) rest left (Some frame) taken among in (parts.0, parts.1)

pub none_left : (frames rest : List (List ℕ)) (before whole : List ℕ) → length rest ≡ 0 → before ++ packed (map (id_of frames) (reverse rest)) ≡ whole → before ≡ whole
none_left frames [] before whole none is = sym (append-nil before) ∙ is
none_left frames (f ∷ rest) before whole none is = absurd (omega arith)

-- one message more of those that are left
pub one_member_more : {X : Type 0} (number : ℕ) (bytes : X → List ℕ) (left rest : List X) (member : X) (before after whole : List ℕ) → left ≡ member ∷ rest
    → before ++ message (fields_with number bytes left) ≡ whole → after ≡ before ++ spelled (Part number (bytes member))
    → after ++ message (fields_with number bytes rest) ≡ whole
one_member_more number bytes left rest member before after whole taken is grown =
    ap (λ t. t ++ message (fields_with number bytes rest)) grown
    ∙ append_assoc before (spelled (Part number (bytes member))) (message (fields_with number bytes rest))
    ∙ ap (λ t. before ++ message (fields_with number bytes t)) (sym taken) ∙ is

-- the limits of all stacks, where those that are left are within them: so it stays with one more stack that is
pub one_stack_more : (left rest : List Sample) (sample : Sample) (Whole : Type 0) → left ≡ sample ∷ rest → IsStack sample.0
    → (All IsStack (keys_of left) → Whole) → All IsStack (keys_of rest) → Whole
one_stack_more left rest sample Whole taken one so_far others =
    so_far (subst (λ l. All IsStack (keys_of l)) (sym taken) (All-cons IsStack sample.0 (keys_of rest) one others))

-- a text is no longer than what it is written to
pub text_within : (number : ℕ) (text out new : List ℕ) → new ≡ out ++ bytes_field number text → length text ≤ length new
text_within number text out new is =
    let whole : length new ≡ length out + length (bytes_field number text) = ap length is ∙ length-append out (bytes_field number text) in
    let field : length (bytes_field number text) ≡ length (varint (number * 8 + 2) ++ varint (length text)) + length text =
    length-append (varint (number * 8 + 2) ++ varint (length text)) text in
    omega (arith, whole, field)

-- one text more of those that are written
pub texts_more : (out before after : List ℕ) (texts : List (List ℕ)) (i : ℕ) → i < length texts
    → before ≡ out ++ message (fields_with 6 (λ text. text) (take i texts)) → after ≡ before ++ bytes_field 6 (slice_index_or texts i [])
    → after ≡ out ++ message (fields_with 6 (λ text. text) (take (i + 1) texts))
texts_more out before after texts i within is grown =
    let text = slice_index_or texts i [] in
    pushed out before after (fields_with 6 (λ text. text) (take i texts)) (Part 6 text) is grown
    ∙ ap (λ fields. out ++ message fields)
    (sym (ap (fields_with 6 (λ text. text)) (take_more texts i [] within) ∙ map-append (λ (text : List ℕ). Part 6 text) (take i texts) (text ∷ [])))
