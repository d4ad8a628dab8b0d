-- A connection's bytes have one ending, but for the faults that may stand together.
use Rattle.std.proofs.Common.{◌≡◌, ◌≢◌, ℕ, List, [], ◌∷◌, ◌++◌, refl, sym, subst, ap, ◌∙◌, append_assoc, arith, Err, inl, inr, true}
use Rattle.std.specs.List.{All}
use Rattle.std.proofs.lemmas.List.Elements.{All-head}
use Rattle.std.proofs.lemmas.Bool.{true≢false}
use Rattle.httparse.specs.Ascii.{space}
use Rattle.httparse.specs.Grammar.{EndsInTarget, MayBecomeRequest, NeverHasRequest, print_blank, is_token_byte}
use Rattle.http_session.specs.Heads.{IsHeadTooLarge, IsUnfinished, after_lines, headers_of}
use Rattle.http_session.specs.Framing.{framing_of}
use Rattle.http_session.specs.Asked.{Asked}
use Rattle.http_session.specs.Takes.{HasBadLength, IsBetween, IsInside, IsBad, Ending, done, closing, bad, EndsAs}
use Rattle.http_session.specs.TakesLaws.{MayStandTogether, Agree, EndingsAgree}
use Rattle.http_session.specs.declared.bad_request.BadRequest.{BadRequest}
use Rattle.http_session.specs.declared.bad_request.BadRequest.TheVariants.{Malformed, HeadTooLarge, BodyTooLarge, Chunked, CutOff}
use Rattle.http_session.proofs.NewlineLemmas.{after_blank, token_no_line, first_of}
use Rattle.http_session.proofs.TakesLemmas.{head_is_one, ok_is_no_err, no_head, never, same_requests}

-- a target is behind a method, which is no CR or LF
target_is_text : (bytes : List ℕ) → EndsInTarget bytes → after_lines bytes ≢ []
target_is_text bytes (blank, method, target, token, pass, is) none =
    let (b, more, method_is) = first_of method token.0 in
    let byte : is_token_byte b ≡ true =
    let P : ℕ → Type 0 = λ x. is_token_byte x ≡ true in
    All-head P b more (let Q : List ℕ → Type 0 = λ w. All P w in subst Q method_is token.1) in
    let text : bytes ≡ print_blank blank ++ b ∷ (more ++ space ∷ target) =
    is ∙ append_assoc (print_blank blank) method (space ∷ target) ∙ ap (λ (w : List ℕ). print_blank blank ++ (w ++ space ∷ target)) method_is in
    let after = ap after_lines text ∙ after_blank blank b (more ++ space ∷ target) (token_no_line b byte) in
    let clash : [] ≡ b ∷ (more ++ space ∷ target) = sym none ∙ after in
    absurd (cc)

-- only CR and LF bytes are no refused head
not_refused : (bytes : List ℕ) → after_lines bytes ≡ [] → MayBecomeRequest bytes → NeverHasRequest bytes → ⊥
not_refused bytes none (inl (more, head, reads)) refused = refused more head [] reads
not_refused bytes none (inr target) refused = target_is_text bytes target none

-- no fault of a head stands where it isn't finished
unfinished_is_no_head : (bytes : List ℕ) (e : BadRequest) → IsUnfinished bytes → HasBadLength bytes e → ⊥
unfinished_is_no_head bytes e open_ (head, rest, begins, wrong) = open_.none head rest begins.reads

unfinished_is_small : (bytes : List ℕ) → IsUnfinished bytes → IsHeadTooLarge bytes → ⊥
unfinished_is_small bytes open_ (inl long) = omega (arith, long.0, open_.short)
unfinished_is_small bytes open_ (inr many) = omega (arith, many.0, open_.few)

-- between requests nothing is bad
between_is_good : (bytes : List ℕ) (e : BadRequest) → IsBetween bytes → IsBad bytes e → ⊥
between_is_good bytes Malformed (none, open_) (inl refused) = not_refused bytes none open_.may refused
between_is_good bytes Malformed (none, open_) (inr wrong) = unfinished_is_no_head bytes Malformed open_ wrong
between_is_good bytes HeadTooLarge (none, open_) large = unfinished_is_small bytes open_ large
between_is_good bytes BodyTooLarge (none, open_) wrong = unfinished_is_no_head bytes BodyTooLarge open_ wrong
between_is_good bytes Chunked (none, open_) wrong = unfinished_is_no_head bytes Chunked open_ wrong
between_is_good bytes CutOff (none, open_) (inl (text, other)) = text none
between_is_good bytes CutOff (none, open_) (inr (head, rest, framing, begins, framed, short)) = open_.none head rest begins.reads

-- headers give one reason
one_reason : (bytes : List ℕ) (e f : BadRequest) → HasBadLength bytes e → HasBadLength bytes f → e ≡ f
one_reason bytes e f (head, rest, begins, wrong) (head', rest', begins', wrong') =
    let one = head_is_one bytes head head' rest rest' begins begins' in
    let other : framing_of (headers_of head) ≡ Err f = ap (λ h. framing_of (headers_of h)) one.0 ∙ wrong' in
    let same : Err e ≡ Err f = sym wrong ∙ other in
    cc

small_head : (bytes : List ℕ) (e : BadRequest) → HasBadLength bytes e → IsHeadTooLarge bytes → ⊥
small_head bytes e (head, rest, begins, wrong) large = no_head bytes head rest begins large

inside_is_small : (bytes : List ℕ) → IsInside bytes → IsHeadTooLarge bytes → ⊥
inside_is_small bytes (inl (text, open_)) large = unfinished_is_small bytes open_ large
inside_is_small bytes (inr (head, rest, framing, begins, framed, short)) large = no_head bytes head rest begins large

inside_has_length : (bytes : List ℕ) (e : BadRequest) → IsInside bytes → HasBadLength bytes e → ⊥
inside_has_length bytes e (inl (text, open_)) wrong = unfinished_is_no_head bytes e open_ wrong
inside_has_length bytes e (inr (head, rest, framing, begins, framed, short)) (head', rest', begins', wrong) =
    let one = head_is_one bytes head head' rest rest' begins begins' in
    ok_is_no_err (framing_of (headers_of head)) framing e framed (ap (λ h. framing_of (headers_of h)) one.0 ∙ wrong)

-- a refused head says nothing of a body
refused_says_nothing : (bytes : List ℕ) (e : BadRequest) → NeverHasRequest bytes → HasBadLength bytes e → ⊥
refused_says_nothing bytes e refused (head, rest, begins, wrong) = never bytes head rest begins.reads refused

malformed_and : (bytes : List ℕ) (e : BadRequest) → IsBad bytes Malformed → HasBadLength bytes e → Malformed ≡ e
malformed_and bytes e (inl refused) wrong = absurd (refused_says_nothing bytes e refused wrong)
malformed_and bytes e (inr malformed) wrong = one_reason bytes Malformed e malformed wrong

faults_agree : (bytes : List ℕ) (e f : BadRequest) → IsBad bytes e → IsBad bytes f → MayStandTogether e f
faults_agree bytes Malformed Malformed a b = refl
faults_agree bytes Malformed HeadTooLarge a b = tt
faults_agree bytes Malformed BodyTooLarge a b = malformed_and bytes BodyTooLarge a b
faults_agree bytes Malformed Chunked a b = malformed_and bytes Chunked a b
faults_agree bytes Malformed CutOff a b = tt
faults_agree bytes HeadTooLarge Malformed a b = tt
faults_agree bytes HeadTooLarge HeadTooLarge a b = refl
faults_agree bytes HeadTooLarge BodyTooLarge a b = absurd (small_head bytes BodyTooLarge b a)
faults_agree bytes HeadTooLarge Chunked a b = absurd (small_head bytes Chunked b a)
faults_agree bytes HeadTooLarge CutOff a b = absurd (inside_is_small bytes b a)
faults_agree bytes BodyTooLarge Malformed a b = sym (malformed_and bytes BodyTooLarge b a)
faults_agree bytes BodyTooLarge HeadTooLarge a b = absurd (small_head bytes BodyTooLarge a b)
faults_agree bytes BodyTooLarge BodyTooLarge a b = refl
faults_agree bytes BodyTooLarge Chunked a b = one_reason bytes BodyTooLarge Chunked a b
faults_agree bytes BodyTooLarge CutOff a b = absurd (inside_has_length bytes BodyTooLarge b a)
faults_agree bytes Chunked Malformed a b = sym (malformed_and bytes Chunked b a)
faults_agree bytes Chunked HeadTooLarge a b = absurd (small_head bytes Chunked a b)
faults_agree bytes Chunked BodyTooLarge a b = one_reason bytes Chunked BodyTooLarge a b
faults_agree bytes Chunked Chunked a b = refl
faults_agree bytes Chunked CutOff a b = absurd (inside_has_length bytes Chunked b a)
faults_agree bytes CutOff Malformed a b = tt
faults_agree bytes CutOff HeadTooLarge a b = absurd (inside_is_small bytes a b)
faults_agree bytes CutOff BodyTooLarge a b = absurd (inside_has_length bytes BodyTooLarge a b)
faults_agree bytes CutOff Chunked a b = absurd (inside_has_length bytes Chunked a b)
faults_agree bytes CutOff CutOff a b = refl

-- one rest behind one list of requests
ends_agree : (requests : List Asked) (rest : List ℕ) (ending last : Ending) → EndsAs requests rest ending → EndsAs requests rest last → Agree ending last
ends_agree requests rest done done a b = tt
ends_agree requests rest done closing a b = absurd (true≢false (sym b ∙ a.0))
ends_agree requests rest done (bad f) a b = between_is_good rest f a.1 b.1
ends_agree requests rest closing done a b = absurd (true≢false (sym a ∙ b.0))
ends_agree requests rest closing closing a b = tt
ends_agree requests rest closing (bad f) a b = absurd (true≢false (sym a ∙ b.0))
ends_agree requests rest (bad e) done a b = between_is_good rest e b.1 a.1
ends_agree requests rest (bad e) closing a b = absurd (true≢false (sym b ∙ a.0))
ends_agree requests rest (bad e) (bad f) a b = faults_agree rest e f a.1 b.1

pub endings_agree : EndingsAgree
endings_agree number moment bytes requests others ending last (rest, are, ends) (left, again, lasts) =
    let one = same_requests number moment bytes requests others rest left ending last are ends again lasts in
    let P : List Asked → Type 0 = λ qs. EndsAs qs left last in
    let Q : List ℕ → Type 0 = λ xs. EndsAs requests xs last in
    ends_agree requests rest ending last ends (subst Q (sym one.1) (subst P (sym one.0) lasts))
