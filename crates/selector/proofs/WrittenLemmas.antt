-- The inside of a string: what stands for its bytes is one thing, and where a text breaks off it.
use Rattle.std.proofs.Common.{◌≡◌, inl, inr, ℕ, ◌<◌, ◌==◌, Bool, true, false, cond, List, [], ◌∷◌, ◌++◌, length, refl, sym, ap, ◌∙◌, subst, arith, append_assoc, Some, None, is_some}
use Rattle.std.specs.Prelude.{IsTrue, IsFalse}
use Rattle.std.specs.Cmp.{first_so, second_so}
use Rattle.std.specs.List.{list_all}
use Rattle.std.proofs.lemmas.Bool.{true≢false, false_from_ne_true, eqb-true}
use Rattle.std.proofs.lemmas.Str.{char_from_byte}
use Rattle.std.specs.Char.{encode_utf8}
use Rattle.profile_model.specs.Breaks.{Begins}
use Rattle.selector.specs.Grammar.{is_plain, escaped, IsWritten, AreWritten, IsString}
use Rattle.selector.specs.Runs.{begins_with, IsRun}
use Rattle.selector.specs.Rests.{AtWritten, AtString, IsBrokenOff, IsReadFault}
use Rattle.faults.specs.Answers.{IfFault}
use Rattle.faults.specs.declared.refused.Refused.{Refused}
use Rattle.faults.proofs.AnswerLemmas.{IfFault-weaker}
use Rattle.selector.specs.declared.written.ReadFault.{ReadFault}
use Rattle.selector.specs.declared.written.ReadFault.TheVariants.{BreaksOff}
use Rattle.selector.proofs.BreakLemmas.{broken_after, broken_here}
use Rattle.selector.proofs.ByteLemmas.{both, begins_not, clash, otherwise_alike}
use Rattle.selector.proofs.TokenLemmas.{more_begins, written_begins, string_begins}

-- ---- what stands for bytes

pub written_append : (v w a b : List ℕ) → AreWritten a v → AreWritten b w → AreWritten (a ++ b) (v ++ w)
written_append [] w a b empty more = subst (λ t. AreWritten t w) (ap (λ t. t ++ b) (sym empty)) more
written_append (x ∷ v) w a b (first, rest, is, one, later) more =
    (first, rest ++ b, ap (λ t. t ++ b) is ∙ append_assoc first rest b, one, written_append v w rest b later more)

pub plain_written : (bytes : List ℕ) → IsTrue (list_all is_plain bytes) → AreWritten bytes bytes
plain_written [] all = refl
plain_written (b ∷ bytes) all =
    (b ∷ [], bytes, refl, inl (refl, first_so (is_plain b) (list_all is_plain bytes) all), plain_written bytes (second_so (is_plain b) (list_all is_plain bytes) all))

pub escape_written : (letter b : ℕ) → escaped letter ≡ Some b → AreWritten (92 ∷ letter ∷ []) (b ∷ [])
escape_written letter b is = (92 ∷ letter ∷ [], [], refl, inr (letter, refl, is), refl)

pub escaped_ascii : (letter b : ℕ) → escaped letter ≡ Some b → b < 128
escaped_ascii letter b is = by (letter == 92) (letter == 34) (letter == 110) (letter == 116) is
  where
    by : (p q r s : Bool) → cond p (Some 92) (cond q (Some 34) (cond r (Some 10) (cond s (Some 9) None))) ≡ Some b → b < 128
    by true q r s is = let one : 92 ≡ b = cc in omega arith
    by false true r s is = let one : 34 ≡ b = cc in omega arith
    by false false true s is = let one : 10 ≡ b = cc in omega arith
    by false false false true is = let one : 9 ≡ b = cc in omega arith
    by false false false false is = absurd cc

letter_ascii : (letter : ℕ) → is_some (escaped letter) ≡ true → letter < 128
letter_ascii letter some = by (letter == 92) (letter == 34) (letter == 110) (letter == 116) (eqb-true letter 92) (eqb-true letter 34) (eqb-true letter 110) (eqb-true letter 116) some
  where
    by : (p q r s : Bool) → (p ≡ true → letter ≡ 92) → (q ≡ true → letter ≡ 34) → (r ≡ true → letter ≡ 110) → (s ≡ true → letter ≡ 116)
        → is_some {T = ℕ} (cond p (Some 92) (cond q (Some 34) (cond r (Some 10) (cond s (Some 9) None)))) ≡ true → letter < 128
    by true q r s a b c d some = let is = a refl in omega arith
    by false true r s a b c d some = let is = b refl in omega arith
    by false false true s a b c d some = let is = c refl in omega arith
    by false false false true a b c d some = let is = d refl in omega arith
    by false false false false a b c d some = absurd (true≢false (sym some))

-- a text that begins with a character which stands for nothing after a backslash begins with no such byte
pub no_letter_first : (text rest : List ℕ) (letter : ℕ) → text ≡ encode_utf8 letter ++ rest → escaped letter ≡ None → IsFalse (begins_with (λ b. is_some (escaped b)) text)
no_letter_first [] rest letter is none = refl
no_letter_first (b ∷ text) rest letter is none =
    false_from_ne_true (is_some (escaped b)) (λ pass.
    let same = char_from_byte (b ∷ text) rest letter is (letter_ascii b pass) (omega arith) in
    both (is_some (escaped letter)) (subst (λ x. is_some (escaped x) ≡ true) (sym same) pass) (ap is_some none))

-- ---- it is one thing

not_plain : (b : ℕ) → IsTrue (is_plain b) → (c : ℕ) → b ≡ c → IsFalse (is_plain c) → ⊥
not_plain b plain c same other = both (is_plain c) (subst (λ x. IsTrue (is_plain x)) same plain) other

one_no_quote : (f s r : List ℕ) (x : ℕ) → IsWritten f x → f ++ s ≡ 34 ∷ r → ⊥
one_no_quote f s r x (inl (is, plain)) same =
    let next : x ∷ s ≡ 34 ∷ r = ap (λ t. t ++ s) (sym is) ∙ same in let first : x ≡ 34 = cc in not_plain x plain 34 first refl
one_no_quote f s r x (inr (letter, is, meant)) same =
    let next : 92 ∷ (letter ∷ s) ≡ 34 ∷ r = ap (λ t. t ++ s) (sym is) ∙ same in clash 92 34 (letter ∷ s) r next refl

one_same : (f g s r : List ℕ) (x y : ℕ) → IsWritten f x → IsWritten g y → f ++ s ≡ g ++ r → (f ≡ g) × (x ≡ y) × (s ≡ r)
one_same f g s r x y (inl (is, plain)) (inl (it, bare)) same =
    let next : x ∷ s ≡ y ∷ r = ap (λ t. t ++ s) (sym is) ∙ same ∙ ap (λ t. t ++ r) it in
    let first : x ≡ y = cc in let rest : s ≡ r = cc in
    (is ∙ ap (λ b. b ∷ []) first ∙ sym it, first, rest)
one_same f g s r x y (inl (is, plain)) (inr (letter, it, meant)) same =
    let next : x ∷ s ≡ 92 ∷ (letter ∷ r) = ap (λ t. t ++ s) (sym is) ∙ same ∙ ap (λ t. t ++ r) it in
    let first : x ≡ 92 = cc in absurd (not_plain x plain 92 first refl)
one_same f g s r x y (inr (letter, is, meant)) (inl (it, bare)) same =
    let next : 92 ∷ (letter ∷ s) ≡ y ∷ r = ap (λ t. t ++ s) (sym is) ∙ same ∙ ap (λ t. t ++ r) it in
    let first : y ≡ 92 = cc in absurd (not_plain y bare 92 first refl)
one_same f g s r x y (inr (letter, is, meant)) (inr (other, it, said)) same =
    let next : 92 ∷ (letter ∷ s) ≡ 92 ∷ (other ∷ r) = ap (λ t. t ++ s) (sym is) ∙ same ∙ ap (λ t. t ++ r) it in
    let first : letter ≡ other = cc in let rest : s ≡ r = cc in
    let value : Some x ≡ Some y = sym meant ∙ ap escaped first ∙ said in
    let byte : x ≡ y = cc in
    (is ∙ ap (λ b. 92 ∷ b ∷ []) first ∙ sym it, byte, rest)

pub written_same : (v w a b t u : List ℕ) → AreWritten a v → AreWritten b w → a ++ 34 ∷ t ≡ b ++ 34 ∷ u → (v ≡ w) × (a ≡ b) × (t ≡ u)
written_same [] [] a b t u empty bare same =
    let next : 34 ∷ t ≡ 34 ∷ u = ap (λ x. x ++ 34 ∷ t) (sym empty) ∙ same ∙ ap (λ x. x ++ 34 ∷ u) bare in
    let rest : t ≡ u = cc in (refl, empty ∙ sym bare, rest)
written_same [] (y ∷ w) a b t u empty (first, rest, is, one, later) same =
    absurd (one_no_quote first (rest ++ 34 ∷ u) t y one (sym (append_assoc first rest (34 ∷ u)) ∙ ap (λ x. x ++ 34 ∷ u) (sym is) ∙ sym same ∙ ap (λ x. x ++ 34 ∷ t) empty))
written_same (x ∷ v) [] a b t u (first, rest, is, one, later) empty same =
    absurd (one_no_quote first (rest ++ 34 ∷ t) u x one (sym (append_assoc first rest (34 ∷ t)) ∙ ap (λ x. x ++ 34 ∷ t) (sym is) ∙ same ∙ ap (λ x. x ++ 34 ∷ u) empty))
written_same (x ∷ v) (y ∷ w) a b t u (first, rest, is, one, later) (front, tail, it, two, after) same =
    let next : first ++ (rest ++ 34 ∷ t) ≡ front ++ (tail ++ 34 ∷ u) =
    sym (append_assoc first rest (34 ∷ t)) ∙ ap (λ x. x ++ 34 ∷ t) (sym is) ∙ same ∙ ap (λ x. x ++ 34 ∷ u) it ∙ append_assoc front tail (34 ∷ u) in
    let here = one_same first front (rest ++ 34 ∷ t) (tail ++ 34 ∷ u) x y one two next in
    let more = written_same v w rest tail t u later after here.2 in
    ((λ i. here.1 i ∷ more.0 i), is ∙ (λ i. here.0 i ++ more.1 i) ∙ sym it, more.2)

-- what was read of a string's inside leaves an inside
written_back : (v a t : List ℕ) → AreWritten a v → AtWritten (a ++ t) → AtWritten t
written_back [] a t empty at = subst AtWritten (ap (λ x. x ++ t) empty) at
written_back (x ∷ v) a t (first, rest, is, one, later) (inside, value, end, it, written, more) =
    written_back v rest t later (by value inside written (sym (append_assoc first rest t) ∙ ap (λ y. y ++ t) (sym is) ∙ it))
  where
    by : (value inside : List ℕ) → AreWritten inside value → first ++ (rest ++ t) ≡ inside ++ 34 ∷ end → AtWritten (rest ++ t)
    by [] inside empty same = absurd (one_no_quote first (rest ++ t) end x one (same ∙ ap (λ y. y ++ 34 ∷ end) empty))
    by (y ∷ value) inside (front, tail, split, two, after) same =
        let here = one_same first front (rest ++ t) (tail ++ 34 ∷ end) x y one two (same ∙ ap (λ y. y ++ 34 ∷ end) split ∙ append_assoc front tail (34 ∷ end)) in
        (tail, value, end, here.2, after, more)

-- ---- where a text breaks off

pub broken_after_written : (text done rest value : List ℕ) (left : ℕ) → text ≡ done ++ rest → AreWritten done value
    → IsBrokenOff AtWritten rest left → IsBrokenOff AtWritten text left
broken_after_written text done rest value left is written broken =
    subst (λ t. IsBrokenOff AtWritten t left) (sym is)
    (broken_after AtWritten AtWritten done rest left (34 ∷ 125 ∷ [], (done, value, 125 ∷ [], refl, written, more_begins))
    (λ t alike at.
    (done ++ at.0, value ++ at.1, at.2, ap (λ x. done ++ x) at.3 ∙ sym (append_assoc done at.0 (34 ∷ at.2)), written_append value at.1 done at.0 written at.4, at.5))
    (λ t alike at. written_back value done t written at)
    broken)

-- a text that goes on with no plain byte, no backslash and no quote
pub no_written : (text : List ℕ) → IsFalse (begins_with is_plain text) → IsFalse (begins_with (λ b. b == 34) text) → IsFalse (begins_with (λ b. b == 92) text)
    → IsBrokenOff AtWritten text (length text)
no_written text plain quote slash =
    broken_here AtWritten text (34 ∷ 125 ∷ [], written_begins)
    (λ t alike at.
    by at.1 t at.0 at.2 at.3 at.4 (otherwise_alike is_plain text t alike plain) (otherwise_alike (λ b. b == 34) text t alike quote)
    (otherwise_alike (λ b. b == 92) text t alike slash))
  where
    one : (t f s : List ℕ) (x : ℕ) → IsWritten f x → t ≡ f ++ s → IsFalse (begins_with is_plain t) → IsFalse (begins_with (λ b. b == 92) t) → ⊥
    one t f s x (inl (is, pass)) same plain slash =
        both (is_plain x) pass (subst (λ r. IsFalse (begins_with is_plain r)) (same ∙ ap (λ y. y ++ s) is) plain)
    one t f s x (inr (letter, is, meant)) same plain slash =
        begins_not 92 (letter ∷ s) (subst (λ r. IsFalse (begins_with (λ b. b == 92) r)) (same ∙ ap (λ y. y ++ s) is) slash)

    by : (value t inside end : List ℕ) → t ≡ inside ++ 34 ∷ end → AreWritten inside value → IsFalse (begins_with is_plain t)
        → IsFalse (begins_with (λ b. b == 34) t) → IsFalse (begins_with (λ b. b == 92) t) → ⊥
    by [] t inside end is empty plain quote slash =
        begins_not 34 end (subst (λ r. IsFalse (begins_with (λ b. b == 34) r)) (is ∙ ap (λ y. y ++ 34 ∷ end) empty) quote)
    by (x ∷ value) t inside end is (front, tail, split, two, after) plain quote slash =
        one t front (tail ++ 34 ∷ end) x two (is ∙ ap (λ y. y ++ 34 ∷ end) split ∙ append_assoc front tail (34 ∷ end)) plain slash

-- after a backslash
AtLetter : List ℕ → Type 0
AtLetter text = AtWritten (92 ∷ text)

pub no_letter : (text rest : List ℕ) → text ≡ 92 ∷ rest → IsFalse (begins_with (λ b. is_some (escaped b)) rest) → IsBrokenOff AtWritten text (length rest)
unfolding AtLetter
no_letter text rest is none =
    subst (λ t. IsBrokenOff AtWritten t (length rest)) (sym is)
    (broken_after AtWritten AtLetter (92 ∷ []) rest (length rest) (begins.0, begins.1)
    (λ t alike at. at) (λ t alike at. at)
    (broken_here AtLetter rest begins (λ t alike at. by at.1 t at.0 at.2 at.3 at.4 (otherwise_alike (λ b. is_some (escaped b)) rest t alike none))))
  where
    begins : Begins (λ t. AtWritten (92 ∷ t)) []
    begins = (92 ∷ 34 ∷ 125 ∷ [], (92 ∷ 92 ∷ [], 92 ∷ [], 125 ∷ [], refl, escape_written 92 92 refl, more_begins))

    fails : (letter x : ℕ) → escaped letter ≡ Some x → IsFalse (is_some (escaped letter)) → ⊥
    fails letter x meant other = true≢false (ap is_some (sym meant) ∙ other)

    one : (t f s : List ℕ) (x : ℕ) → IsWritten f x → 92 ∷ t ≡ f ++ s → IsFalse (begins_with (λ b. is_some (escaped b)) t) → ⊥
    one t f s x (inl (it, pass)) same other =
        let next : 92 ∷ t ≡ x ∷ s = same ∙ ap (λ y. y ++ s) it in let first : x ≡ 92 = cc in not_plain x pass 92 first refl
    one t f s x (inr (letter, it, meant)) same other =
        let next : 92 ∷ t ≡ 92 ∷ (letter ∷ s) = same ∙ ap (λ y. y ++ s) it in
        let tail : t ≡ letter ∷ s = cc in
        fails letter x meant (subst (λ r. IsFalse (begins_with (λ b. is_some (escaped b)) r)) tail other)

    by : (value t inside end : List ℕ) → 92 ∷ t ≡ inside ++ 34 ∷ end → AreWritten inside value → IsFalse (begins_with (λ b. is_some (escaped b)) t) → ⊥
    by [] t inside end same empty other =
        let next : 92 ∷ t ≡ 34 ∷ end = same ∙ ap (λ y. y ++ 34 ∷ end) empty in clash 92 34 t end next refl
    by (x ∷ value) t inside end same (front, tail, split, two, after) other =
        one t front (tail ++ 34 ∷ end) x two (same ∙ ap (λ y. y ++ 34 ∷ end) split ∙ append_assoc front tail (34 ∷ end)) other

pub broken_after_quote : (text inside : List ℕ) (left : ℕ) → text ≡ 34 ∷ inside → IsBrokenOff AtWritten inside left → IsBrokenOff AtString text left
broken_after_quote text inside left is broken =
    subst (λ t. IsBrokenOff AtString t left) (sym is)
    (broken_after AtString AtWritten (34 ∷ []) inside left (34 ∷ 125 ∷ [], (34 ∷ 125 ∷ [], refl, written_begins))
    (λ t alike at. (t, refl, at))
    (λ t alike at. let same = at.1 in let rest : at.0 ≡ t = cc in subst AtWritten rest at.2)
    broken)

pub no_string : (text : List ℕ) → IsFalse (begins_with (λ b. b == 34) text) → IsBrokenOff AtString text (length text)
no_string text quote =
    broken_here AtString text (34 ∷ 34 ∷ 125 ∷ [], string_begins)
    (λ t alike at. begins_not 34 at.0 (subst (λ r. IsFalse (begins_with (λ b. b == 34) r)) at.1 (otherwise_alike (λ b. b == 34) text t alike quote)))

-- ---- what was read

-- a fault in what may follow is one of the text
pub read_fault : (Form Next : List ℕ → Type 0) (text rest : List ℕ) → ((left : ℕ) → IsBrokenOff Next rest left → IsBrokenOff Form text left)
    → (fault : ReadFault) → IsReadFault Next rest fault → IsReadFault Form text fault
read_fault Form Next text rest on (BreaksOff left) broken = on left broken

pub read_refused : (Form Next : List ℕ → Type 0) (text rest : List ℕ) → ((left : ℕ) → IsBrokenOff Next rest left → IsBrokenOff Form text left)
    → (refused : Refused ReadFault) → IfFault (IsReadFault Next rest) refused → IfFault (IsReadFault Form text) refused
read_refused Form Next text rest on refused broken = IfFault-weaker refused (read_fault Form Next text rest on) broken

pub string_of : (text inside rest after value : List ℕ) → text ≡ 34 ∷ rest → rest ≡ inside ++ 34 ∷ after → AreWritten inside value
    → (string : List ℕ) × (text ≡ string ++ after) × IsString string value
string_of text inside rest after value is it written =
    (34 ∷ (inside ++ 34 ∷ []), is ∙ ap (λ t. 34 ∷ t) (it ∙ sym (append_assoc inside (34 ∷ []) after)), (inside, refl, written))

-- a run of plain bytes more
pub plain_more : (text done rest value plain after : List ℕ) → text ≡ done ++ rest → AreWritten done value → IsRun is_plain rest plain after
    → (text ≡ (done ++ plain) ++ after) × AreWritten (done ++ plain) (value ++ plain)
plain_more text done rest value plain after is written run =
    (is ∙ ap (λ t. done ++ t) run.joined ∙ sym (append_assoc done plain after), written_append value plain done plain written (plain_written plain run.pass))

-- a backslash and its letter more
pub escape_more : (text done rest value : List ℕ) (letter b : ℕ) (after : List ℕ) → text ≡ done ++ rest → AreWritten done value
    → rest ≡ 92 ∷ letter ∷ after → escaped letter ≡ Some b → (text ≡ (done ++ 92 ∷ letter ∷ []) ++ after) × AreWritten (done ++ 92 ∷ letter ∷ []) (value ++ b ∷ [])
escape_more text done rest value letter b after is written it meant =
    (is ∙ ap (λ t. done ++ t) it ∙ sym (append_assoc done (92 ∷ letter ∷ []) after), written_append value (b ∷ []) done (92 ∷ letter ∷ []) written (escape_written letter b meant))
