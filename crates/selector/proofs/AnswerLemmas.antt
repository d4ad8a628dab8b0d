-- A text has one answer, where it is settled which patterns regex builds.
use Rattle.std.proofs.Common.{◌≡◌, ◌≢◌, ◌⊎◌, ⊎_elim, ℕ, suc, ◌<◌, ◌≤◌, Bool, List, [], ◌∷◌, ◌++◌, length, refl, sym, ap, ◌∙◌, subst, arith, Option, Some, None, Result, Ok, Err, IsSomeAnd, IfSome}
use Rattle.std.specs.Str.{chars}
use Rattle.regex_syntax.specs.Brackets.{Nested}
use Rattle.regex_syntax.specs.Captures.{SameCaptures}
use Rattle.regex_syntax.specs.Grammar.{Names, group_count, read}
use Rattle.regex_syntax.specs.Verdict.{Reads}
use Rattle.regex.specs.Patterns.{Re, default_config}
use mathlib.Core.Bool.{Bool-set}
use mathlib.Core.HLevel.{is_prop→PathP}
use Rattle.profile_model.specs.Kinds.{IsPart, parts_of}
use Rattle.profile_model.specs.ReadKinds.{parts_in}
use Rattle.profile_model.specs.declared.kind.ProfileType.{ProfileType}
use Rattle.profile_model.proofs.BreakLemmas.{breaks_once}
use Rattle.selector.specs.Limits.{most_matchers}
use Rattle.selector.specs.Matching.{Matching}
use Rattle.selector.specs.Grammar.{IsSelectorText, IsQueryOf, kind_of}
use Rattle.selector.specs.Patterns.{anchored, IsReadable, IsUnreadable, IsWellFormed, IsBuilt, IsBadSyntax, IsTooLarge}
use Rattle.selector.specs.Read.{ForPattern, OfPattern, AreBuilt, IsFirstRefused, IsFaultOf, AreRead, IsReadSelectorBy, IsReadQueryBy}
use Rattle.selector.specs.declared.operator.Operator.{Operator}
use Rattle.selector.specs.declared.operator.Operator.TheVariants.{Equal, NotEqual, Finds, FindsNot}
use Rattle.selector.specs.declared.fault.SelectorFault.{SelectorFault}
use Rattle.selector.specs.declared.fault.SelectorFault.TheVariants.{Kind, Syntax, TooMany, Pattern, PatternRefused}
use Rattle.selector.specs.declared.query.Query.{Query}
use Rattle.selector.proofs.ByteLemmas.{both}
use Rattle.selector.proofs.MeaningLemmas.{one_selector, one_query}

-- ---- a pattern

within_or_past : (o : Option (Nested Re × Names)) (limit : ℕ) (a : Re) (names : Names)
    → IsSomeAnd o (λ (re, found). (re.depth ≤ limit) × SameCaptures a re.value × (names ≡ found) × (group_count a ≤ length names))
    → (o ≡ None) ⊎ IfSome o (λ (re, _). limit < re.depth) → ⊥
within_or_past None limit a names some other = some
within_or_past (Some found) limit a names some other = ⊎_elim (λ (none : Some found ≡ None). absurd cc) (λ past. let within = some.0 in omega arith) other

not_both_read : (text : List ℕ) → IsReadable text → IsUnreadable text → ⊥
unfolding Reads
not_both_read text readable unreadable = within_or_past (read default_config (chars text)) default_config.nest_limit _ readable.1 readable.2 unreadable

bad_not_formed : (pattern : List ℕ) → IsBadSyntax pattern → IsWellFormed pattern → ⊥
bad_not_formed pattern bad formed =
    ⊎_elim (λ alone. not_both_read pattern formed.alone alone) (λ whole. not_both_read (anchored pattern) formed.whole whole.1) bad

large_not_built : (built : List ℕ → Bool) (pattern : List ℕ) → IsTooLarge built pattern → IsBuilt built pattern → ⊥
large_not_built built pattern large is = both (built pattern) is.1 large.1

-- ---- the first whose pattern isn't built

not_of_both : (P Q : List ℕ → Type 0) → ((p : List ℕ) → P p → Q p → ⊥) → (operator : Operator) (value : List ℕ) → OfPattern P operator value → ForPattern Q operator value → ⊥
not_of_both P Q never Equal value h k = h
not_of_both P Q never NotEqual value h k = h
not_of_both P Q never Finds value h k = never value h k
not_of_both P Q never FindsNot value h k = never value h k

for_of : (P : List ℕ → Type 0) (operator : Operator) (value : List ℕ) → OfPattern P operator value → ForPattern P operator value
for_of P Equal value h = tt
for_of P NotEqual value h = tt
for_of P Finds value h = h
for_of P FindsNot value h = h

-- what isn't built
abbrev Never : (List ℕ → Bool) → (List ℕ → Type 0) → Type 0
Never built P = (p : List ℕ) → P p → IsBuilt built p → ⊥

bad_never : (built : List ℕ → Bool) → Never built IsBadSyntax
bad_never built pattern bad is = bad_not_formed pattern bad is.0

module _ (built : List ℕ → Bool) (P : List ℕ → Type 0) (never : Never built P) where
  not_among : (before : List Matching) (m : Matching) (after : List Matching) → OfPattern P m.operator m.value → AreBuilt built (before ++ m ∷ after) → ⊥
  not_among [] m after refused all = not_of_both P (IsBuilt built) never m.operator m.value refused all.0
  not_among (x ∷ before) m after refused all = not_among before m after refused all.1

  not_all_built : (matchers : List Matching) (i : ℕ) → IsFirstRefused built matchers P i → AreBuilt built matchers → ⊥
  not_all_built matchers i w all = not_among w.before w.matcher w.after w.refused (subst (AreBuilt built) w.cut all)

  module _ (Q : List ℕ → Type 0) (other : Never built Q) where
    same_cut : (b : List Matching) (m : Matching) (u : List Matching) (c : List Matching) (n : Matching) (v : List Matching) → b ++ m ∷ u ≡ c ++ n ∷ v
        → AreBuilt built b → AreBuilt built c → OfPattern P m.operator m.value → OfPattern Q n.operator n.value → (length b ≡ length c) × (m ≡ n)
    same_cut [] m u [] n v same before behind here there = let one : m ≡ n = cc in (refl, one)
    same_cut [] m u (y ∷ c) n v same before behind here there =
        let one : m ≡ y = cc in
        absurd (not_of_both P (IsBuilt built) never m.operator m.value here (subst (λ (x : Matching). ForPattern (IsBuilt built) x.operator x.value) (sym one) behind.0))
    same_cut (x ∷ b) m u [] n v same before behind here there =
        let one : x ≡ n = cc in
        absurd (not_of_both Q (IsBuilt built) other n.operator n.value there (subst (λ (x : Matching). ForPattern (IsBuilt built) x.operator x.value) one before.0))
    same_cut (x ∷ b) m u (y ∷ c) n v same before behind here there =
        let rest : b ++ m ∷ u ≡ c ++ n ∷ v = cc in
        let more = same_cut b m u c n v rest before.1 behind.1 here there in (ap suc more.0, more.1)

    same_first : (matchers : List Matching) (i j : ℕ) → IsFirstRefused built matchers P i → IsFirstRefused built matchers Q j
        → (i ≡ j) × ((m : Matching) × OfPattern P m.operator m.value × OfPattern Q m.operator m.value)
    same_first matchers i j w v =
        let cut = same_cut w.before w.matcher w.after v.before v.matcher v.after (sym w.cut ∙ v.cut) w.earlier v.earlier w.refused v.refused in (
          w.place ∙ cut.0 ∙ sym v.place,
          (w.matcher, w.refused, subst (λ (x : Matching). OfPattern Q x.operator x.value) (sym cut.1) v.refused),
        )

bad_not_large : (built : List ℕ → Bool) (matchers : List Matching) (i j : ℕ) → IsFirstRefused built matchers IsBadSyntax i
    → IsFirstRefused built matchers (IsTooLarge built) j → ⊥
bad_not_large built matchers i j w v =
    let first = same_first built IsBadSyntax (bad_never built) (IsTooLarge built) (large_not_built built) matchers i j w v in
    let m = first.1.0 in
    not_of_both IsBadSyntax (IsTooLarge built) (λ p bad large. bad_not_formed p bad large.0) m.operator m.value first.1.1
    (for_of (IsTooLarge built) m.operator m.value first.1.2)

-- ---- an answer

module _ (Form : List ℕ → List Matching → Type 0) (built : List ℕ → Bool) (text : List ℕ) (one : (a b : List Matching) → Form text a → Form text b → a ≡ b) where
  first_of : (P : List ℕ → Type 0) (i : ℕ) (a b : List Matching) → Form text a → Form text b → IsFirstRefused built a P i → IsFirstRefused built b P i
  first_of P i a b form other w = subst (λ m. IsFirstRefused built m P i) (one a b form other) w

  many_not_few : (a b : List Matching) → Form text a → Form text b → most_matchers < length a → length b ≤ most_matchers → ⊥
  many_not_few a b form other many few = let size = ap length (one a b form other) in omega arith

  fault_same : (f g : SelectorFault) → IsFaultOf Form built text f → IsFaultOf Form built text g → f ≡ g
  fault_same Kind g h k = absurd h
  fault_same f Kind h k = absurd k
  fault_same (Syntax at) (Syntax to) h k = ap Syntax (breaks_once (λ t. (matchers : List Matching) × Form t matchers) text at to h.1 k.1)
  fault_same (Syntax at) TooMany h k = absurd (h.0 k.0 k.1)
  fault_same (Syntax at) (Pattern j) h k = absurd (h.0 k.0 k.1)
  fault_same (Syntax at) (PatternRefused j) h k = absurd (h.0 k.0 k.1)
  fault_same TooMany (Syntax to) h k = absurd (k.0 h.0 h.1)
  fault_same TooMany TooMany h k = refl
  fault_same TooMany (Pattern j) h k = absurd (many_not_few h.0 k.0 h.1 k.1 h.2 k.2)
  fault_same TooMany (PatternRefused j) h k = absurd (many_not_few h.0 k.0 h.1 k.1 h.2 k.2)
  fault_same (Pattern i) (Syntax to) h k = absurd (k.0 h.0 h.1)
  fault_same (Pattern i) TooMany h k = absurd (many_not_few k.0 h.0 k.1 h.1 k.2 h.2)
  fault_same (Pattern i) (Pattern j) h k =
      ap Pattern (same_first built IsBadSyntax (bad_never built) IsBadSyntax (bad_never built) k.0 i j (first_of IsBadSyntax i h.0 k.0 h.1 k.1 h.3) k.3).0
  fault_same (Pattern i) (PatternRefused j) h k = absurd (bad_not_large built k.0 i j (first_of IsBadSyntax i h.0 k.0 h.1 k.1 h.3) k.3)
  fault_same (PatternRefused i) (Syntax to) h k = absurd (k.0 h.0 h.1)
  fault_same (PatternRefused i) TooMany h k = absurd (many_not_few k.0 h.0 k.1 h.1 k.2 h.2)
  fault_same (PatternRefused i) (Pattern j) h k = absurd (bad_not_large built h.0 j i (first_of IsBadSyntax j k.0 h.0 k.1 h.1 k.3) h.3)
  fault_same (PatternRefused i) (PatternRefused j) h k =
      ap PatternRefused
      (same_first built (IsTooLarge built) (large_not_built built) (IsTooLarge built) (large_not_built built) k.0 i j (first_of (IsTooLarge built) i h.0 k.0 h.1 k.1 h.3) k.3).0

  read_no_fault : (matchers : List Matching) (fault : SelectorFault) → AreRead Form built text matchers → IsFaultOf Form built text fault → ⊥
  read_no_fault matchers Kind w h = h
  read_no_fault matchers (Syntax at) w h = h.0 matchers w.form
  read_no_fault matchers TooMany w h = many_not_few h.0 matchers h.1 w.form h.2 w.few
  read_no_fault matchers (Pattern i) w h =
      not_all_built built IsBadSyntax (bad_never built) matchers i (first_of IsBadSyntax i h.0 matchers h.1 w.form h.3) w.each
  read_no_fault matchers (PatternRefused i) w h =
      not_all_built built (IsTooLarge built) (large_not_built built) matchers i (first_of (IsTooLarge built) i h.0 matchers h.1 w.form h.3) w.each

pub one_selector_answer : (built : List ℕ → Bool) (text : List ℕ) (first second : Result (List Matching) SelectorFault) → IsReadSelectorBy built text first
    → IsReadSelectorBy built text second → first ≡ second
one_selector_answer built text (Ok a) (Ok b) h k = ap Ok (one_selector text a b h.form k.form)
one_selector_answer built text (Ok a) (Err g) h k = absurd (read_no_fault IsSelectorText built text (one_selector text) a g h k)
one_selector_answer built text (Err f) (Ok b) h k = absurd (read_no_fault IsSelectorText built text (one_selector text) b f k h)
one_selector_answer built text (Err f) (Err g) h k = ap Err (fault_same IsSelectorText built text (one_selector text) f g h k)

-- ---- a query

module _ (a b : ProfileType) (name : a.name ≡ b.name) (sample_type : a.sample_type ≡ b.sample_type) (sample_unit : a.sample_unit ≡ b.sample_unit)
    (period_type : a.period_type ≡ b.period_type) (period_unit : a.period_unit ≡ b.period_unit) where
  same_parts : a ≡ b
  same_parts = λ i. record {
    name = name i;
    sample_type = sample_type i;
    sample_unit = sample_unit i;
    period_type = period_type i;
    period_unit = period_unit i;
    parts =
        is_prop→PathP (λ j. IsPart (name j) × IsPart (sample_type j) × IsPart (sample_unit j) × IsPart (period_type j) × IsPart (period_unit j)) (λ j. hlevel Bool-set) a.parts b.parts i;
  }

one_kind : (a b : ProfileType) → parts_in a ≡ parts_in b → a ≡ b
one_kind a b same =
    let name : a.name ≡ b.name = cc in
    let sample_type : a.sample_type ≡ b.sample_type = cc in
    let sample_unit : a.sample_unit ≡ b.sample_unit = cc in
    let period_type : a.period_type ≡ b.period_type = cc in
    let period_unit : a.period_unit ≡ b.period_unit = cc in same_parts a b name sample_type sample_unit period_type period_unit

one_query_of : (text : List ℕ) (a b : List Matching) → IsQueryOf text a → IsQueryOf text b → a ≡ b
one_query_of text a b form other = (one_query text form.0 other.0 a b form.1 other.1).1

same_query : (a b : Query) → a.kind ≡ b.kind → a.selector ≡ b.selector → a ≡ b
same_query a b kind selector = λ i. record { kind = kind i; selector = selector i }

-- the kind of a query isn't five parts, or it is and the query has an answer
data Judged (built : List ℕ → Bool) (text : List ℕ) (result : Result Query SelectorFault) : Type 0 where
  no_kind : result ≡ Err Kind → length (parts_of (kind_of text)) ≢ 5 → Judged built text result
  faulty : (fault : SelectorFault) → result ≡ Err fault → length (parts_of (kind_of text)) ≡ 5 → IsFaultOf IsQueryOf built text fault → Judged built text result
  asked : (query : Query) → result ≡ Ok query → parts_of (kind_of text) ≡ parts_in query.kind → AreRead IsQueryOf built text query.selector → Judged built text result

judged : (built : List ℕ → Bool) (text : List ℕ) (result : Result Query SelectorFault) → IsReadQueryBy built text result → Judged built text result
judged built text (Ok query) h = asked query refl h.0 h.1
judged built text (Err Kind) h = no_kind refl h
judged built text (Err (Syntax at)) h = faulty (Syntax at) refl h.0 h.1
judged built text (Err TooMany) h = faulty TooMany refl h.0 h.1
judged built text (Err (Pattern i)) h = faulty (Pattern i) refl h.0 h.1
judged built text (Err (PatternRefused i)) h = faulty (PatternRefused i) refl h.0 h.1

judged_same : (built : List ℕ → Bool) (text : List ℕ) (first second : Result Query SelectorFault) → Judged built text first → Judged built text second → first ≡ second
judged_same built text first second (no_kind is none) (no_kind it other) = is ∙ sym it
judged_same built text first second (no_kind is none) (faulty g it five k) = absurd (none five)
judged_same built text first second (no_kind is none) (asked b it parts k) = absurd (none (ap length parts))
judged_same built text first second (faulty f is five h) (no_kind it none) = absurd (none five)
judged_same built text first second (faulty f is five h) (faulty g it also k) =
    is ∙ ap Err (fault_same IsQueryOf built text (one_query_of text) f g h k) ∙ sym it
judged_same built text first second (faulty f is five h) (asked b it parts k) = absurd (read_no_fault IsQueryOf built text (one_query_of text) b.selector f k h)
judged_same built text first second (asked a is parts h) (no_kind it none) = absurd (none (ap length parts))
judged_same built text first second (asked a is parts h) (faulty g it five k) = absurd (read_no_fault IsQueryOf built text (one_query_of text) a.selector g h k)
judged_same built text first second (asked a is parts h) (asked b it also k) =
    is ∙ ap Ok (same_query a b (one_kind a.kind b.kind (sym parts ∙ also)) (one_query_of text a.selector b.selector h.form k.form)) ∙ sym it

pub one_query_answer : (built : List ℕ → Bool) (text : List ℕ) (first second : Result Query SelectorFault) → IsReadQueryBy built text first
    → IsReadQueryBy built text second → first ≡ second
one_query_answer built text first second h k = judged_same built text first second (judged built text first h) (judged built text second k)
