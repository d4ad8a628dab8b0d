use Rattle.std.proofs.Common.{◌≡◌, ◌≢◌, ◌∷◌, ℕ, List, Option, Some, None, Bor}
use Rattle.std.specs.Prelude.{MatchOption, IsFalse, ◌==◌}
use Rattle.std.proofs.lemmas.Str.Pattern.{strip_prefix_char}
use Rattle.selector.specs.Runs.{begins_with}
use Rattle.selector.proofs.ByteLemmas.{lacks}
use Rattle.selector.proofs.tokens.strip.Goals as goal

by : (c : ℕ) (bs : List ℕ) (r : Option (Bor (List ℕ))) → MatchOption r ((rest : List ℕ) → bs ≢ c ∷ rest) (λ x. bs ≡ c ∷ x.now)
    → MatchOption r (IsFalse (begins_with (λ b. b == c) bs)) (λ x. bs ≡ c ∷ x.now)
by c bs None none = lacks c bs none
by c bs (Some x) some = some

pub returns : goal.returns
returns c = by c.args.mark c.args.text.now c.strip_prefix.result (strip_prefix_char c.args.mark c.args.text.now c.strip_prefix.result c.strip_prefix.ensures.cases c.requires)
