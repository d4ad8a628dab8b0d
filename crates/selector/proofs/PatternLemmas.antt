-- From the clauses of regex to the words of this crate.
use Rattle.std.proofs.Common.{◌≡◌, ◌≢◌, ◌<◌, ◌≤◌, ℕ, List, Option, Some, None, length, get_or, is_some, IsSomeAnd, true, ⊎_elim, inl, inr, subst}
use Rattle.std.specs.Str.{chars}
use Rattle.regex.specs.Patterns.{Re, default_config, find_str}
use Rattle.regex.specs.Failures.{IsPattern}
use Rattle.regex.specs.Strings.{regex_source, regex_pattern}
use Rattle.regex.specs.declared.string.regex.Regex.{Regex}
use Rattle.regex.proofs.ForCallers.{is_match_alike}
use Rattle.regex_syntax.specs.Captures.{SameCaptures}
use Rattle.regex_syntax.specs.declared.error.ErrorKind.{ErrorKind}
use Rattle.regex_syntax.specs.declared.error.ErrorKind.TheVariants.{OutOfMemory}
use Rattle.regex_syntax.specs.Grammar.{Names, group_count, read}
use Rattle.regex_syntax.specs.Brackets.{Nested}
use Rattle.regex_syntax.specs.Verdict.{Reads, Refuses}
use Rattle.regex_syntax.specs.declared.Config.{Config}
use Rattle.faults.specs.Answers.{IfFault}
use Rattle.faults.specs.declared.refused.Refused.{Refused}
use Rattle.faults.specs.declared.refused.Refused.TheVariants.{Fault, Memory}
use Rattle.selector.specs.declared.pattern.PatternFault.{PatternFault}
use Rattle.selector.specs.declared.pattern.PatternFault.TheVariants.{Syntax}
use Rattle.selector.specs.Patterns.{anchored, finds_read, IsReadable, IsUnreadable}
use Rattle.selector.specs.Stored.{IsBuiltFrom, IsFoundAs}

pub no_pattern : (text : List ℕ) (kind : ErrorKind) → Refuses default_config text kind → kind ≢ OutOfMemory → IsUnreadable text
unfolding Refuses
no_pattern text kind refuses not_memory =
    ⊎_elim (λ memory. absurd (not_memory memory)) (⊎_elim (λ none. inl none) (λ deep. inr deep.1)) refuses

finds_in : (o : Option (Nested Re × Names)) (limit : ℕ) (a : Re) (names : Names) (value : List ℕ) → ((k : ℕ) → get_or value k 0 < 256)
    → IsSomeAnd o (λ (re, found). (re.depth ≤ limit) × SameCaptures a re.value × (names ≡ found) × (group_count a ≤ length names))
    → is_some (find_str a value 0) ≡ finds_read o value
finds_in None limit a names value bytes p = absurd p
finds_in (Some found) limit a names value bytes p = is_match_alike p.1 value bytes true 0

found_read : (text : List ℕ) (regex : Regex) (value : List ℕ) → ((k : ℕ) → get_or value k 0 < 256) → IsBuiltFrom text regex
    → is_some (find_str (regex_pattern regex) value 0) ≡ finds_read (read default_config (chars text)) value
unfolding Reads
found_read text regex value bytes built =
    subst (λ t. is_some (find_str (regex_pattern regex) value 0) ≡ finds_read (read default_config (chars t)) value) built.source
    (finds_in (read default_config (chars (regex_source regex))) default_config.nest_limit (regex_pattern regex) _ value bytes (rw built.config at built.reads))

-- what was built of a pattern between its anchors is found as the pattern is
pub found_as : (pattern : List ℕ) (regex : Regex) → IsBuiltFrom (anchored pattern) regex → IsFoundAs pattern regex
found_as pattern regex built value bytes = found_read (anchored pattern) regex value bytes built

-- what is built of a text is a pattern
pub readable : (text : List ℕ) (regex : Regex) → IsBuiltFrom text regex → IsReadable text
readable text regex built =
    subst IsReadable built.source (subst (λ config. IsPattern config (regex_source regex)) built.config (_, _, built.reads))

-- the parser's refusal, where it isn't want of memory
pub unreadable_alone : (config : Config) (text : List ℕ) (kind : ErrorKind) (refused : Refused PatternFault) → config ≡ default_config → Refuses config text kind
    → IfFault (λ fault. (fault ≡ Syntax) × (kind ≢ OutOfMemory)) refused → IfFault (λ fault. (fault ≡ Syntax) × IsUnreadable text) refused
unreadable_alone config text kind (Fault fault) same refuses told =
    (told.0, no_pattern text kind (subst (λ other. Refuses other text kind) same refuses) told.1)
unreadable_alone config text kind Memory same refuses told = tt
