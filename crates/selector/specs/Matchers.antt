-- What the stored matchers of a selector stand for.
use Rattle.std.specs.String.{string_bytes}
use Rattle.selector.specs.Matching.{Matching}
use Rattle.selector.specs.Tests.{operator_of, asked_of}
use Rattle.selector.specs.declared.matchers.Matcher.{Matcher}

abbrev pub matching_of : Matcher → Matching
matching_of matcher = record { name = string_bytes matcher.name; operator = operator_of matcher.judge.test; value = asked_of matcher.judge.test }
