use Rattle.std.proofs.Common.{◌≡◌, ◌∷◌, ◌++◌, true, map, length, subst, arith, rules}
use Rattle.std.proofs.lemmas.List.{length-map}
use Rattle.std.proofs.lemmas.Grind.{common_steps}
use Rattle.selector.specs.Matchers.{matching_of}
use Rattle.faults.specs.Answers.{IfFault}
use Rattle.selector.specs.Read.{ForPatterns}
use Rattle.selector.specs.Building.{IsUnbuilt}
use Rattle.selector.specs.Patterns.{IsWellFormed}
use Rattle.selector.specs.Rests as rests
use Rattle.selector.proofs.BuiltLemmas.{all_built, told_of_matcher}
use Rattle.selector.proofs.matchers.build_all.Goals as goal

pub returns-then-len-gt-MAX_MATCHERS : goal.returns-then-len-gt-MAX_MATCHERS
returns-then-len-gt-MAX_MATCHERS c =
    let size = length-map c.args.written.items rests.matching_of in
    (λ _. true, omega (arith, c.if-len-gt-MAX_MATCHERS.true, c.len.ensures))

pub returns-in-Err : goal.returns-in-Err
returns-in-Err c =
    let loop = c.loop-matcher.invariant in
    let matcher = rests.matching_of c.in-Some.matcher in
    let all = map rests.matching_of c.args.written.items in
    let before = map matching_of c.loop-matcher.matchers.items in
    let after = map rests.matching_of c.next.new.self.rest.items in
    let cut : all ≡ before ++ matcher ∷ after = search rules in
    let few = loop.few in
    let size = length-map c.args.written.items rests.matching_of in
    let place : c.len-number.result ≡ length before = grind (arith, common_steps) in
    let unbuilt = subst (λ items. IfFault (IsUnbuilt (map matching_of items) matcher.operator matcher.value) c.in-Err.refused) c.deref-in-loop-matcher.ensures.value c.in-Err.ensures in
    told_of_matcher all before matcher after c.len-number.result (omega arith) loop.short cut place loop.formed c.in-Err.refused c.of_matcher.result c.of_matcher.ensures unbuilt

pub returns : goal.returns
returns c =
    let loop = c.loop-matcher.invariant in
    let together : map matching_of c.loop-matcher.matchers.items ≡ map rests.matching_of c.args.written.items = grind (arith, common_steps) in
    (together, loop.few, loop.short, all_built (map rests.matching_of c.args.written.items) (subst (ForPatterns IsWellFormed) together loop.formed))
