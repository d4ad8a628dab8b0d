use Rattle.std.proofs.Common.{◌≡◌, ◌∙◌, Some, length, cond, sym, subst, arith}
use Rattle.std.specs.Map.{lookup}
use Rattle.std.specs.BTreeMap.{is_at}
use Rattle.profile_model.specs.Stacks.{name_cmp}
use Rattle.flamebearer.specs.Names.{AreNumbered}
use Rattle.flamebearer.proofs.NumberLemmas.{added, is-there, numbered-more, with-new, with-old}
use Rattle.flamebearer.proofs.names.add_name.Goals as goal

pub returns-then-contains_key-clause-names : goal.returns-then-contains_key-clause-names
returns-then-contains_key-clause-names c =
    let there = is-there c.args.names.now.items c.args.numbers.now.entries c.args.name.now c.requires in
    with-old c.args.names.now.items c.args.name.now (sym there ∙ sym c.contains_key.ensures ∙ c.if-contains_key.true)

pub returns-clause-names : goal.returns-clause-names
returns-clause-names c =
    let is = added c.args.names.now.items c.push.new.self.items c.args.numbers.now.entries c.args.name.now c.in_ok-clone.field-0 c.contains_key.result c.requires c.contains_key.ensures c.if-contains_key.false
    c.in_ok-clone.ensures.cases c.in_ok-push.ensures.items in
    is.pushed ∙ with-new c.args.names.now.items c.args.name.now is.new

pub returns-clause-numbers : goal.returns-clause-numbers
returns-clause-numbers c =
    let is = added c.args.names.now.items c.push.new.self.items c.args.numbers.now.entries c.args.name.now c.in_ok-clone.field-0 c.contains_key.result c.requires c.contains_key.ensures c.if-contains_key.false
    c.in_ok-clone.ensures.cases c.in_ok-push.ensures.items in
    let number = c.len-number.ensures in
    let count : c.len-number.result ≡ length c.args.names.now.items = omega (arith, c.args.names.now.ok.0) in
    subst (λ names. AreNumbered names c.insert.new.self.entries) (sym is.pushed)
    (numbered-more c.args.names.now.items c.args.numbers.now.entries c.insert.new.self.entries c.args.name.now is.new
    (λ q. c.in_ok-insert.ensures.updates.0 q
    ∙ (λ i. cond (is_at (name_cmp (c.in_ok-clone-2.ensures.cases i)) q) (Some (count i)) (lookup (is_at (name_cmp q)) c.args.numbers.now.entries)))
    c.requires)
