use Rattle.std.proofs.Common.{◌≡◌, ◌+◌, ◌∷◌, ◌++◌, [], ◌∙◌, length, take, rules, arith, sym, ap}
use Rattle.std.proofs.lemmas.List.{take_more_set}
use Rattle.profile_model.specs.Sums.{total_of}
use Rattle.query_merge.specs.Merging.{with_samples}
use Rattle.query_merge.specs.Runs.{AreJoined, all_samples}
use Rattle.query_merge.proofs.RunLemmas.{ArePut, are-put, has_room, take_all}
use Rattle.query_merge.proofs.runs.Runs.put.Goals as goal

pub joined_with_last-requires-clause-room : goal.joined_with_last-requires-clause-room
joined_with_last-requires-clause-room c =
    let room = has_room c.self.inside.runs.items c.args.self.now c.args.samples.items (sym c.self.view_is) c.requires.room in
    let same = ap (λ runs. total_of (all_samples runs)) c.deref.ensures.value in omega arith

-- ---- in the place of a list

put_then : (c : goal.After-truncate) → ArePut c.self.inside.runs.items c.args.samples.items c.truncate.new.self.items
put_then c =
    let runs = c.self.inside.runs.items in
    let joined : AreJoined runs c.args.samples.items c.in_ok-left.left c.in_ok-left.run'.items = search rules in
    let room = has_room runs c.args.self.now c.args.samples.items (sym c.self.view_is) c.requires.room in
    are-put runs c.args.samples.items c.in_ok-left.left c.in_ok-left.run' c.truncate.new.self.items c.self.invariant joined room
    (c.truncate.ensures.items ∙ take_more_set runs c.in_ok-left.left c.in_ok-left.run' (search rules))

pub invariant_of-self : goal.invariant_of-self
invariant_of-self c = (put_then c).kept

pub returns-then-left-len-clause-ok : goal.returns-then-left-len-clause-ok
returns-then-left-len-clause-ok c = (put_then c).sums ∙ ap (λ sums. with_samples sums c.args.samples.items) c.self.view_is

pub returns-then-left-len-clause-total : goal.returns-then-left-len-clause-total
returns-then-left-len-clause-total c = (put_then c).total ∙ ap (λ sums. total_of sums + total_of c.args.samples.items) c.self.view_is

-- ---- behind all lists

put_behind : (c : goal.In_ok-push) → ArePut c.self.inside.runs.items c.args.samples.items c.push.new.self.items
put_behind c =
    let runs = c.self.inside.runs.items in
    let joined : AreJoined runs c.args.samples.items c.in_ok-left.left c.in_ok-left.run'.items = search rules in
    let room = has_room runs c.args.self.now c.args.samples.items (sym c.self.view_is) c.requires.room in
    let count : length runs ≡ c.in_ok-left.left =
    (let within = joined.within in let number = c.len.ensures in omega (arith, c.self.inside.runs.ok.0, c.if-left-len.false)) in
    are-put runs c.args.samples.items c.in_ok-left.left c.in_ok-left.run' c.push.new.self.items c.self.invariant joined room
    (c.in_ok-push.ensures.items ∙ ap (λ before. before ++ c.in_ok-left.run' ∷ []) (sym (take_all runs) ∙ ap (λ left. take left runs) count))

pub invariant_of-self-in-Continue-branch-2 : goal.invariant_of-self-in-Continue-branch-2
invariant_of-self-in-Continue-branch-2 c = (put_behind c).kept

pub returns-in_ok-push-clause-ok : goal.returns-in_ok-push-clause-ok
returns-in_ok-push-clause-ok c = (put_behind c).sums ∙ ap (λ sums. with_samples sums c.args.samples.items) c.self.view_is

pub returns-in_ok-push-clause-total : goal.returns-in_ok-push-clause-total
returns-in_ok-push-clause-total c = (put_behind c).total ∙ ap (λ sums. total_of sums + total_of c.args.samples.items) c.self.view_is
