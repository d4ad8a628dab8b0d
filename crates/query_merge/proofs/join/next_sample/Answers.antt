use Rattle.std.proofs.Common.{rules}
use Rattle.query_merge.proofs.JoinLemmas.{both-are_one, second-is_lower}
use Rattle.query_merge.proofs.join.next_sample.Goals as goal

pub returns-in_ok-copy_of-in-Greater : goal.returns-in_ok-copy_of-in-Greater
returns-in_ok-copy_of-in-Greater c =
    second-is_lower c.args.first.now c.args.second.now c.in-Some-Some.first_rest.now c.in-Some-Some.second_rest.now c.in-Some-Some.one.now c.in-Some-Some.other.now
    c.in_ok-copy_of-in-Greater.field-0 (search rules) (search rules) (search rules) (search rules)

pub returns-in_ok-clone-in-Equal : goal.returns-in_ok-clone-in-Equal
returns-in_ok-clone-in-Equal c =
    both-are_one c.args.first.now c.args.second.now c.in-Some-Some.first_rest.now c.in-Some-Some.second_rest.now c.in-Some-Some.one.now c.in-Some-Some.other.now
    c.in_ok-clone-in-Equal.field-0 (search rules) (search rules) (search rules) (search rules)
