use Rattle.std.specs.Cmp.Lexicographic.{nat_list_cmp_total}
use Rattle.profile_model.specs.LabelOrder.{labels_total}
use Rattle.label_queries.proofs.OrderLemmas.{ascending_are_members}
use Rattle.label_queries.proofs.laws.each_member_once.Goals as goal

pub returns-clause-texts : goal.returns-clause-texts
returns-clause-texts c = ascending_are_members nat_list_cmp_total

pub returns-clause-sets : goal.returns-clause-sets
returns-clause-sets c = ascending_are_members labels_total
