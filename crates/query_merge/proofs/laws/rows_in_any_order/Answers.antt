use Rattle.query_merge.proofs.OrderLemmas.{series_in_any_order, sets_in_any_order, span_in_any_order, stacks_in_any_order, types_in_any_order}
use Rattle.query_merge.proofs.PartLemmas.{parts_in_any_order, rows_in_any_order}
use Rattle.query_merge.proofs.laws.rows_in_any_order.Goals as goal

pub returns-clause-parts : goal.returns-clause-parts
returns-clause-parts c = parts_in_any_order

pub returns-clause-rows : goal.returns-clause-rows
returns-clause-rows c = rows_in_any_order

pub returns-clause-span : goal.returns-clause-span
returns-clause-span c = span_in_any_order

pub returns-clause-types : goal.returns-clause-types
returns-clause-types c = types_in_any_order

pub returns-clause-sets : goal.returns-clause-sets
returns-clause-sets c = sets_in_any_order

pub returns-clause-stacks : goal.returns-clause-stacks
returns-clause-stacks c = stacks_in_any_order

pub returns-clause-series : goal.returns-clause-series
returns-clause-series c = series_in_any_order
