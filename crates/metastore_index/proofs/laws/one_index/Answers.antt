use Rattle.metastore_index.proofs.OneIndexLemmas.{one_index, one_index_of_bodies, next_is_taken, one_run, same_body}
use Rattle.metastore_index.proofs.FrontLemmas.{each_body_reads, front_comes}
use Rattle.metastore_index.proofs.laws.one_index.Goals as goal

pub returns-clause-one : goal.returns-clause-one
returns-clause-one c = one_index

pub returns-clause-bodies : goal.returns-clause-bodies
returns-clause-bodies c = one_index_of_bodies

pub returns-clause-next : goal.returns-clause-next
returns-clause-next c = next_is_taken

pub returns-clause-reading : goal.returns-clause-reading
returns-clause-reading c = same_body

pub returns-clause-each : goal.returns-clause-each
returns-clause-each c = each_body_reads

pub returns-clause-front : goal.returns-clause-front
returns-clause-front c = front_comes

pub returns-clause-run : goal.returns-clause-run
returns-clause-run c = one_run
