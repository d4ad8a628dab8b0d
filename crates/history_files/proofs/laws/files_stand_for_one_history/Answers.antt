use Rattle.history_files.proofs.StandLemmas.{as_long, blamed_once, blamed_stands_for_none, one_or_blamed, stand_once}
use Rattle.history_files.proofs.laws.files_stand_for_one_history.Goals as goal

pub returns-clause-one : goal.returns-clause-one
returns-clause-one c = stand_once

pub returns-clause-long : goal.returns-clause-long
returns-clause-long c = as_long

pub returns-clause-none : goal.returns-clause-none
returns-clause-none c records files file history blamed = blamed_stands_for_none records files file blamed history

pub returns-clause-some : goal.returns-clause-some
returns-clause-some c = one_or_blamed

pub returns-clause-blamed : goal.returns-clause-blamed
returns-clause-blamed c = blamed_once
