use Rattle.http_session.proofs.EndingLemmas.{endings_agree}
use Rattle.http_session.proofs.StayLemmas.{takes_stay, ended_of_all, refused_of_all}
use Rattle.http_session.proofs.TakesLemmas.{whole_stays, whole_is_one, requests_are_one, taken_of_all}
use Rattle.http_session.proofs.laws.one_reading.Goals as goal

pub returns-clause-stays : goal.returns-clause-stays
returns-clause-stays c = whole_stays

pub returns-clause-one : goal.returns-clause-one
returns-clause-one c = whole_is_one

pub returns-clause-requests : goal.returns-clause-requests
returns-clause-requests c = requests_are_one

pub returns-clause-of_all : goal.returns-clause-of_all
returns-clause-of_all c = taken_of_all

pub returns-clause-endings : goal.returns-clause-endings
returns-clause-endings c = endings_agree

pub returns-clause-stay : goal.returns-clause-stay
returns-clause-stay c = takes_stay

pub returns-clause-ended : goal.returns-clause-ended
returns-clause-ended c = ended_of_all

pub returns-clause-refused : goal.returns-clause-refused
returns-clause-refused c = refused_of_all
