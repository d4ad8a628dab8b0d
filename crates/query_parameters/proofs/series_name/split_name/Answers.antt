use Rattle.query_parameters.proofs.SplitNameLemmas.{alone, in_braces}
use Rattle.query_parameters.proofs.series_name.split_name.Goals as goal

pub returns-in_ok-split_pairs-in-Some : goal.returns-in_ok-split_pairs-in-Some
returns-in_ok-split_pairs-in-Some c =
    let h = c.in-Some.ensures in
    rw (h.0, c.in_ok-split_pairs-in-Some.ensures, c.before_brace.ensures, h.1) (in_braces c.args.text.now c.requires h.2)

pub returns-in-None : goal.returns-in-None
returns-in-None c = rw c.new.ensures.items (alone c.args.text.now c.requires c.in-None.ensures)
