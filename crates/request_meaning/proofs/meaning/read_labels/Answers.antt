use Rattle.std.proofs.lemmas.Result.{err_from_is_err_and}
use Rattle.request_meaning.proofs.MeaningLemmas.{labels_fault}
use Rattle.request_meaning.proofs.meaning.read_labels.Goals as goal

pub returns-in_err-ask : goal.returns-in_err-ask
returns-in_err-ask c =
    let p = err_from_is_err_and c.from_residual.result c.from_residual.ensures.1 in
    rw (p.1, p.2) (labels_fault c.args.request.now c.args.method _ (rw c.body.ensures at c.in_err-ask.ensures))
