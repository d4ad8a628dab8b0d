use Rattle.std.proofs.Common.{◌≡◌, Global}
use Rattle.wire_forms.proofs.GzipLemmas.{not_begun}
use Rattle.pprof_codec.specs.Checks.{judged_faults}
use Rattle.pprof_codec.proofs.JudgedLemmas.{judged-leads}
use Rattle.pprof_codec.proofs.ReadLemmas.{part-read, built-read}
use Rattle.pprof_codec.proofs.reader.read_pprof.Goals as goal

pub returns-in-Ok-judge-clause-read : goal.returns-in-Ok-judge-clause-read
returns-in-Ok-judge-clause-read c =
    let same : c.in-Ok-judge.judged.message ≡ c.in-Ok.message = c.in-Ok-judge.ensures.1 in
    built-read c.args.base.now c.args.bytes.now c.in-Ok-judge.judged.message
    (not_begun c.args.bytes.now _ c.begins_as_gzip.ensures c.if-begins_as_gzip.false) (rw same c.in-Ok.ensures.read)
    c.build_profiles.result (rw same c.in-Ok-judge.ensures.0) c.build_profiles.ensures.built

pub returns-in-Err-clause-read : goal.returns-in-Err-clause-read
returns-in-Err-clause-read c =
    part-read c.args.base.now c.args.bytes.now c.in-Ok.message
    (not_begun c.args.bytes.now _ c.begins_as_gzip.ensures c.if-begins_as_gzip.false) c.in-Ok.ensures.read
    Global (judged_faults c.in-Ok.message) c.in-Err.refused (judged-leads c.args.base.now c.in-Ok.message) c.in-Err.ensures
