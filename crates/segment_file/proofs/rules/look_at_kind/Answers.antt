use Rattle.std.specs.Str.{IsUtf8}
use Rattle.segment_file.proofs.EncodeLemmas.{all_five}
use Rattle.segment_file.proofs.rules.look_at_kind.Goals as goal

pub returns : goal.returns
returns c =
    let kind = c.args.kind.now in
    all_five IsUtf8 kind.name kind.sample_type kind.sample_unit kind.period_type kind.period_unit
    c.as_bytes-name.ensures.utf8 c.as_bytes-sample_type.ensures.utf8 c.as_bytes-sample_unit.ensures.utf8 c.as_bytes-period_type.ensures.utf8 c.as_bytes-period_unit.ensures.utf8
