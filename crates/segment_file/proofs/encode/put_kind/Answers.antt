use Rattle.std.specs.Str.{IsUtf8}
use Rattle.segment_file.proofs.EncodeLemmas.{all_five, always}
use Rattle.segment_file.proofs.encode.put_kind.Goals as goal

pub returns-clause-parts : goal.returns-clause-parts
returns-clause-parts c =
    let kind = c.args.kind.now in
    always c.put_text-5.result
    (all_five IsUtf8 kind.name kind.sample_type kind.sample_unit kind.period_type kind.period_unit
    c.put_text.ensures.utf8 c.put_text-2.ensures.utf8 c.put_text-3.ensures.utf8 c.put_text-4.ensures.utf8 c.put_text-5.ensures.utf8)
