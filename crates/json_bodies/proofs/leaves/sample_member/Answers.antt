use Rattle.std.proofs.Common.{codes, ap, ◌∙◌}
use Rattle.std.specs.Option.{option_and_then}
use Rattle.serde_json.specs.Find.{as_str}
use Rattle.json_bodies.proofs.FoundLemmas.{get_here, get_other, reads_so}
use Rattle.json_bodies.proofs.KindLemmas.{reads_any}
use Rattle.json_bodies.proofs.leaves.sample_member.Goals as goal

pub returns-in_ok-raw : goal.returns-in_ok-raw
returns-in_ok-raw c =
    reads_so _ _ c.args.depth c.args.reader.now c.read_text.new.reader (λ d is found before.
    ap (option_and_then as_str) (get_here c.args.key.now (codes "rawProfile") d found c.if-is_key.ensures) ∙ is) c.in_ok-raw.ensures

pub returns-in_ok-skip : goal.returns-in_ok-skip
returns-in_ok-skip c =
    reads_any _ c.args.depth c.args.reader.now c.skip.new.reader c.in_ok-skip.ensures (λ d found raw.
    ap (option_and_then as_str) (get_other c.args.key.now (codes "rawProfile") d found c.if-is_key.ensures) ∙ raw)
