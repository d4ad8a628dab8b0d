use Rattle.std.proofs.Common.{◌≡◌, codes, length, ap, sym, subst, ◌∙◌, arith}
use Rattle.std.specs.Option.{option_and_then}
use Rattle.json_bodies.specs.Fields.{as_list, each_said}
use Rattle.json_bodies.specs.Kept.{AreSamples}
use Rattle.json_bodies.specs.Pushes.{label_in}
use Rattle.json_bodies.proofs.FoundLemmas.{get_here, get_other, reads_so}
use Rattle.json_bodies.proofs.KindLemmas.{reads_any}
use Rattle.json_bodies.proofs.series.with_member.Goals as goal

apart : ¬ (codes "labels" ≡ codes "samples")
apart e = omega (arith, ap length e)

pub returns-in_ok-labels : goal.returns-in_ok-labels
returns-in_ok-labels c =
    let here : c.args.key.now ≡ codes "labels" = c.if-is_key.ensures in
    reads_so _ _ c.args.depth c.args.reader.now c.read_labels.new.reader (λ d is found parts.
    record {
      labels = ap (λ o. option_and_then (each_said label_in) (option_and_then as_list o)) (get_here c.args.key.now (codes "labels") d found here) ∙ is;
      samples = subst (λ o. AreSamples (option_and_then as_list o) c.args.parts.samples)
          (sym (get_other c.args.key.now (codes "samples") d found (λ e. apart (sym here ∙ e)))) parts.samples;
    }) c.in_ok-labels.ensures

pub returns-in_ok-samples : goal.returns-in_ok-samples
returns-in_ok-samples c =
    let here : c.args.key.now ≡ codes "samples" = c.if-is_key-2.ensures in
    reads_so _ _ c.args.depth c.args.reader.now c.read_samples.new.reader (λ d is found parts.
    record {
      labels = ap (λ o. option_and_then (each_said label_in) (option_and_then as_list o))
          (get_other c.args.key.now (codes "labels") d found (λ e. apart (sym e ∙ here))) ∙ parts.labels;
      samples = subst (λ o. AreSamples (option_and_then as_list o) c.in_ok-samples.samples)
          (sym (get_here c.args.key.now (codes "samples") d found here)) is;
    }) c.in_ok-samples.ensures

pub returns-in_ok-skip : goal.returns-in_ok-skip
returns-in_ok-skip c =
    reads_any _ c.args.depth c.args.reader.now c.skip.new.reader c.in_ok-skip.ensures (λ d found parts.
    record {
      labels = ap (λ o. option_and_then (each_said label_in) (option_and_then as_list o))
          (get_other c.args.key.now (codes "labels") d found c.if-is_key.ensures) ∙ parts.labels;
      samples = subst (λ o. AreSamples (option_and_then as_list o) c.args.parts.samples)
          (sym (get_other c.args.key.now (codes "samples") d found c.if-is_key-2.ensures)) parts.samples;
    })
