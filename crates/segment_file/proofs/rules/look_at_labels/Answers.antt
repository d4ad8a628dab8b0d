use Rattle.std.proofs.Common.{List, subst, arith}
use Rattle.std.specs.List.{All}
use Rattle.std.specs.Map.{keys_of, values_of}
use Rattle.std.specs.Str.{IsUtf8}
use Rattle.profile_model.specs.LabelSets.{Label}
use Rattle.segment_file.proofs.EncodeLemmas.{seen_all, seen_next}
use Rattle.segment_file.proofs.rules.look_at_labels.Goals as goal

pub loop-label-preserved : goal.loop-label-preserved
loop-label-preserved c =
    let at = c.loop-label.label-index in
    let pairs = c.pairs-pairs.result.now in
    let label = c.label-item.result in
    record {
      names = seen_next IsUtf8 (λ (l : Label). l.0) pairs at label (omega arith) c.label-item.is c.look_at_label.ensures.name c.loop-label.invariant.names;
      values = seen_next IsUtf8 (λ (l : Label). l.1) pairs at label (omega arith) c.label-item.is c.look_at_label.ensures.value c.loop-label.invariant.values;
    }

pub returns-clause-names : goal.returns-clause-names
returns-clause-names c =
    subst (λ (l : List Label). All IsUtf8 (keys_of l)) c.pairs-pairs.ensures.value
    (seen_all IsUtf8 (λ (l : Label). l.0) c.pairs-pairs.result.now c.loop-label.label-index (omega arith) c.loop-label.invariant.names)

pub returns-clause-values : goal.returns-clause-values
returns-clause-values c =
    subst (λ (l : List Label). All IsUtf8 (values_of l)) c.pairs-pairs.ensures.value
    (seen_all IsUtf8 (λ (l : Label). l.1) c.pairs-pairs.result.now c.loop-label.label-index (omega arith) c.loop-label.invariant.values)
