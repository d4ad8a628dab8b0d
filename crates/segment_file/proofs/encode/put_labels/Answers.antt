use Rattle.std.proofs.Common.{List, subst, arith}
use Rattle.std.specs.List.{All}
use Rattle.std.specs.Map.{keys_of, values_of}
use Rattle.std.specs.Str.{IsUtf8}
use Rattle.profile_model.specs.LabelSets.{Label}
use Rattle.segment_file.specs.Bytes.{label_bytes}
use Rattle.segment_file.proofs.EncodeLemmas.{seen_all, seen_next, written_next}
use Rattle.segment_file.proofs.encode.put_labels.Goals as goal

pub loop-label-preserved : goal.loop-label-preserved
loop-label-preserved c =
    let at = c.loop-label.label-index in
    let pairs = c.pairs-pairs.result.now in
    let label = c.label-item.result in
    record {
      bytes = written_next label_bytes pairs at label c.loop-label.out.items c.put_label.new.out.items _ (omega arith) c.label-item.is c.loop-label.invariant.bytes c.in_ok-put_label.ensures.bytes;
      names = seen_next IsUtf8 (λ (l : Label). l.0) pairs at label (omega arith) c.label-item.is c.in_ok-put_label.ensures.name c.loop-label.invariant.names;
      values = seen_next IsUtf8 (λ (l : Label). l.1) pairs at label (omega arith) c.label-item.is c.in_ok-put_label.ensures.value c.loop-label.invariant.values;
    }

pub returns-clause-names : goal.returns-clause-names
returns-clause-names c =
    subst (λ (l : List Label). All IsUtf8 (keys_of l)) c.pairs-pairs.ensures.value
    (seen_all IsUtf8 (λ (l : Label). l.0) c.pairs-pairs.result.now c.loop-label.label-index (omega arith) c.loop-label.invariant.names)

pub returns-clause-values : goal.returns-clause-values
returns-clause-values c =
    subst (λ (l : List Label). All IsUtf8 (values_of l)) c.pairs-pairs.ensures.value
    (seen_all IsUtf8 (λ (l : Label). l.1) c.pairs-pairs.result.now c.loop-label.label-index (omega arith) c.loop-label.invariant.values)
