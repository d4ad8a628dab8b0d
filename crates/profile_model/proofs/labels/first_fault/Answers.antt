use Rattle.std.proofs.Common.{◌≡◌, ◌∙◌, ap, arith, false, length, sym, take, true}
use Rattle.profile_model.specs.LabelSets.{Label, has_label, is_label_name}
use Rattle.profile_model.proofs.LabelLemmas.{AreSound-none, AreSound-more, AreSound-all, first_fault}
use Rattle.profile_model.proofs.SeenLemmas.{knows_next}
use Rattle.profile_model.proofs.labels.first_fault.Goals as goal

pub returns-then-not-is_label_name : goal.returns-then-not-is_label_name
returns-then-not-is_label_name c =
    first_fault c.args.pairs.now c.loop-at.at c.index-pairs-at.result (λ (pair : Label). is_label_name pair.0 ≡ false) (omega arith) c.index-pairs-at.is c.loop-at.invariant.sound
    (ap is_label_name (sym c.as_bytes-name.ensures.value) ∙ sym c.is_label_name.ensures ∙ c.if-not-is_label_name.true)

pub returns-then-len-gt-MAX_VALUE_BYTES : goal.returns-then-len-gt-MAX_VALUE_BYTES
returns-then-len-gt-MAX_VALUE_BYTES c =
    let named : is_label_name c.index-pairs-at.result.0 ≡ true = ap is_label_name (sym c.as_bytes-name.ensures.value) ∙ sym c.is_label_name.ensures ∙ c.if-not-is_label_name.false in
    let size : c.len.result ≡ length c.index-pairs-at.result.1 = c.len.ensures in
    first_fault c.args.pairs.now c.loop-at.at c.index-pairs-at.result _ (omega arith) c.index-pairs-at.is c.loop-at.invariant.sound (named, omega arith)

pub returns-then-repeats : goal.returns-then-repeats
returns-then-repeats c =
    let named : is_label_name c.index-pairs-at.result.0 ≡ true = ap is_label_name (sym c.as_bytes-name.ensures.value) ∙ sym c.is_label_name.ensures ∙ c.if-not-is_label_name.false in
    let size : c.len.result ≡ length c.index-pairs-at.result.1 = c.len.ensures in
    let held : has_label (take c.loop-at.at c.args.pairs.now) c.index-pairs-at.result.0 ≡ true =
    ap (has_label (take c.loop-at.at c.args.pairs.now)) (sym c.as_bytes-name.ensures.value) ∙ sym c.repeats.ensures.repeats ∙ c.if-repeats.true in
    first_fault c.args.pairs.now c.loop-at.at c.index-pairs-at.result _ (omega arith) c.index-pairs-at.is c.loop-at.invariant.sound (named, omega arith, held)

pub loop-at-init : goal.loop-at-init
loop-at-init c = record { sound = AreSound-none c.args.pairs.now; known = c.none-seen.ensures }

pub loop-at-preserved : goal.loop-at-preserved
loop-at-preserved c =
    let named : is_label_name c.index-pairs-at.result.0 ≡ true = ap is_label_name (sym c.as_bytes-name.ensures.value) ∙ sym c.is_label_name.ensures ∙ c.if-not-is_label_name.false in
    let size : c.len.result ≡ length c.index-pairs-at.result.1 = c.len.ensures in
    let new : has_label (take c.loop-at.at c.args.pairs.now) c.index-pairs-at.result.0 ≡ false =
    ap (has_label (take c.loop-at.at c.args.pairs.now)) (sym c.as_bytes-name.ensures.value) ∙ sym c.repeats.ensures.repeats ∙ c.if-repeats.false in
    record {
      sound = AreSound-more c.args.pairs.now c.loop-at.at c.index-pairs-at.result (omega arith) c.loop-at.invariant.sound c.index-pairs-at.is named (omega arith) new;
      known = knows_next c.repeats.new.self c.args.pairs.now c.loop-at.at c.index-pairs-at.result c.as_bytes-name.result.now (omega arith) c.index-pairs-at.is c.as_bytes-name.ensures.value c.repeats.ensures.knows;
    }

pub returns : goal.returns
returns c = AreSound-all c.args.pairs.now c.loop-at.at (omega arith) c.loop-at.invariant.sound
