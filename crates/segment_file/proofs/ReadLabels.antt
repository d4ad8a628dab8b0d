-- Labels, read one behind another.
use Rattle.std.proofs.Common.{◌≡◌, ℕ, ◌<◌, Bool, List, [], ◌∷◌, ◌++◌, length, Some, None, Result, Ok, Err, cond, refl, subst, sym, ap, ◌∙◌}
use Rattle.std.specs.Prelude.{nat_eq}
use Rattle.std.specs.Map.{lookup}
use Rattle.std.specs.Cmp.Lexicographic.{nat_list_cmp_total, nat_list_eq_equiv, pointwise}
use Rattle.std.proofs.lemmas.Bool.{and_parts}
use Rattle.faults.specs.declared.refused.Refused.{Refused}
use Rattle.profile_model.specs.LabelSets.{Label, is_label_name, label_of, with_label}
use Rattle.segment_file.specs.declared.fault.ObjectFault.{ObjectFault}
use Rattle.segment_file.specs.Fields.{Fit, each_of}
use Rattle.segment_file.specs.Files.{label_fields, labels_fields}
use Rattle.segment_file.specs.ReadFields.{AreRead, IsRead, alone, count_field, few_labels, is_above_labels, is_label_value, is_next_name, judged}
use Rattle.segment_file.specs.Reading.{Begins, BeginsCounted, CursorView, Stopped, Took}
use Rattle.segment_file.proofs.ReadAnswers.{weaker}
use Rattle.segment_file.proofs.ReadLemmas.{judge_kept, stopped_count, stopped_item, stopped_list, stopped_within, took_both, took_list, took_nothing}
use Rattle.segment_file.proofs.ReadOrder.{put_last}

pub none_named : (labels : List Label) → ((name : List ℕ) → label_of labels name ≡ None) → labels ≡ []
none_named [] exact = refl
none_named (label ∷ labels) exact =
    let here : label_of (label ∷ labels) label.0 ≡ Some label.1 = ap (λ (b : Bool). cond b (Some label.1) (lookup (pointwise nat_eq label.0) labels)) (nat_list_eq_equiv.refl label.0) in
    let none : None ≡ Some label.1 = sym (exact label.0) ∙ here in
    absurd cc

-- ---- one label

pub label_at_name : (before : List Label) (c : CursorView) (fault : ObjectFault) → Stopped (Begins (alone (judged (is_next_name before)))) c fault
    → Stopped (Begins (label_fields before)) c fault
label_at_name before c fault s =
    let value = judged is_label_value [] ∷ [] in
    stopped_within (alone (judged (is_next_name before))) (label_fields before) (λ name. (name, [])) [] (λ name. value) (λ name. refl) (λ name. refl) c c fault (took_nothing c) s

pub label_at_value : (before : List Label) (name : List ℕ) (p q : CursorView) (fault : ObjectFault) → Took (alone (judged (is_next_name before)) name) p q
    → Stopped (Begins (alone (judged is_label_value))) q fault → Stopped (Begins (label_fields before)) p fault
label_at_value before name p q fault took s =
    stopped_within (alone (judged is_label_value)) (label_fields before) (λ value. (name, value)) (alone (judged (is_next_name before)) name) (λ value. []) (λ value. refl) (λ value. refl) p q fault took s

pub label_taken : (before after : List Label) (name value : List ℕ) (p q r : CursorView) → after ≡ with_label before name value
    → Took (alone (judged (is_next_name before)) name) p q → Took (alone (judged is_label_value) value) q r
    → (label : Label) × (after ≡ before ++ label ∷ []) × Took (label_fields before label) p r
label_taken before after name value p q r is first next =
    let above = (and_parts (is_label_name name) (is_above_labels before name) (judge_kept (is_next_name before) name p q first).0).1 in (
      (name, value),
      is ∙ put_last nat_list_cmp_total before name value above,
      took_both (alone (judged (is_next_name before)) name) (alone (judged is_label_value) value) p q r first next,
    )

empty_label_fits : (before : List Label) → Fit (label_fields before ([], []))
empty_label_fits before = refl

-- inside a label
pub labels_at : (count : ℕ) (before : List Label) (p q : CursorView) (fault : ObjectFault) → length before < count → Took (each_of label_fields [] before) p q
    → Stopped (Begins (label_fields before)) q fault → Stopped (BeginsCounted count label_fields) p fault
labels_at count before p q fault short took s = stopped_item label_fields ([], []) empty_label_fits count before short p q fault took s

pub labels_at_count : (c : CursorView) (fault : ObjectFault) → Stopped (Begins (alone (count_field few_labels))) c fault → Stopped (Begins labels_fields) c fault
labels_at_count c fault s = stopped_count few_labels label_fields ([], []) empty_label_fits c fault s

pub labels_read : (count : ℕ) (p q r : CursorView) (result : Result (List Label) (Refused ObjectFault)) → Took (alone (count_field few_labels) count) p q
    → AreRead count label_fields (λ labels. labels) q r result → IsRead labels_fields (λ labels. labels) p r result
labels_read count p q r (Ok labels) took read =
    took_list few_labels label_fields labels p q r (subst (λ (n : ℕ). Took (alone (count_field few_labels) n) p q) (sym read.0) took) read.1
labels_read count p q r (Err refused) took read =
    weaker (Stopped (BeginsCounted count label_fields) q) (Stopped (Begins labels_fields) p) refused (λ fault s. stopped_list few_labels label_fields count p q fault took s) read
