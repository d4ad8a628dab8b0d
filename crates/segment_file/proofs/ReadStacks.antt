-- Stacks and their values, read one behind another.
use Rattle.std.proofs.Common.{◌≡◌, ◌&&◌, ℕ, suc, zero, ◌+◌, ◌<◌, ◌^◌, Bool, true, false, List, [], ◌∷◌, ◌++◌, length, Option, Some, Result, Ok, Err, cond, refl, subst, sym, ap, ◌∙◌, arith}
use Rattle.std.specs.Prelude.{MatchResult, nat_eq, nat_le, nat_lt, unwrap_or}
use Rattle.std.specs.BTreeMap.{insert_entry}
use Rattle.std.specs.List.{All}
use Rattle.std.specs.Str.{is_utf8}
use Rattle.std.proofs.lemmas.Bool.{and_parts, leb-true, ltb-true}
use Rattle.std.proofs.lemmas.Bool.Decides.{nat_tests}
use Rattle.std.proofs.lemmas.List.{append_assoc, length-append}
use Rattle.std.proofs.lemmas.List.Elements.{All-cons, All-nil}
use Rattle.faults.specs.Answers.{IfFault}
use Rattle.faults.specs.declared.refused.Refused.{Refused}
use Rattle.faults.specs.declared.refused.Refused.TheVariants.{Fault}
use Rattle.profile_model.specs.StackOrder.{stacks_total}
use Rattle.profile_model.specs.Stacks.{IsFrame, stack_cmp}
use Rattle.profile_model.specs.Sums.{Sample, total_of, value_of, with_added}
use Rattle.segment_file.specs.declared.fault.ObjectFault.{ObjectFault}
use Rattle.segment_file.specs.declared.fault.ObjectRule.TheVariants.{Content}
use Rattle.segment_file.specs.Fields.{AreSound, Field, Fit, each_of, text_of, unless}
use Rattle.segment_file.specs.Files.{frame_fields, is_frame, sample_fields, stack_fields, value_field}
use Rattle.segment_file.specs.ReadFields.{AreRead, IsRead, alone, any_count, count_field, few_frames, inner_frame_fields, is_above_stacks, is_last_frame, judged, list_fields}
use Rattle.segment_file.specs.Reading.{Begins, BeginsCounted, CursorView, IsContentAt, IsCut, IsWhole, Stopped, Took, is_kept, numbers, texts}
use Rattle.segment_file.proofs.ReadAnswers.{weaker}
use Rattle.segment_file.proofs.ReadLemmas.{count_cut, count_right, cut_field, number_field, sound_number, wrong_field, fillers, fit_append, length-fillers, sound_text, stopped_behind, stopped_count, stopped_item, stopped_list, stopped_within, text_read, took_both, took_list, took_nothing}
use Rattle.segment_file.proofs.ReadOrder.{new_above, put_last}

-- ---- frames

-- a stack's frames, the last of which shows its order
frames_of : (ordered : Bool) (before frames : List (List ℕ)) (last : List ℕ)
    → frame_fields ordered (frames ++ last ∷ []) ≡ each_of inner_frame_fields before frames ++ text_of last (is_frame last && ordered) ∷ []
frames_of ordered before [] last = refl
frames_of ordered before (frame ∷ []) last = refl
frames_of ordered before (frame ∷ next ∷ deeper) last =
    ap (λ (l : List Field). judged is_frame frame ∷ l) (frames_of ordered (before ++ frame ∷ []) (next ∷ deeper) last)

-- the fields of a stack of so many frames
stack_as : (before : List Sample) (count : ℕ) (frames : List (List ℕ)) (last : List ℕ) → length frames + 1 ≡ count
    → stack_fields before (frames ++ last ∷ []) ≡ alone (count_field few_frames) count ++ (each_of inner_frame_fields [] frames ++ alone (judged (is_last_frame before frames)) last)
stack_as before count frames last long =
    ap (λ (n : ℕ). count_field few_frames n ∷ frame_fields (is_above_stacks before (frames ++ last ∷ [])) (frames ++ last ∷ [])) (length-append frames (last ∷ []) ∙ long)
    ∙ ap (λ (l : List Field). count_field few_frames count ∷ l) (frames_of (is_above_stacks before (frames ++ last ∷ [])) [] frames last)

fit_frames : (ordered : Bool) (n : ℕ) → Fit (frame_fields ordered (fillers [] n))
fit_frames ordered zero = refl
fit_frames ordered (suc zero) = refl
fit_frames ordered (suc (suc n)) = fit_frames ordered (suc n)

pub stack_at_count : (before : List Sample) (c : CursorView) (fault : ObjectFault) → Stopped (Begins (alone (count_field few_frames))) c fault
    → Stopped (Begins (stack_fields before)) c fault
stack_at_count before c fault s =
    let frames = λ (n : ℕ). frame_fields (is_above_stacks before (fillers [] n)) (fillers [] n) in
    stopped_within (alone (count_field few_frames)) (stack_fields before) (λ n. fillers [] n) [] frames (λ n. fit_frames (is_above_stacks before (fillers [] n)) n)
    (λ n. ap (λ (m : ℕ). count_field few_frames m ∷ frames n) (length-fillers {A = List ℕ} [] n)) c c fault (took_nothing c) s

begins_inner : (before : List Sample) (count inner : ℕ) → inner + 1 ≡ count → Fit (alone (count_field few_frames) count) → (front : List Field)
    → BeginsCounted inner inner_frame_fields front → Begins (stack_fields before) (alone (count_field few_frames) count ++ front)
begins_inner before count inner more fit front b =
    let last = alone (judged (is_last_frame before b.items)) [] in
    let so = stack_as before count b.items [] (ap (λ (n : ℕ). n + 1) b.counted ∙ more) in record {
      whole = b.items ++ [] ∷ [];
      fit =
          subst Fit (sym so)
          (fit_append (alone (count_field few_frames) count) (each_of inner_frame_fields [] b.items ++ last) fit (fit_append (each_of inner_frame_fields [] b.items) last b.fit refl));
      behind = b.behind ++ last;
      are = so ∙ ap (λ (l : List Field). count_field few_frames count ∷ (l ++ last)) b.are ∙ ap (λ (l : List Field). count_field few_frames count ∷ l) (append_assoc front b.behind last);
    }

pub stack_at_inner : (before : List Sample) (count inner : ℕ) (p q : CursorView) (fault : ObjectFault) → inner + 1 ≡ count → Took (alone (count_field few_frames) count) p q
    → Stopped (BeginsCounted inner inner_frame_fields) q fault → Stopped (Begins (stack_fields before)) p fault
stack_at_inner before count inner p q fault more took s =
    stopped_behind (BeginsCounted inner inner_frame_fields) (Begins (stack_fields before)) (alone (count_field few_frames) count) p q fault took
    (begins_inner before count inner more took.fit) s

empty_frame_fits : (before : List (List ℕ)) → Fit (inner_frame_fields before [])
empty_frame_fits before = refl

pub frames_at : (count : ℕ) (before : List (List ℕ)) (p q : CursorView) (fault : ObjectFault) → length before < count → Took (each_of inner_frame_fields [] before) p q
    → Stopped (Begins (alone (judged is_frame))) q fault → Stopped (BeginsCounted count inner_frame_fields) p fault
frames_at count before p q fault short took s = stopped_item inner_frame_fields [] empty_frame_fits count before short p q fault took s

pub stack_read : (before : List Sample) (count inner : ℕ) (frames : List (List ℕ)) (p q r t : CursorView) (result : Result (List (List ℕ)) (Refused ObjectFault)) → inner + 1 ≡ count
    → Took (alone (count_field few_frames) count) p q → (length frames ≡ inner) × Took (each_of inner_frame_fields [] frames) q r
    → MatchResult result (λ stack. (frame : List ℕ) × (stack ≡ frames ++ frame ∷ []) × Took (alone (judged (is_last_frame before frames)) frame) r t)
    (IfFault (Stopped (Begins (alone (judged (is_last_frame before frames)))) r))
    → IsRead (stack_fields before) (λ stack. stack) p t result
stack_read before count inner frames p q r t (Ok stack) more counted inside read =
    let long = ap (λ (n : ℕ). n + 1) inside.0 ∙ more in
    let last = alone (judged (is_last_frame before frames)) read.0 in
    subst (λ (l : List Field). Took l p t) (sym (ap (stack_fields before) read.1 ∙ stack_as before count frames read.0 long))
    (took_both (alone (count_field few_frames) count) (each_of inner_frame_fields [] frames ++ last) p q t counted (took_both (each_of inner_frame_fields [] frames) last q r t inside.1 read.2))
stack_read before count inner frames p q r t (Err refused) more counted inside read =
    let long = ap (λ (n : ℕ). n + 1) inside.0 ∙ more in
    let first = alone (count_field few_frames) count in
    let between = each_of inner_frame_fields [] frames in
    weaker (Stopped (Begins (alone (judged (is_last_frame before frames)))) r) (Stopped (Begins (stack_fields before)) p) refused
    (λ fault s. stopped_within (alone (judged (is_last_frame before frames))) (stack_fields before) (λ frame. frames ++ frame ∷ []) (first ++ between) (λ frame. []) (λ frame. refl)
    (λ frame. stack_as before count frames frame long ∙ sym (append_assoc first between (alone (judged (is_last_frame before frames)) frame)))
    p r fault (took_both first between p q r counted inside.1) s) read

-- ---- the last frame

last_kept : (frame_kept above utf8 : Bool) → frame_kept && utf8 ≡ true → above ≡ true → (frame_kept && above) && utf8 ≡ true
last_kept true true true kept is = refl
last_kept true true false kept is = absurd cc
last_kept true false utf8 kept is = absurd cc
last_kept false above utf8 kept is = absurd cc

last_broken : (frame_kept above utf8 : Bool) → frame_kept && utf8 ≡ false → (frame_kept && above) && utf8 ≡ false
last_broken true true utf8 broken = broken
last_broken true false utf8 broken = refl
last_broken false above utf8 broken = refl

last_low : (frame_kept above utf8 : Bool) → above ≡ false → (frame_kept && above) && utf8 ≡ false
last_low true true utf8 low = absurd cc
last_low true false utf8 low = refl
last_low false above utf8 low = refl

-- ---- what frames that were taken keep

pub frame_from : (frame : List ℕ) → is_frame frame ≡ true → IsFrame frame
frame_from frame is =
    let both = and_parts (nat_lt 0 (length frame)) (nat_le (length frame) 65535) is in
    (ltb-true 0 (length frame) both.0, leb-true (length frame) 65535 both.1)

pub are_frames : (before frames : List (List ℕ)) → AreSound (each_of inner_frame_fields before frames) → All IsFrame frames
are_frames before [] sound = All-nil IsFrame
are_frames before (frame ∷ frames) sound =
    let first = sound_text is_frame frame (each_of inner_frame_fields (before ++ frame ∷ []) frames) sound in
    All-cons IsFrame frame frames (frame_from frame first.0) (are_frames (before ++ frame ∷ []) frames first.2)

-- a text that breaks no rule of a frame, judged with the order of its stack
pub last_read : (before : List Sample) (frames : List (List ℕ)) (p q : CursorView) (text name : List ℕ) → IsWhole texts p q text → (is_kept (is_frame text) text ≡ true) × (name ≡ text)
    → is_above_stacks before (frames ++ name ∷ []) ≡ true → Took (alone (judged (is_last_frame before frames)) name) p q
last_read before frames p q text name whole kept above =
    let high = ap (λ (t : List ℕ). is_above_stacks before (frames ++ t ∷ [])) (sym kept.1) ∙ above in
    text_read (is_last_frame before frames) p q text (Ok name) whole (last_kept (is_frame text) (is_above_stacks before (frames ++ text ∷ [])) (is_utf8 text) kept.0 high, kept.1)

pub last_wrong : (before : List Sample) (frames : List (List ℕ)) (p q : CursorView) (text : List ℕ) (fault : ObjectFault) → IsWhole texts p q text
    → IsContentAt (is_kept (is_frame text) text) p.at fault → Stopped (Begins (alone (judged (is_last_frame before frames)))) p fault
last_wrong before frames p q text fault whole content =
    text_read (is_last_frame before frames) p q text (Err (Fault fault)) whole
    (record { broken = last_broken (is_frame text) (is_above_stacks before (frames ++ text ∷ [])) (is_utf8 text) content.broken; rule = content.rule; place = content.place })

pub last_too_low : (before : List Sample) (frames : List (List ℕ)) (p q : CursorView) (text name : List ℕ) (fault : ObjectFault) → IsWhole texts p q text → name ≡ text
    → is_above_stacks before (frames ++ name ∷ []) ≡ false → fault.rule ≡ Content → fault.at ≡ p.at → Stopped (Begins (alone (judged (is_last_frame before frames)))) p fault
last_too_low before frames p q text name fault whole is low rule place =
    let under = ap (λ (t : List ℕ). is_above_stacks before (frames ++ t ∷ [])) (sym is) ∙ low in
    text_read (is_last_frame before frames) p q text (Err (Fault fault)) whole
    (record { broken = last_low (is_frame text) (is_above_stacks before (frames ++ text ∷ [])) (is_utf8 text) under; rule = rule; place = place })

-- ---- values

abbrev is_next : List Sample → ℕ → Bool
is_next before n = nat_lt 0 n && nat_lt (total_of before + n) (2 ^ 63)

pub value_cut : (before : List Sample) (c : CursorView) (fault : ObjectFault) → IsCut (numbers 8) c fault → Stopped (Begins (alone (value_field before))) c fault
value_cut before c fault cut = cut_field (numbers 8) (value_field before) c fault (number_field 8 (λ n. unless (is_next before n) Content)) cut

pub value_wrong : (before : List Sample) (p q : CursorView) (n : ℕ) (fault : ObjectFault) → IsWhole (numbers 8) p q n → is_next before n ≡ false
    → fault.rule ≡ Content → fault.at ≡ p.at → Stopped (Begins (alone (value_field before))) p fault
value_wrong before p q n fault whole broken rule place =
    wrong_field (numbers 8) (value_field before) p q n fault (number_field 8 (λ m. unless (is_next before m) Content)) whole
    (ap (λ (b : Bool). unless b Content) broken ∙ ap Some (sym rule)) place

-- ---- samples

pub sample_at_stack : (before : List Sample) (c : CursorView) (fault : ObjectFault) → Stopped (Begins (stack_fields before)) c fault → Stopped (Begins (sample_fields before)) c fault
sample_at_stack before c fault s =
    stopped_within (stack_fields before) (sample_fields before) (λ stack. (stack, 0)) [] (λ stack. alone (value_field before) 0) (λ stack. refl) (λ stack. refl) c c fault (took_nothing c) s

pub sample_at_value : (before : List Sample) (stack : List (List ℕ)) (p q : CursorView) (fault : ObjectFault) → Took (stack_fields before stack) p q
    → Stopped (Begins (alone (value_field before))) q fault → Stopped (Begins (sample_fields before)) p fault
sample_at_value before stack p q fault took s =
    stopped_within (alone (value_field before)) (sample_fields before) (λ value. (stack, value)) (stack_fields before stack) (λ value. []) (λ value. refl) (λ value. refl) p q fault took s

added_last : (before : List Sample) (stack : List (List ℕ)) (value : ℕ) → 0 < value → is_above_stacks before stack ≡ true
    → with_added before stack value ≡ before ++ (stack, value) ∷ []
added_last before stack value some above =
    let nonzero : nat_eq value 0 ≡ false = grind (arith, nat_tests) in
    let held : value_of before stack ≡ 0 = ap (λ (o : Option ℕ). unwrap_or o 0) (new_above stacks_total before stack above) in
    let sum : value_of before stack + value ≡ value = omega (arith, held) in
    ap (λ (b : Bool). cond b before (insert_entry stack_cmp before stack (value_of before stack + value))) nonzero
    ∙ ap (λ (n : ℕ). insert_entry stack_cmp before stack n) sum ∙ put_last stacks_total before stack value above

pub sample_taken : (before after : List Sample) (stack : List (List ℕ)) (value : ℕ) (p q r : CursorView) → after ≡ with_added before stack value
    → is_above_stacks before stack ≡ true → Took (stack_fields before stack) p q → Took (alone (value_field before) value) q r
    → (sample : Sample) × (after ≡ before ++ sample ∷ []) × Took (sample_fields before sample) p r
sample_taken before after stack value p q r is above first next =
    let some = and_parts (nat_lt 0 value) (nat_lt (total_of before + value) (2 ^ 63)) (sound_number 8 value (is_next before value) [] next.sound).0 in (
      (stack, value),
      is ∙ added_last before stack value (ltb-true 0 value some.0) above,
      took_both (stack_fields before stack) (alone (value_field before) value) p q r first next,
    )

empty_sample_fits : (before : List Sample) → Fit (sample_fields before ([], 0))
empty_sample_fits before = refl

pub samples_at : (count : ℕ) (before : List Sample) (p q : CursorView) (fault : ObjectFault) → length before < count → Took (each_of sample_fields [] before) p q
    → Stopped (Begins (sample_fields before)) q fault → Stopped (BeginsCounted count sample_fields) p fault
samples_at count before p q fault short took s = stopped_item sample_fields ([], 0) empty_sample_fits count before short p q fault took s

pub samples_at_count : (c : CursorView) (fault : ObjectFault) → IsCut (numbers 4) c fault → Stopped (Begins (list_fields any_count sample_fields)) c fault
samples_at_count c fault cut = stopped_count any_count sample_fields ([], 0) empty_sample_fits c fault (count_cut any_count c fault cut)

pub samples_read : (count : ℕ) (p q r : CursorView) (result : Result (List Sample) (Refused ObjectFault)) → IsWhole (numbers 4) p q count
    → AreRead count sample_fields (λ sums. sums) q r result → IsRead (list_fields any_count sample_fields) (λ sums. sums) p r result
samples_read count p q r (Ok sums) whole read =
    took_list any_count sample_fields sums p q r (subst (λ (n : ℕ). Took (alone (count_field any_count) n) p q) (sym read.0) (count_right any_count p q count whole refl)) read.1
samples_read count p q r (Err refused) whole read =
    weaker (Stopped (BeginsCounted count sample_fields) q) (Stopped (Begins (list_fields any_count sample_fields)) p) refused
    (λ fault s. stopped_list any_count sample_fields count p q fault (count_right any_count p q count whole refl) s) read
