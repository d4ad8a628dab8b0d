use Rattle.std.proofs.Common.{◌≡◌, true, false, refl, sym, ap, ◌∙◌, length}
use Rattle.std.specs.Prelude.{◌==◌, is_some, nat_lt}
use Rattle.std.proofs.lemmas.Bool.{eq-eqb, ne_eqb, lt-ltb, le-ltb}
use Rattle.pprof_codec.specs.Frames.{function_frame}
use Rattle.pprof_codec.specs.Checks.{faults_of_function, has_id, has_names}
use Rattle.pprof_codec.proofs.IdLemmas.{position-is_some}
use Rattle.pprof_codec.proofs.functions.function_fault.Goals as goal

pub returns-then-function-eq0 : goal.returns-then-function-eq0
unfolding faults_of_function
returns-then-function-eq0 c =
    let zero_id : (c.args.function.now.id == 0) ≡ true = eq-eqb _ _ c.if-function-eq0.true in rw zero_id refl

pub returns-then-is_some : goal.returns-then-is_some
unfolding faults_of_function
returns-then-is_some c =
    let zero_id : (c.args.function.now.id == 0) ≡ false = ne_eqb _ _ c.if-function-eq0.false in
    let known : has_id c.args.ids.now c.args.function.now.id ≡ true =
    sym (position-is_some (λ id. id == c.args.function.now.id) c.args.ids.now) ∙ ap is_some (sym c.number.ensures) ∙ sym c.is_some.ensures ∙ c.if-is_some.true in
    rw (zero_id, known) refl

pub returns-then-not-has_names : goal.returns-then-not-has_names
unfolding faults_of_function
returns-then-not-has_names c =
    let zero_id : (c.args.function.now.id == 0) ≡ false = ne_eqb _ _ c.if-function-eq0.false in
    let known : has_id c.args.ids.now c.args.function.now.id ≡ false =
    sym (position-is_some (λ id. id == c.args.function.now.id) c.args.ids.now) ∙ ap is_some (sym c.number.ensures) ∙ sym c.is_some.ensures ∙ c.if-is_some.false in
    let named : has_names c.args.names.now c.args.function.now ≡ false = sym c.has_names.ensures ∙ c.if-not-has_names.true in
    rw (zero_id, known, named) refl

pub returns-then-len-gt-MAX_FRAME_BYTES : goal.returns-then-len-gt-MAX_FRAME_BYTES
unfolding faults_of_function
returns-then-len-gt-MAX_FRAME_BYTES c =
    let zero_id : (c.args.function.now.id == 0) ≡ false = ne_eqb _ _ c.if-function-eq0.false in
    let known : has_id c.args.ids.now c.args.function.now.id ≡ false =
    sym (position-is_some (λ id. id == c.args.function.now.id) c.args.ids.now) ∙ ap is_some (sym c.number.ensures) ∙ sym c.is_some.ensures ∙ c.if-is_some.false in
    let named : has_names c.args.names.now c.args.function.now ≡ true = sym c.has_names.ensures ∙ c.if-not-has_names.false in
    let long : nat_lt 65535 (length (function_frame c.args.names.now c.args.function.now)) ≡ true =
    ap (λ frame. nat_lt 65535 (length frame)) (sym c.requires) ∙ ap (nat_lt 65535) (sym c.len.ensures) ∙ lt-ltb _ _ c.if-len-gt-MAX_FRAME_BYTES.true in
    rw (zero_id, known, named, long) refl

pub returns : goal.returns
unfolding faults_of_function
returns c =
    let zero_id : (c.args.function.now.id == 0) ≡ false = ne_eqb _ _ c.if-function-eq0.false in
    let known : has_id c.args.ids.now c.args.function.now.id ≡ false =
    sym (position-is_some (λ id. id == c.args.function.now.id) c.args.ids.now) ∙ ap is_some (sym c.number.ensures) ∙ sym c.is_some.ensures ∙ c.if-is_some.false in
    let named : has_names c.args.names.now c.args.function.now ≡ true = sym c.has_names.ensures ∙ c.if-not-has_names.false in
    let long : nat_lt 65535 (length (function_frame c.args.names.now c.args.function.now)) ≡ false =
    ap (λ frame. nat_lt 65535 (length frame)) (sym c.requires) ∙ ap (nat_lt 65535) (sym c.len.ensures) ∙ le-ltb _ _ c.if-len-gt-MAX_FRAME_BYTES.false in
    rw (zero_id, known, named, long) refl
