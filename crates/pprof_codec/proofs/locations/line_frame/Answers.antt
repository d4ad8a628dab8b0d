use Rattle.std.proofs.Common.{sym, ap, ◌∙◌}
use Rattle.std.specs.Prelude.{unwrap_or}
use Rattle.std.proofs.lemmas.Bool.{eq-eqb, ne_eqb}
use Rattle.pprof_codec.specs.Frames.{unknown_frame}
use Rattle.pprof_codec.proofs.TableLemmas.{line-zero, line-found}
use Rattle.pprof_codec.proofs.locations.line_frame.Goals as goal

pub returns-then-id-eq0 : goal.returns-then-id-eq0
returns-then-id-eq0 c = λ pprof are. c.requires ∙ sym (line-zero pprof c.args.id (eq-eqb _ _ c.if-id-eq0.true))

pub returns-in-Some : goal.returns-in-Some
returns-in-Some c = λ pprof are.
    ap (λ found. unwrap_or found unknown_frame) c.in-Some.ensures
    ∙ sym (line-found pprof c.args.functions.now.ids c.args.functions.now.frames.items c.args.id are (ne_eqb _ _ c.if-id-eq0.false))

pub returns-in-None : goal.returns-in-None
returns-in-None c = λ pprof are.
    c.requires ∙ ap (λ found. unwrap_or found unknown_frame) c.in-None.ensures
    ∙ sym (line-found pprof c.args.functions.now.ids c.args.functions.now.frames.items c.args.id are (ne_eqb _ _ c.if-id-eq0.false))
