use Rattle.std.proofs.Common.{◌++◌, [], sym, ap, ◌∙◌, arith}
use Rattle.std.specs.Prelude.{unwrap_or}
use Rattle.std.proofs.lemmas.List.{append-nil, take_all}
use Rattle.pprof_codec.proofs.TableLemmas.{frames-found}
use Rattle.pprof_codec.proofs.stacks.push_frames.Goals as goal

pub returns-after-loop-frame : goal.returns-after-loop-frame
returns-after-loop-frame c =
    c.loop-frame.invariant
    ∙ ap (λ more. c.args.frames.now.items ++ more)
    (take_all c.loop-frame.frame-index c.as_slice-frame-items.result.now (omega arith) ∙ c.as_slice-frame-items.ensures
    ∙ ap (λ found. unwrap_or found []) c.in-Some.ensures
    ∙ sym (frames-found c.args.judged.now.message c.args.judged.now.locations.ids c.args.judged.now.locations.frames.items c.args.id c.args.judged.now.located))

pub returns-in_default : goal.returns-in_default
returns-in_default c =
    sym (append-nil c.args.frames.now.items)
    ∙ ap (λ more. c.args.frames.now.items ++ more)
    (ap (λ found. unwrap_or found []) c.in_default.ensures
    ∙ sym (frames-found c.args.judged.now.message c.args.judged.now.locations.ids c.args.judged.now.locations.frames.items c.args.id c.args.judged.now.located))
