use Rattle.std.proofs.Common.{◌≡◌, ◌++◌, sym, ap, ◌∙◌, subst, arith}
use Rattle.std.specs.Arc.{arc_slice_items}
use Rattle.std.specs.Prelude.{reverse}
use Rattle.std.specs.List.{flat_map}
use Rattle.std.proofs.lemmas.List.{take_all}
use Rattle.profile_model.specs.Stacks.{IsStack}
use Rattle.pprof_message.specs.Gathered.{sample_in}
use Rattle.pprof_codec.specs.Frames.{frames_at, stack_of}
use Rattle.pprof_codec.proofs.BuildLemmas.{leaf_first, turned-round, no-stack_fault}
use Rattle.pprof_codec.proofs.stacks.build_stack.Goals as goal

pub unreachable-requires : goal.unreachable-requires
unreachable-requires c =
    let message = c.args.judged.now.message in
    let ids = c.args.sample.now.location_ids.now in
    let whole : arc_slice_items c.in_ok-from_vec.field-0 ≡ stack_of message (sample_in c.args.sample.now) =
    c.in_ok-from_vec.ensures ∙ c.turned_round.ensures
    ∙ ap reverse (c.loop-id.invariant ∙ ap (λ some. leaf_first ids ++ flat_map (frames_at message) some) (take_all c.loop-id.id-index ids (omega arith)))
    ∙ turned-round message (sample_in c.args.sample.now) in
    no-stack_fault (arc_slice_items c.in_ok-from_vec.field-0) c.in-Err.field-0 (subst IsStack (sym whole) c.requires) c.in-Err.ensures.read

pub returns : goal.returns
returns c =
    let message = c.args.judged.now.message in
    let ids = c.args.sample.now.location_ids.now in
    let whole : arc_slice_items c.in_ok-from_vec.field-0 ≡ stack_of message (sample_in c.args.sample.now) =
    c.in_ok-from_vec.ensures ∙ c.turned_round.ensures
    ∙ ap reverse (c.loop-id.invariant ∙ ap (λ some. leaf_first ids ++ flat_map (frames_at message) some) (take_all c.loop-id.id-index ids (omega arith)))
    ∙ turned-round message (sample_in c.args.sample.now) in
    c.in-Ok.ensures.read.1 ∙ whole
