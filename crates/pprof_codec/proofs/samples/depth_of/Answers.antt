use Rattle.std.proofs.Common.{◌≡◌, ℕ, Bool, ◌&&◌, false, length, get_or, [], Some, sym, ap, ap₂, ◌∙◌, arith}
use Rattle.std.specs.Prelude.{is_some, unwrap_or}
use Rattle.std.specs.Option.{option_copied}
use Rattle.std.proofs.lemmas.List.Folds.{list_all_at, list_all_more}
use Rattle.pprof_codec.specs.Frames.{frames_at}
use Rattle.pprof_codec.specs.Tables.{found_in}
use Rattle.pprof_codec.proofs.DepthLemmas.{length-flat_map-more}
use Rattle.pprof_codec.proofs.TableLemmas.{frames-found}
use Rattle.pprof_codec.proofs.samples.depth_of.Goals as goal

pub returns-in_err-frames-clause-known : goal.returns-in_err-frames-clause-known
returns-in_err-frames-clause-known c =
    let ids = c.args.ids.now in
    let has : ℕ → Bool = λ id. is_some (found_in c.args.locations.now.ids c.args.locations.now.frames.items id) in
    let none : has (get_or ids c.loop-id.id-index 0) ≡ false = ap is_some (sym c.frames.ensures ∙ ap option_copied c.in_err-frames.was) in
    ap is_some c.from_residual.ensures ∙ sym (list_all_at has ids c.loop-id.id-index 0 (omega arith) none)

pub loop-id-preserved : goal.loop-id-preserved
loop-id-preserved c =
    let ids = c.args.ids.now in
    let id = get_or ids c.loop-id.id-index 0 in
    let has : ℕ → Bool = λ id. is_some (found_in c.args.locations.now.ids c.args.locations.now.frames.items id) in
    let found : found_in c.args.locations.now.ids c.args.locations.now.frames.items id ≡ Some c.in_ok-frames.frames.now =
    sym c.frames.ensures ∙ ap option_copied c.in_ok-frames.was in (
      list_all_more has ids c.loop-id.id-index 0 (omega arith) ∙ ap₂ (λ a b. a && b) c.loop-id.invariant.0 (ap is_some found),
      λ pprof are.
          let before = c.loop-id.invariant.1 pprof are in
          let more = length-flat_map-more (frames_at pprof) ids c.loop-id.id-index 0 (omega arith) in
          let here : c.len.result ≡ length (frames_at pprof id) =
          c.len.ensures ∙ ap (λ frames. length (unwrap_or frames [])) (sym found)
          ∙ ap length (sym (frames-found pprof c.args.locations.now.ids c.args.locations.now.frames.items id are)) in
          omega (arith, c.saturating_add.ensures, c.min-depth.ensures),
    )
