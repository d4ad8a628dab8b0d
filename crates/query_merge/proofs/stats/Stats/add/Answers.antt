use Rattle.std.proofs.Common.{◌≡◌, ◌∙◌, ◌++◌, List, Some, ap, arith, get_or, length, subst, sym, take}
use Rattle.std.proofs.lemmas.List.{take_all}
use Rattle.profile_model.specs.declared.profile.Profile.{Profile}
use Rattle.segment_file.specs.Parts.{PartView}
use Rattle.segment_file.specs.declared.part.Row.{Row}
use Rattle.query_merge.specs.Rows.{profiles_of}
use Rattle.query_merge.specs.Spans.{IsSpanOf}
use Rattle.query_merge.proofs.SpanLemmas.{row_more}
use Rattle.query_merge.proofs.stats.Stats.add.Goals as goal

pub loop-row-preserved : goal.loop-row-preserved
loop-row-preserved c = λ profiles ends.
    let rows = c.args.part.now.rows in
    let same : c.deref-row-items.result.now ≡ rows = c.deref-row-items.ensures.value ∙ ap (λ (part : PartView). part.rows) c.part.view_is in
    let long = ap length same in
    let is : c.row-item.result ≡ get_or rows c.loop-row.row-index c.row-item.result =
    c.row-item.is ∙ ap (λ (rs : List Row). get_or rs c.loop-row.row-index c.row-item.result) same in
    subst (λ (ps : List Profile). IsSpanOf ps (Some c.widened.result)) (sym (row_more profiles rows c.loop-row.row-index c.row-item.result (omega arith) is))
    (c.widened.ensures _ (c.loop-row.invariant profiles ends))

pub returns : goal.returns
returns c =
    let rows = c.args.part.now.rows in
    let same : c.deref-row-items.result.now ≡ rows = c.deref-row-items.ensures.value ∙ ap (λ (part : PartView). part.rows) c.part.view_is in
    let long = ap length same in
    let all : take c.loop-row.row-index rows ≡ rows = take_all c.loop-row.row-index rows (omega arith) in
    record { more = λ profiles ends. subst (λ (rs : List Row). IsSpanOf (profiles ++ profiles_of rs) c.loop-row.span) all (c.loop-row.invariant profiles ends) }
