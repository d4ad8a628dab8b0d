use Rattle.std.proofs.Common.{◌++◌, List, take}
use Rattle.profile_model.specs.declared.profile.Profile.{Profile}
use Rattle.query_merge.specs.Rows.{profiles_of}
use Rattle.query_merge.specs.Spans.{IsSpanOf}
use Rattle.query_merge.proofs.stats.Stats.add.Given as goal

abbrev pub invariant-loop-row : goal.invariant-loop-row
invariant-loop-row l =
    (profiles : List Profile) → IsSpanOf profiles l.fn.self → IsSpanOf (profiles ++ profiles_of (take l.row-index l.part.rows)) l.span
