use Rattle.std.proofs.Common.{sym, ap, ◌∙◌}
use Rattle.profile_model.specs.CleanedTexts.{cleaned}
use Rattle.pprof_codec.proofs.PlaceLemmas.{parts-more}
use Rattle.pprof_codec.proofs.parts.add_part.Goals as goal

pub returns : goal.returns
returns c =
    parts-more _ _ c.args.parts.now.entries c.insert.new.self.entries c.in_ok-insert.ensures.updates.0 c.requires
    (c.in_ok-part.ensures.value ∙ ap cleaned (c.as_str.ensures ∙ sym c.in_ok-clone.ensures.cases)) c.in_ok-part.ensures.part
