use Rattle.std.proofs.Common.{[], ◌∷◌, subst, sym}
use Rattle.flamebearer.specs.Pictures.{IsPicture}
use Rattle.flamebearer.proofs.drawing.single.Goals as goal

pub returns : goal.returns
returns c = record {
  picture = subst (IsPicture (c.args.tree.now ∷ []) c.args.most) (sym c.names.view_is)
      (subst (λ nodes. IsPicture (nodes ∷ []) c.args.most c.in_ok-names.field-0) c.parts.ensures.nodes c.in_ok-names.ensures);
  ticks = c.total.ensures.total;
}
