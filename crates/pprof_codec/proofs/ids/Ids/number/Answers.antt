use Rattle.std.proofs.Common.{◌≡◌, ◌-◌, true, false, Some, ap, sym, ◌∙◌}
use Rattle.std.specs.Prelude.{if◌then◌else◌}
use Rattle.std.specs.Map.{lookup}
use Rattle.std.specs.BTreeMap.{is_at}
use Rattle.std.specs.Ordering.{nat_cmp}
use Rattle.pprof_codec.specs.Tables.{is_in_place, number_of}
use Rattle.pprof_codec.proofs.ids.Ids.number.Goals as goal

pub returns-then-is_in_place : goal.returns-then-is_in_place
returns-then-is_in_place c =
    let place : is_in_place c.self.inside.ids.items c.args.id ≡ true =
    ap (λ ids. is_in_place ids c.args.id) (sym c.deref.ensures.value) ∙ sym c.is_in_place.ensures ∙ c.if-is_in_place.true in
    ap (λ b. if b then Some (c.args.id - 1) else lookup (is_at (nat_cmp c.args.id)) c.self.inside.others.entries) (sym place)
    ∙ c.self.invariant c.args.id ∙ ap (λ ids. number_of ids c.args.id) c.self.view_is

pub returns : goal.returns
returns c =
    let place : is_in_place c.self.inside.ids.items c.args.id ≡ false =
    ap (λ ids. is_in_place ids c.args.id) (sym c.deref.ensures.value) ∙ sym c.is_in_place.ensures ∙ c.if-is_in_place.false in
    c.copied.ensures ∙ c.get.ensures.value
    ∙ ap (λ b. if b then Some (c.args.id - 1) else lookup (is_at (nat_cmp c.args.id)) c.self.inside.others.entries) (sym place)
    ∙ c.self.invariant c.args.id ∙ ap (λ ids. number_of ids c.args.id) c.self.view_is
