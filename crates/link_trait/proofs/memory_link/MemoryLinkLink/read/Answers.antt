use Rattle.std.proofs.Common.{◌≡◌, ◌+◌, sym, ◌∙◌, ap, refl, arith, drop, slice_range, List, ℕ, length, ◌≤◌, ◌<◌}
use Rattle.std.proofs.lemmas.Grind.{common_steps}
use Rattle.link_trait.specs.Link.{MemoryView}
use Rattle.link_trait.proofs.LinkLemmas.{memory_read}
use Rattle.link_trait.proofs.memory_link.MemoryLinkLink.read.Goals as goal

pub returns-clause-told : goal.returns-clause-told
returns-clause-told c =
    let here : c.args.self.now.told ≡ _ = sym c.begin.ensures.told ∙ ap (λ (v : MemoryView). v.told) (sym c.self.view_is) in
    let fits : c.self.inside.at + c.min-count.result ≤ length c.self.inside.input.items = grind (arith, common_steps) in
    let ends : 0 < length c.args.into.now → c.min-count.result ≡ 0 → length c.self.inside.input.items ≤ c.self.inside.at =
    grind (arith, common_steps) in
    let copied = c.copy_from_slice.ensures.after ∙ ap (λ (xs : List ℕ). slice_range xs c.self.inside.at (c.self.inside.at + c.min-count.result)) c.deref-2.ensures.value in
    record {
      told = λ before is. (
        _,
        refl,
        memory_read before c.self.inside.input.items c.self.inside.at c.min-count.result _ _ _ c.copy_from_slice.new.self (drop c.min-count.result c.args.into.now)
            (let same : c.args.self.now.told ≡ before = cc in sym same ∙ here) copied fits ends,
      );
      silent = λ none. cc;
    }
