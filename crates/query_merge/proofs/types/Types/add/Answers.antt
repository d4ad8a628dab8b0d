use Rattle.std.proofs.Common.{◌≡◌, List, ℕ, ap, subst, sym, ◌∙◌, fold}
use Rattle.std.specs.BTreeSet.{insert_key}
use Rattle.std.specs.List.{All}
use Rattle.profile_model.specs.Stacks.{name_cmp}
use Rattle.segment_file.specs.Parts.{PartView}
use Rattle.query_merge.specs.Rows.{profiles_of}
use Rattle.query_merge.specs.TypeLists.{HasFiveParts, type_texts_of}
use Rattle.query_merge.proofs.CloneLemmas.{same_items}
use Rattle.query_merge.proofs.TypeLemmas.{five_in_all, types_more}
use Rattle.query_merge.proofs.types.Types.add.Goals as goal

pub returns-clause-more : goal.returns-clause-more
returns-clause-more c = λ profiles was.
    let texts : c.in_ok-texts.texts.keys ≡ c.args.self.now = same_items _ _ c.in_ok-texts.ensures.cases ∙ c.self.view_is in
    let rows : c.deref.result.now ≡ c.args.part.now.rows = c.deref.ensures.value ∙ ap (λ (part : PartView). part.rows) c.part.view_is in
    types_more c.args.self.now c.add_texts.new.texts.keys profiles (profiles_of c.args.part.now.rows) was
    (c.in_ok-add_texts.ensures ∙ (λ i. fold (insert_key name_cmp) (texts i) (type_texts_of (profiles_of (rows i)))))

pub invariant_of-self : goal.invariant_of-self
invariant_of-self c =
    let texts : c.in_ok-texts.texts.keys ≡ c.self.inside.texts.keys = same_items _ _ c.in_ok-texts.ensures.cases in
    subst (λ (keys : List (List ℕ)). All HasFiveParts keys)
    (sym (c.in_ok-add_texts.ensures ∙ ap (λ (old : List (List ℕ)). fold (insert_key name_cmp) old (type_texts_of (profiles_of c.deref.result.now))) texts))
    (five_in_all c.self.inside.texts.keys (profiles_of c.deref.result.now) c.self.invariant)
