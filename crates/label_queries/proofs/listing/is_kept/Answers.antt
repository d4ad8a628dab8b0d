use Rattle.std.proofs.Common.{sym, true≢false, ◌∙◌}
use Rattle.std.specs.List.{list_any}
use Rattle.std.specs.Ordering.{is_eq}
use Rattle.profile_model.specs.Stacks.{name_cmp}
use Rattle.label_queries.proofs.ListingLemmas.{kept_among}
use Rattle.label_queries.proofs.listing.is_kept.Goals as goal

pub returns-else-is_empty : goal.returns-else-is_empty
returns-else-is_empty c =
    let names = c.args.names.now.keys in
    c.contains.ensures ∙ (λ i. list_any (λ other. is_eq (name_cmp (c.as_str.ensures i) other.now)) names)
    ∙ kept_among c.args.name.now names (λ none. true≢false (sym (c.is_empty.ensures.1 none) ∙ c.if-is_empty.false))
