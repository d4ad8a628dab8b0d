use Rattle.std.proofs.Common.{◌≡◌, ◌-◌, ◌<◌, List, get_or, length, subst, ap, ◌∙◌, arith}
use Rattle.std.specs.Cmp.Lexicographic.{nat_list_cmp_total}
use Rattle.std.specs.Ordering.{is_lt}
use Rattle.profile_model.specs.LabelSets.{Label}
use Rattle.profile_model.specs.Stacks.{name_cmp}
use Rattle.segment_file.proofs.ReadOrder.{above_by_last}
use Rattle.segment_file.proofs.reader_labels.is_above.Goals as goal

pub returns-in-len1-up : goal.returns-in-len1-up
returns-in-len1-up c =
    let last = c.last-item.result in
    let name = c.args.name.now in
    c.is_lt.ensures ∙ ap is_lt c.cmp.ensures ∙ ap (λ key. is_lt (name_cmp key name)) c.as_bytes.ensures.value
    ∙ above_by_last nat_list_cmp_total c.args.labels.now last name c.pairs.ensures.labels
    (subst (λ (l : List Label). 0 < length l) c.pairs.ensures.value (omega arith))
    (subst (λ (l : List Label). last ≡ get_or l (length l - 1) last) c.pairs.ensures.value c.last-item.is)
