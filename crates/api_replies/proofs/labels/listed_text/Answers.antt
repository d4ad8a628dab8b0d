use Rattle.std.proofs.Common.{◌≡◌, ◌∙◌, List, sym, ap, map}
use Rattle.std.proofs.lemmas.Result.{IfOk-weaker}
use Rattle.profile_model.specs.LabelSets.{Label}
use Rattle.label_queries.specs.Labels.{series_of}
use Rattle.label_queries.specs.Texts.{series_data}
use Rattle.serde_json.specs.Written.{compact_text}
use Rattle.api_replies.specs.Replies.{asked_sets, listed}
use Rattle.request_meaning.specs.declared.ask.LabelQuery.{LabelQuery}
use Rattle.api_replies.proofs.labels.listed_text.Goals as goal

pub returns : goal.returns
returns c =
    let sets = asked_sets c.args.history.now c.args.ask in
    let names : map (λ text. text.now) c.deref-in-Series-2.result.now ≡ c.in-Series.names.items =
    ap (map (λ text. text.now)) c.deref-in-Series-2.ensures.value ∙ c.in_ok-texts_of-in-Series.ensures ∙ c.deref-in-Series.ensures.value in
    let series : map (λ set. set.items) c.deref-in-Series-3.result.now ≡ series_of c.in-Series.names.items sets =
    ap (map (λ set. set.items)) c.deref-in-Series-3.ensures.value ∙ c.in_ok-series-in-Series.ensures
    ∙ ap (λ names. series_of names c.in_ok-sets.sets.sets) names ∙ ap (series_of c.in-Series.names.items) c.in_ok-sets.ensures in
    let whole = ap (λ (series : List (List Label)). compact_text (series_data series)) series ∙ sym (ap (λ (query : LabelQuery). listed query sets) c.in-Series.is) in
    IfOk-weaker c.series_text.result _ _ (λ text is. is ∙ whole) c.series_text.ensures
