use Rattle.std.proofs.Common.{◌≡◌, ◌≤◌, ◌<◌, ◌∷◌, [], ◌++◌, ◌∙◌, false, length, take, ap, sym, subst, arith}
use Rattle.pprof_writer.specs.Tables.{is_among, place_of}
use Rattle.pprof_writer.proofs.TextLemmas.{Looked, looked-absent, looked-there, place-new, place-there, with-new, with-old}
use Rattle.pprof_writer.proofs.names.add_text.Goals as goal

looked : (c : goal.Then-at-first) → Looked c.args.texts.now.items c.args.first c.args.text.now
looked c = record { within = c.requires.first; others = c.requires.others }

same : (c : goal.Then-at-first) → c.place_of-at.result ≡ place_of (take c.args.first c.args.texts.now.items) c.args.text.now
same c = c.place_of-at.ensures ∙ ap (λ texts. place_of (take c.args.first texts) c.args.text.now) c.deref.ensures.value

below : (c : goal.Then-at-first) → place_of (take c.args.first c.args.texts.now.items) c.args.text.now < c.args.first
below c = subst (λ n. n < c.args.first) (same c) c.if-at-first.true

pub returns-then-at-first-clause-texts : goal.returns-then-at-first-clause-texts
returns-then-at-first-clause-texts c =
    sym (with-old c.args.texts.now.items c.args.text.now (looked-there c.args.texts.now.items c.args.first c.args.text.now (looked c) (below c)))

pub returns-then-at-first-clause-place : goal.returns-then-at-first-clause-place
returns-then-at-first-clause-place c = same c ∙ place-there c.args.texts.now.items c.args.first c.args.text.now (looked c) (below c)

absent : (c : goal.In_ok-push) → is_among c.args.texts.now.items c.args.text.now ≡ false
absent c =
    let at : c.place_of-at.result ≡ place_of (take c.args.first c.args.texts.now.items) c.args.text.now =
    c.place_of-at.ensures ∙ ap (λ texts. place_of (take c.args.first texts) c.args.text.now) c.deref.ensures.value in
    looked-absent c.args.texts.now.items c.args.first c.args.text.now (record { within = c.requires.first; others = c.requires.others })
    (subst (λ n. c.args.first ≤ n) at (omega arith))

pub returns-clause-texts : goal.returns-clause-texts
returns-clause-texts c =
    c.in_ok-push.ensures.items ∙ ap (λ text. c.args.texts.now.items ++ text ∷ []) c.in_ok-clone.ensures.cases
    ∙ sym (with-new c.args.texts.now.items c.args.text.now (absent c))

pub returns-clause-place : goal.returns-clause-place
returns-clause-place c =
    let number = c.len-at.ensures in
    let count : c.len-at.result ≡ length c.args.texts.now.items = omega (arith, c.args.texts.now.ok.0) in
    count ∙ place-new c.args.texts.now.items c.args.text.now (absent c)
