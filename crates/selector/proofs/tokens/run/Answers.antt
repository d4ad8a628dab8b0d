use Rattle.std.proofs.Common.{ap, sym, subst, ◌∙◌, not}
use Rattle.std.specs.Prelude.{position}
use Rattle.std.specs.Str.{IsUtf8}
use Rattle.selector.specs.Runs.{is_in}
use Rattle.selector.proofs.RunLemmas.{may_cut, cut_at, end_of, all_of}
use Rattle.selector.proofs.tokens.run.Goals as goal

pub split_at-requires : goal.split_at-requires
split_at-requires c =
    let bytes = c.as_bytes.ensures.value in
    may_cut c.args.class c.args.text.now c.in-Some.at (subst IsUtf8 bytes c.as_bytes.ensures.utf8)
    (end_of (is_in c.args.class) c.args.text.now c.in-Some.at
    (sym c.in-Some.is ∙ c.first_other.ensures ∙ ap (λ text. position (λ b. not (is_in c.args.class b)) text) bytes))

pub returns-in-Some : goal.returns-in-Some
returns-in-Some c =
    let bytes = c.as_bytes.ensures.value in
    rw (c.split_at.ensures.front, c.split_at.ensures.back)
    (cut_at (is_in c.args.class) c.args.text.now c.in-Some.at
    (end_of (is_in c.args.class) c.args.text.now c.in-Some.at
    (sym c.in-Some.is ∙ c.first_other.ensures ∙ ap (λ text. position (λ b. not (is_in c.args.class b)) text) bytes)))

pub returns-in-None : goal.returns-in-None
returns-in-None c =
    let bytes = c.as_bytes.ensures.value in
    all_of (is_in c.args.class) c.args.text.now
    (sym c.in-None.is ∙ c.first_other.ensures ∙ ap (λ text. position (λ b. not (is_in c.args.class b)) text) bytes)
