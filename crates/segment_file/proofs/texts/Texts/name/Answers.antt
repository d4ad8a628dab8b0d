use Rattle.std.proofs.Common.{rules, ◌∙◌, ap, sym}
use Rattle.std.specs.Option.{option_copied}
use Rattle.std.proofs.lemmas.Result.{MatchResult-weaker}
use Rattle.segment_file.proofs.ReadTexts.{lookup-AreSame, inserted}
use Rattle.segment_file.proofs.texts.Texts.name.Goals as goal

pub returns-in-Some : goal.returns-in-Some
returns-in-Some c =
    let same = lookup-AreSame c.args.text.now c.args.self.now.names.entries c.in-Some.name.now c.args.self.now.same (sym c.get.ensures.value ∙ ap option_copied c.in-Some.is) in
    MatchResult-weaker c.clone.result c.clone.ensures.cases (λ copy is. is ∙ same) (λ _ _. tt)

pub invariant_of-self : goal.invariant_of-self
invariant_of-self c = record {
  same =
      inserted c.insert.result c.args.text c.in_ok-kept.kept c.args.self.now.names.entries c.insert.new.self.entries (search rules) c.args.self.now.same c.insert.ensures.entries c.insert.ensures.err;
}
