use Rattle.std.proofs.Common.{◌≡◌, codes, length, ap, sym, ◌∙◌, arith}
use Rattle.std.specs.Option.{option_and_then}
use Rattle.serde_json.specs.Find.{as_str}
use Rattle.json_bodies.proofs.FoundLemmas.{get_here, get_other, reads_so}
use Rattle.json_bodies.proofs.KindLemmas.{reads_any}
use Rattle.json_bodies.proofs.leaves.label_member.Goals as goal

apart : ¬ (codes "name" ≡ codes "value")
apart e = omega (arith, ap length e)

pub returns-in_ok-name : goal.returns-in_ok-name
returns-in_ok-name c =
    let here : c.args.key.now ≡ codes "name" = c.if-is_key.ensures in
    reads_so _ _ c.args.depth c.args.reader.now c.read_text.new.reader (λ d is found texts.
    record {
      name = ap (option_and_then as_str) (get_here c.args.key.now (codes "name") d found here) ∙ is;
      value = ap (option_and_then as_str) (get_other c.args.key.now (codes "value") d found (λ e. apart (sym here ∙ e))) ∙ texts.value;
    }) c.in_ok-name.ensures

pub returns-in_ok-value : goal.returns-in_ok-value
returns-in_ok-value c =
    let here : c.args.key.now ≡ codes "value" = c.if-is_key-2.ensures in
    reads_so _ _ c.args.depth c.args.reader.now c.read_text-then-is_key-2.new.reader (λ d is found texts.
    record {
      name = ap (option_and_then as_str) (get_other c.args.key.now (codes "name") d found (λ e. apart (sym e ∙ here))) ∙ texts.name;
      value = ap (option_and_then as_str) (get_here c.args.key.now (codes "value") d found here) ∙ is;
    }) c.in_ok-value.ensures

pub returns-in_ok-skip : goal.returns-in_ok-skip
returns-in_ok-skip c =
    reads_any _ c.args.depth c.args.reader.now c.skip.new.reader c.in_ok-skip.ensures (λ d found texts.
    record {
      name = ap (option_and_then as_str) (get_other c.args.key.now (codes "name") d found c.if-is_key.ensures) ∙ texts.name;
      value = ap (option_and_then as_str) (get_other c.args.key.now (codes "value") d found c.if-is_key-2.ensures) ∙ texts.value;
    })
