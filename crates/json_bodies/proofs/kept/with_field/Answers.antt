use Rattle.std.proofs.Common.{◌≡◌, codes, sym, subst, ◌∙◌, arith}
use Rattle.json_bodies.specs.KeptSeries.{IsKeptPush}
use Rattle.json_bodies.proofs.FoundLemmas.{reads_so}
use Rattle.json_bodies.proofs.KeptLemmas.{another_key, end_here, end_stays, label_names_here, label_names_stay, matchers_here, matchers_stay, name_here, name_stays, series_here, series_stay, start_here, start_stays}
use Rattle.json_bodies.proofs.KindLemmas.{reads_any}
use Rattle.json_bodies.proofs.kept.with_field.Goals as goal

pub returns-in_ok-fields : goal.returns-in_ok-fields
returns-in_ok-fields c =
    let here : c.args.key.now ≡ codes "name" = c.if-is_key.ensures in
    reads_so _ _ 126 c.args.reader.now c.read_name.new.reader (λ d is found are.
    record {
      name = name_here c.args.key.now d found here ∙ is;
      matchers = matchers_stay c.args.key.now d found c.args.before are (another_key c.args.key.now (codes "name") (codes "matchers") here (λ e. omega (arith, e)));
      label_names = label_names_stay c.args.key.now d found c.args.before are (another_key c.args.key.now (codes "name") (codes "labelNames") here (λ e. omega (arith, e)));
      start = start_stays c.args.key.now d found c.args.before are (another_key c.args.key.now (codes "name") (codes "start") here (λ e. omega (arith, e)));
      end = end_stays c.args.key.now d found c.args.before are (another_key c.args.key.now (codes "name") (codes "end") here (λ e. omega (arith, e)));
      series = series_stay c.args.key.now d found c.args.before are (another_key c.args.key.now (codes "name") (codes "series") here (λ e. omega (arith, e)));
    }) c.in_ok-fields.ensures

pub returns-in_ok-fields-2 : goal.returns-in_ok-fields-2
returns-in_ok-fields-2 c =
    let here : c.args.key.now ≡ codes "matchers" = c.if-is_key-2.ensures in
    reads_so _ _ 126 c.args.reader.now c.read_texts.new.reader (λ d is found are.
    record {
      name = name_stays c.args.key.now d found c.args.before are (another_key c.args.key.now (codes "matchers") (codes "name") here (λ e. omega (arith, e)));
      matchers = matchers_here c.args.key.now d found here ∙ is;
      label_names = label_names_stay c.args.key.now d found c.args.before are (another_key c.args.key.now (codes "matchers") (codes "labelNames") here (λ e. omega (arith, e)));
      start = start_stays c.args.key.now d found c.args.before are (another_key c.args.key.now (codes "matchers") (codes "start") here (λ e. omega (arith, e)));
      end = end_stays c.args.key.now d found c.args.before are (another_key c.args.key.now (codes "matchers") (codes "end") here (λ e. omega (arith, e)));
      series = series_stay c.args.key.now d found c.args.before are (another_key c.args.key.now (codes "matchers") (codes "series") here (λ e. omega (arith, e)));
    }) c.in_ok-fields-2.ensures

pub returns-in_ok-fields-3 : goal.returns-in_ok-fields-3
returns-in_ok-fields-3 c =
    let here : c.args.key.now ≡ codes "labelNames" = c.if-is_key-3.ensures in
    reads_so _ _ 126 c.args.reader.now c.read_texts-then-is_key-3.new.reader (λ d is found are.
    record {
      name = name_stays c.args.key.now d found c.args.before are (another_key c.args.key.now (codes "labelNames") (codes "name") here (λ e. omega (arith, e)));
      matchers = matchers_stay c.args.key.now d found c.args.before are (another_key c.args.key.now (codes "labelNames") (codes "matchers") here (λ e. omega (arith, e)));
      label_names = label_names_here c.args.key.now d found here ∙ is;
      start = start_stays c.args.key.now d found c.args.before are (another_key c.args.key.now (codes "labelNames") (codes "start") here (λ e. omega (arith, e)));
      end = end_stays c.args.key.now d found c.args.before are (another_key c.args.key.now (codes "labelNames") (codes "end") here (λ e. omega (arith, e)));
      series = series_stay c.args.key.now d found c.args.before are (another_key c.args.key.now (codes "labelNames") (codes "series") here (λ e. omega (arith, e)));
    }) c.in_ok-fields-3.ensures

pub returns-in_ok-fields-4 : goal.returns-in_ok-fields-4
returns-in_ok-fields-4 c =
    let here : c.args.key.now ≡ codes "start" = c.if-is_key-4.ensures in
    reads_so _ _ 126 c.args.reader.now c.read_number.new.reader (λ d is found are.
    record {
      name = name_stays c.args.key.now d found c.args.before are (another_key c.args.key.now (codes "start") (codes "name") here (λ e. omega (arith, e)));
      matchers = matchers_stay c.args.key.now d found c.args.before are (another_key c.args.key.now (codes "start") (codes "matchers") here (λ e. omega (arith, e)));
      label_names = label_names_stay c.args.key.now d found c.args.before are (another_key c.args.key.now (codes "start") (codes "labelNames") here (λ e. omega (arith, e)));
      start = start_here c.args.key.now d found here ∙ is;
      end = end_stays c.args.key.now d found c.args.before are (another_key c.args.key.now (codes "start") (codes "end") here (λ e. omega (arith, e)));
      series = series_stay c.args.key.now d found c.args.before are (another_key c.args.key.now (codes "start") (codes "series") here (λ e. omega (arith, e)));
    }) c.in_ok-fields-4.ensures

pub returns-in_ok-fields-5 : goal.returns-in_ok-fields-5
returns-in_ok-fields-5 c =
    let here : c.args.key.now ≡ codes "end" = c.if-is_key-5.ensures in
    reads_so _ _ 126 c.args.reader.now c.read_number-then-is_key-5.new.reader (λ d is found are.
    record {
      name = name_stays c.args.key.now d found c.args.before are (another_key c.args.key.now (codes "end") (codes "name") here (λ e. omega (arith, e)));
      matchers = matchers_stay c.args.key.now d found c.args.before are (another_key c.args.key.now (codes "end") (codes "matchers") here (λ e. omega (arith, e)));
      label_names = label_names_stay c.args.key.now d found c.args.before are (another_key c.args.key.now (codes "end") (codes "labelNames") here (λ e. omega (arith, e)));
      start = start_stays c.args.key.now d found c.args.before are (another_key c.args.key.now (codes "end") (codes "start") here (λ e. omega (arith, e)));
      end = end_here c.args.key.now d found here ∙ is;
      series = series_stay c.args.key.now d found c.args.before are (another_key c.args.key.now (codes "end") (codes "series") here (λ e. omega (arith, e)));
    }) c.in_ok-fields-5.ensures

pub returns-in_ok-fields-6 : goal.returns-in_ok-fields-6
returns-in_ok-fields-6 c =
    let here : c.args.key.now ≡ codes "series" = c.if-is_key-6.ensures in
    reads_so _ _ 126 c.args.reader.now c.read_all_series.new.reader (λ d is found are.
    record {
      name = name_stays c.args.key.now d found c.args.before are (another_key c.args.key.now (codes "series") (codes "name") here (λ e. omega (arith, e)));
      matchers = matchers_stay c.args.key.now d found c.args.before are (another_key c.args.key.now (codes "series") (codes "matchers") here (λ e. omega (arith, e)));
      label_names = label_names_stay c.args.key.now d found c.args.before are (another_key c.args.key.now (codes "series") (codes "labelNames") here (λ e. omega (arith, e)));
      start = start_stays c.args.key.now d found c.args.before are (another_key c.args.key.now (codes "series") (codes "start") here (λ e. omega (arith, e)));
      end = end_stays c.args.key.now d found c.args.before are (another_key c.args.key.now (codes "series") (codes "end") here (λ e. omega (arith, e)));
      series = subst (λ o. IsKeptPush o c.in_ok-fields-6.field-0) (sym (series_here c.args.key.now d found here)) is;
    }) c.in_ok-fields-6.ensures

pub returns-in_ok-skip : goal.returns-in_ok-skip
returns-in_ok-skip c =
    reads_any _ 126 c.args.reader.now c.skip.new.reader c.in_ok-skip.ensures (λ d found are.
    record {
      name = name_stays c.args.key.now d found c.args.before are c.if-is_key.ensures;
      matchers = matchers_stay c.args.key.now d found c.args.before are c.if-is_key-2.ensures;
      label_names = label_names_stay c.args.key.now d found c.args.before are c.if-is_key-3.ensures;
      start = start_stays c.args.key.now d found c.args.before are c.if-is_key-4.ensures;
      end = end_stays c.args.key.now d found c.args.before are c.if-is_key-5.ensures;
      series = series_stay c.args.key.now d found c.args.before are c.if-is_key-6.ensures;
    })
