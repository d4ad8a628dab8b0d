use Rattle.std.proofs.Common.{ℕ, List, [], ◌++◌, Vec, Global, sym, ap, ◌∙◌, arith}
use Rattle.std.specs.Prelude.{map, option_map, unwrap_or}
use Rattle.std.proofs.lemmas.List.{append-nil, map-append, take_all}
use Rattle.pprof_codec.specs.Tables.{frame_numbered}
use Rattle.pprof_codec.proofs.PlaceLemmas.{numbers-found}
use Rattle.pprof_codec.proofs.numbers.push_numbers.Goals as goal

pub returns-after-loop-number : goal.returns-after-loop-number
returns-after-loop-number c =
    let judged = c.args.judged.now in
    let told = map (frame_numbered judged.message) in
    let view : Vec ℕ Global → List (List ℕ) = λ one. told one.items in
    ap told c.loop-number.invariant
    ∙ map-append (frame_numbered judged.message) c.args.numbers.now.items _
    ∙ ap (λ more. told c.args.numbers.now.items ++ more)
    (ap told (take_all c.loop-number.number-index c.as_slice-number-items.result.now (omega arith) ∙ c.as_slice-number-items.ensures.value)
    ∙ ap (λ found. unwrap_or (option_map view found) []) c.in-Some.ensures
    ∙ numbers-found judged.message judged.locations.ids judged.locations.frames.items judged.locations.numbers.items c.args.id judged.located judged.numbered)

pub returns-in_default : goal.returns-in_default
returns-in_default c =
    let judged = c.args.judged.now in
    let told = map (frame_numbered judged.message) in
    let view : Vec ℕ Global → List (List ℕ) = λ one. told one.items in
    sym (append-nil (told c.args.numbers.now.items))
    ∙ ap (λ more. told c.args.numbers.now.items ++ more)
    (ap (λ found. unwrap_or (option_map view found) []) c.in_default.ensures
    ∙ numbers-found judged.message judged.locations.ids judged.locations.frames.items judged.locations.numbers.items c.args.id judged.located judged.numbered)
