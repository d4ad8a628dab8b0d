use Rattle.std.proofs.Common.{◌≡◌, ◌<◌, length, map, None, Some, sym, ap, subst, ◌∙◌, arith}
use Rattle.json.specs.Json.{after_end_array}
use Rattle.json_bodies.specs.KeptSeries.{kept_of}
use Rattle.json_bodies.specs.Walks.{valued}
use Rattle.json_bodies.proofs.FoundLemmas.{reads_from, reads_so}
use Rattle.json_bodies.proofs.ListLemmas.{stop_so}
use Rattle.json_bodies.proofs.LoopLemmas.{all_items, item_shorter, no_item_follows, no_items_so_far, one_item_more}
use Rattle.json_bodies.proofs.series.each_series.Goals as goal

pub items-init : goal.items-init
items-init c = no_items_so_far _ c.args.depth c.args.reader.now (ap (λ all. Some (map kept_of all)) (sym c.new.ensures.items))

pub returns-in_err-series : goal.returns-in_err-series
returns-in_err-series c =
    let going : (after_end_array c.items.reader ≡ None) × (c.take_end_array.new.self ≡ c.items.reader) = grind arith in
    let none = stop_so _ _ _ (λ e. no_item_follows _ c.args.depth c.args.reader.now c.items.reader c.items.invariant going.0 (ap (valued c.args.depth) (sym going.1) ∙ e)) c.in_err-series.ensures in
    grind (arith, none)

pub items-smaller : goal.items-smaller
items-smaller c =
    let going : (after_end_array c.items.reader ≡ None) × (c.take_end_array.new.self ≡ c.items.reader) = grind arith in
    let less = item_shorter _ c.args.depth c.take_end_array.new.self c.read_series.new.reader c.in_ok-series.ensures in
    subst (λ ts. length c.read_series.new.reader < length ts) going.1 less

pub items-preserved : goal.items-preserved
items-preserved c =
    let going : (after_end_array c.items.reader ≡ None) × (c.take_end_array.new.self ≡ c.items.reader) = grind arith in
    one_item_more _ _ c.args.depth c.args.reader.now c.items.reader c.read_series.new.reader c.items.invariant going.0
    (reads_so _ _ c.args.depth c.items.reader c.read_series.new.reader (λ d here ds are. c.in_ok-all.ensures ds d are here)
    (reads_from _ c.args.depth c.items.reader c.take_end_array.new.self c.read_series.new.reader going.1 c.in_ok-series.ensures))

pub returns : goal.returns
returns c =
    let end : after_end_array c.items.reader ≡ Some c.take_end_array.new.self = grind arith in
    all_items _ c.args.depth c.args.reader.now c.items.reader c.take_end_array.new.self c.items.invariant end
