use Rattle.std.proofs.Common.{◌≡◌, Some, None, refl, arith}
use Rattle.json.specs.Json.{read_key}
use Rattle.json_bodies.proofs.ListLemmas.{stop_so}
use Rattle.json_bodies.proofs.LoopLemmas.{all_members, member_shorter, no_key_follows, no_members_so_far, no_value_follows, one_member_more}
use Rattle.json_bodies.proofs.series.read_parts.Goals as goal

pub members-init : goal.members-init
members-init c = no_members_so_far _ c.args.depth c.args.reader.now record { labels = refl; samples = refl }

pub returns-in_err-key : goal.returns-in_err-key
returns-in_err-key c =
    let none = no_key_follows _ c.args.depth c.args.reader.now c.members.reader c.members.invariant c.in_err-key.ensures.value in
    grind (arith, none)

pub returns-in_err-parts : goal.returns-in_err-parts
returns-in_err-parts c =
    let named : read_key c.members.reader ≡ Some (Some c.in-Some.key.now, c.next_key.new.self) = grind arith in
    let none = stop_so _ _ _ (λ e. no_value_follows _ c.args.depth c.in-Some.key.now c.args.reader.now c.members.reader c.next_key.new.self c.members.invariant named e) c.in_err-parts.ensures in
    grind (arith, none)

pub members-smaller : goal.members-smaller
members-smaller c =
    let named : read_key c.members.reader ≡ Some (Some c.in-Some.key.now, c.next_key.new.self) = grind arith in
    member_shorter _ c.args.depth c.in-Some.key.now c.members.reader c.next_key.new.self c.with_member.new.reader named c.in_ok-parts.ensures

pub members-preserved : goal.members-preserved
members-preserved c =
    let named : read_key c.members.reader ≡ Some (Some c.in-Some.key.now, c.next_key.new.self) = grind arith in
    one_member_more _ _ c.args.depth c.in-Some.key.now c.args.reader.now c.members.reader c.next_key.new.self c.with_member.new.reader
    c.members.invariant named c.in_ok-parts.ensures

pub returns : goal.returns
returns c =
    let end : read_key c.members.reader ≡ Some (None, c.next_key.new.self) = grind arith in
    all_members _ c.args.depth c.args.reader.now c.members.reader c.next_key.new.self c.members.invariant end
