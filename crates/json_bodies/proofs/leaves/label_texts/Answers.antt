use Rattle.std.proofs.Common.{◌≡◌, Some, None, refl, arith}
use Rattle.json.specs.Json.{read_key}
use Rattle.json_bodies.proofs.LoopLemmas.{all_members, member_shorter, no_key_follows, no_members_so_far, no_value_follows, one_member_more}
use Rattle.json_bodies.proofs.leaves.label_texts.Goals as goal

pub members-init : goal.members-init
members-init c = no_members_so_far _ c.args.depth c.args.reader.now record { name = refl; value = refl }

pub returns-in_err-key : goal.returns-in_err-key
returns-in_err-key c =
    let none = no_key_follows _ c.args.depth c.args.reader.now c.members.reader c.members.invariant c.in_err-key.ensures.value in
    grind (arith, none)

pub returns-in_err-texts : goal.returns-in_err-texts
returns-in_err-texts c =
    let named : read_key c.members.reader ≡ Some (Some c.in-Some.key.now, c.next_key.new.self) = grind arith in
    let none = no_value_follows _ c.args.depth c.in-Some.key.now c.args.reader.now c.members.reader c.next_key.new.self c.members.invariant named c.in_err-texts.ensures in
    grind (arith, none)

pub members-smaller : goal.members-smaller
members-smaller c =
    let named : read_key c.members.reader ≡ Some (Some c.in-Some.key.now, c.next_key.new.self) = grind arith in
    member_shorter _ c.args.depth c.in-Some.key.now c.members.reader c.next_key.new.self c.label_member.new.reader named c.in_ok-texts.ensures

pub members-preserved : goal.members-preserved
members-preserved c =
    let named : read_key c.members.reader ≡ Some (Some c.in-Some.key.now, c.next_key.new.self) = grind arith in
    one_member_more _ _ c.args.depth c.in-Some.key.now c.args.reader.now c.members.reader c.next_key.new.self c.label_member.new.reader
    c.members.invariant named c.in_ok-texts.ensures

pub returns : goal.returns
returns c =
    let end : read_key c.members.reader ≡ Some (None, c.next_key.new.self) = grind arith in
    all_members _ c.args.depth c.args.reader.now c.members.reader c.next_key.new.self c.members.invariant end
