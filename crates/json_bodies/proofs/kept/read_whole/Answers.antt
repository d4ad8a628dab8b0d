use Rattle.std.proofs.Common.{◌≡◌, ◌∷◌, [], length, Some, None, sym, ap, ◌∙◌, arith}
use Rattle.std.proofs.lemmas.Option.{none-some}
use Rattle.json.specs.Json.{value}
use Rattle.json.specs.Reads.{token_of}
use Rattle.serde_json.specs.Data.{Members, no_members, object}
use Rattle.json_bodies.specs.Walks.{membered, valued, whole}
use Rattle.json_bodies.proofs.KindLemmas.{kind_told, no_object, no_object_read, object_read}
use Rattle.json_bodies.proofs.ListLemmas.{stop_so}
use Rattle.json_bodies.proofs.TurnLemmas.{more_than_whole, not_whole, whole_is, whole_read}
use Rattle.json_bodies.proofs.kept.read_whole.Goals as goal

pub returns-else-opens_object : goal.returns-else-opens_object
returns-else-opens_object c = λ ms e.
    let read : valued 127 c.args.reader.now ≡ Some (object ms, []) = whole_is (value 127 c.args.reader.now) (object ms) e in
    let kind = kind_told 127 (token_of c.in_ok-token.token) c.first.new.reader [] (object ms) (ap (valued 127) (sym c.in_ok-token.ensures) ∙ read) in
    none-some ms (sym (no_object (token_of c.in_ok-token.token) (object ms) kind c.if-opens_object.ensures))

pub returns-in_err-fields : goal.returns-in_err-fields
returns-in_err-fields c =
    let so : membered 126 no_members (length c.first.new.reader) c.first.new.reader ≡ None → (ms : Members) → ¬ (whole c.args.reader.now ≡ Some (object ms)) =
    λ e ms told. none-some (object ms) (sym (not_whole (value 127 c.args.reader.now) (ap (valued 127) c.in_ok-token.ensures
    ∙ no_object_read 127 (token_of c.in_ok-token.token) c.first.new.reader c.if-opens_object.ensures (omega arith) e)) ∙ told) in
    let none = stop_so _ _ _ so c.in_err-fields.ensures in
    grind (arith, none)

pub returns-in-Some : goal.returns-in-Some
returns-in-Some c = λ ms told.
    let reads = c.in_ok-fields.ensures in
    let left : c.each_field.new.reader ≡ token_of c.in-Some.field-0 ∷ c.next.new.self = grind arith in
    let none = more_than_whole (value 127 c.args.reader.now) (object reads.members) (token_of c.in-Some.field-0) c.next.new.self
    (ap (valued 127) c.in_ok-token.ensures
    ∙ object_read 127 (token_of c.in_ok-token.token) c.first.new.reader c.each_field.new.reader reads.members c.if-opens_object.ensures (omega arith) reads.read
    ∙ ap (λ ts. Some (object reads.members, ts)) left) in
    none-some (object ms) (sym none ∙ told)

pub returns-in-None : goal.returns-in-None
returns-in-None c =
    let reads = c.in_ok-fields.ensures in
    let left : c.each_field.new.reader ≡ [] = grind arith in (
      reads.members,
      whole_read (value 127 c.args.reader.now) (object reads.members)
          (ap (valued 127) c.in_ok-token.ensures
          ∙ object_read 127 (token_of c.in_ok-token.token) c.first.new.reader c.each_field.new.reader reads.members c.if-opens_object.ensures (omega arith) reads.read
          ∙ ap (λ ts. Some (object reads.members, ts)) left),
      reads.said,
    )
