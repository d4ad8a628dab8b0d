use Rattle.std.proofs.Common.{ℕ, List, [], ◌∷◌, ◌++◌, ap, subst, ◌∙◌}
use Rattle.std.specs.List.{All}
use Rattle.profile_model.specs.declared.push.Push.{Push}
use Rattle.segment_file.specs.Objects.{IsPush}
use Rattle.segment_file.proofs.SpelledLemmas.{spelled_in_turn}
use Rattle.segment_file.proofs.object.Object.encode.Goals as goal

pub returns : goal.returns
returns c =
    let object = c.args.self.now in
    record {
      whole = record {
        some = c.pushes-pushes.ensures.some;
        within = c.pushes-pushes.ensures.within;
        each = subst (λ (l : List Push). All IsPush l) c.pushes-pushes.ensures.value c.in_ok-put_pushes.ensures.rules;
        fit = c.pushes-pushes.ensures.fit;
      };
      spelled = spelled_in_turn object.lo c.lo.result c.hi.result object.pushes c.pushes-pushes.result.now c.extend_from_slice.new.self.items c.put_number.new.out.items c.put_number-2.new.out.items c.put_pushes.new.out.items
          (c.in_ok-extend_from_slice.ensures.items ∙ ap (λ (l : List ℕ). l ++ 80 ∷ 89 ∷ 79 ∷ 48 ∷ []) c.in_ok-bytes.ensures.items) c.lo.ensures c.in_ok-put_number.ensures c.hi.ensures.hi
          c.in_ok-put_number-2.ensures c.pushes-pushes.ensures.value c.in_ok-put_pushes.ensures.bytes;
    }
