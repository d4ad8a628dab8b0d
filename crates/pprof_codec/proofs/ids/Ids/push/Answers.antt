use Rattle.std.proofs.Common.{◌≡◌, ℕ, [], ◌∷◌, length, take, cond, None, Some, arith, ap, sym, ◌∙◌, subst}
use Rattle.std.proofs.lemmas.List.{length_push, take_at}
use Rattle.std.specs.Map.{lookup}
use Rattle.std.specs.BTreeMap.{is_at}
use Rattle.std.specs.Ordering.{nat_cmp}
use Rattle.pprof_codec.specs.Tables.{number_of, AreNumbered}
use Rattle.pprof_codec.proofs.IdLemmas.{numbered-in_place, numbered-other, on_err, on_ok}
use Rattle.pprof_codec.proofs.ids.Ids.push.Goals as goal

pub invariant_of-self-then-id-number : goal.invariant_of-self-then-id-number
invariant_of-self-then-id-number c =
    let ids = c.self.inside.ids.items in
    let new : number_of ids c.args.id ≡ None = ap (λ known. number_of known c.args.id) c.self.view_is ∙ c.requires in
    subst (λ known. AreNumbered known c.self.inside.others.entries) (sym c.in_ok-push.ensures.items)
    (numbered-in_place ids c.self.inside.others.entries c.args.id (omega arith) new c.self.invariant)

pub invariant_of-self-then-is_err : goal.invariant_of-self-then-is_err
invariant_of-self-then-is_err c =
    let ids = c.self.inside.ids.items in
    let grown = c.in_ok-push.ensures.items in
    let size = length_push ids c.args.id in
    let more = ap (length {A = ℕ}) grown in
    let back : c.pop.new.self.items ≡ ids = c.pop.ensures.rest ∙ ap (take _) grown ∙ take_at ids (c.args.id ∷ []) _ (omega arith) in
    let same = on_err c.insert.result (sym c.if-is_err.ensures.value) c.insert.ensures.err in
    subst (λ known. AreNumbered known c.insert.new.self.entries) (sym back)
    (subst (λ entries. AreNumbered ids entries) (sym same) c.self.invariant)

pub invariant_of-self-else-is_err : goal.invariant_of-self-else-is_err
invariant_of-self-else-is_err c =
    let ids = c.self.inside.ids.items in
    let new : number_of ids c.args.id ≡ None = ap (λ known. number_of known c.args.id) c.self.view_is ∙ c.requires in
    let number : c.len-number.result ≡ length ids = omega arith in
    let put = on_ok c.insert.result (sym c.if-is_err.ensures.value) c.insert.ensures.updates in
    subst (λ known. AreNumbered known c.insert.new.self.entries) (sym c.in_ok-push.ensures.items)
    (numbered-other ids c.self.inside.others.entries c.insert.new.self.entries c.args.id (λ is. c.if-id-number.false (omega arith)) new
    (λ q. put.0 q ∙ ap (λ n. cond (is_at (nat_cmp c.args.id) q) (Some n) (lookup (is_at (nat_cmp q)) c.self.inside.others.entries)) number) c.self.invariant)
