use Rattle.std.proofs.Common.{◌++◌, ◌∙◌, ap, List, ℕ, codes, decimal, length}
use Rattle.std.proofs.lemmas.List.{nil_from_length}
use Rattle.http_session.specs.Reply.{head_of_reply, line}
use Rattle.http_session.proofs.JoinLemmas.{put_after}
use Rattle.http_session.proofs.write.put_head.Goals as goal

pub returns : goal.returns
unfolding head_of_reply
returns c =
    let s0 = nil_from_length c.args.out.now.items c.requires in
    let s1 = put_after _ _ _ _ s0 c.put_status.ensures.value in
    let s2 = put_after _ _ _ _ s1 (c.put_line.ensures.value ∙ ap (λ (t : List ℕ). c.put_status.new.out.items ++ line (codes "Content-Type") t) c.content_type.ensures.value) in
    let s3 = put_after _ _ _ _ s2 (c.put_number.ensures.value ∙ ap (λ (t : List ℕ). c.put_line.new.out.items ++ line (codes "Content-Length") (decimal (length t))) c.as_slice.ensures) in
    let s4 = put_after _ _ _ _ s3 c.put_allow.ensures.value in
    let s5 = put_after _ _ _ _ s4 c.put_front.ensures.value in
    let s6 = put_after _ _ _ _ s5 c.put_number-2.ensures.value in
    let s7 = put_after _ _ _ _ s6 c.put_close.ensures.value in
    put_after _ _ _ _ s7 c.put.ensures.value
