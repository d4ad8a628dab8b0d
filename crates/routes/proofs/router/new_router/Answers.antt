use Rattle.matchit.proofs.OnLiterals.{matchit_on_literals}
use Rattle.routes.proofs.LiteralRoutes.{finds_table}
use Rattle.routes.proofs.router.new_router.Goals as goal

pub returns : goal.returns
unfolding matchit_on_literals
returns c =
    let a = c.in_ok-add.ensures in
    let b = c.in_ok-add-2.ensures in
    let d = c.in_ok-add-3.ensures in
    let e = c.in_ok-add-4.ensures in
    let f = c.in_ok-add-5.ensures in
    let g = c.in_ok-add-6.ensures in
    let h = c.in_ok-add-7.ensures in
    let i = c.in_ok-add-8.ensures in
    let j = c.in_ok-add-9.ensures in
    let k = c.in_ok-add-10.ensures in
    let l = c.in_ok-add-11.ensures in
    let m = c.in_ok-add-12.ensures in
    let n = c.in_ok-add-13.ensures in
    rw (n.1, m.1, l.1, k.1, j.1, i.1, h.1, g.1, f.1, e.1, d.1, b.1, a.1, c.new-router.ensures) finds_table
