use Prim.Native.Nat.{◌+◌}
use mathlib.Core.Path.{◌≡◌, ◌∙◌}
use native.Mathlib.Omega.{arith}
use lib.ListN.{get_or}
use Rattle.api.proofs.ShortHeaders.{read_one, read-two}
use Rattle.api.proofs.front.short_integer.Goals as goal

pub returns-then-first-lt128 : goal.returns-then-first-lt128
returns-then-first-lt128 c =
    let a = c.args in
    let p = c.in_ok-get.ensures.lookup in
    let e : c.from-first.result ≡ get_or a.bytes.now a.at 0 = c.from-first.ensures ∙ p.3.1 0 in
    rw e (read_one a.bytes.now a.at p.3.0 (omega arith))

pub returns : goal.returns
returns c =
    let a = c.args in
    let p = c.in_ok-get.ensures.lookup in
    let q = c.in_ok-get-2.ensures.lookup in
    let e : c.from-first.result ≡ get_or a.bytes.now a.at 0 = c.from-first.ensures ∙ p.3.1 0 in
    let f : c.from-second.result ≡ get_or a.bytes.now (a.at + 1) 0 = c.from-second.ensures ∙ q.3.1 0 in
    rw (e, f) (read-two a.bytes.now a.at q.3.0 (omega arith) (omega (arith, c.type_inv.bytes a.at)) (omega arith))
