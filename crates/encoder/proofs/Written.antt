-- What is there and fits is written.
-- Assumes nothing.
use Rattle.std.proofs.Common.{◌≡◌, ◌+◌, ◌-◌, ◌≤◌, ℕ, List, length, Result, Ok, Err, refl, arith}
use Rattle.std.specs.Result.{IsOk}
use borrow.Author.Tests.{le-leb}
use borrow.Rule.Slice.PartMut.{mid_of, mid_len}
use Rattle.error.specs.declared.WbmpError.{WbmpError}
use Rattle.error.specs.Answer.{gives, written}
use Rattle.error.specs.Emits.{Emits}
use Rattle.laws.proofs.Tests.{zero_one}

pub is-written : (v : List ℕ) (r : Result ℕ WbmpError) (to : ℕ) (out new : List ℕ) → to + length v ≤ length out
    → Emits (gives v) (written r) (mid_of to (length out - to) out) new → IsOk r
is-written v (Ok n) to out new h e = refl
is-written v (Err x) to out new h e =
    let n : length (mid_of to (length out - to) out) ≡ length out - to = mid_len to (length out) out (omega arith) in
    let k = e.answer in
    let f = rw (le-leb (length v) (length (mid_of to (length out - to) out)) (omega arith)) at k in
    zero_one (cc)
