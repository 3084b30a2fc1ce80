use Prim.Native.Nat.{ℕ, ◌+◌, ◌-◌, ◌*◌, ◌%◌, ◌^◌, ◌<◌}
use mathlib.Core.Path.{◌≡◌, refl, sym, ap, ap₂, ◌∙◌}
use native.Mathlib.Nat.{zero-add, mod-eq_of_lt, lt_of_lt_of_le}
use native.Mathlib.Omega.{arith}
use lib.ListN.{length, get_or, get_or-eq_default}
use lib.Pow.{pow_mono, shl_lt}
use Rattle.rules.specs.Internal.Words.{bytes, samples_from, Below}
use Rattle.rules.proofs.Words.{bytes_lt, bytes_next, bytes-past}
use Rattle.rules.proofs.plain.few.Goals as goal
use Rattle.rules.proofs.plain.few.Goals.{After-from}

-- the samples so far, and one more above them
added : (c : After-from) → let i = c.loop-i.i in
    c.loop-i.samples + c.from.result * 2 ^ (8 * i) % 18446744073709551616 ≡ bytes (samples_from c.args.gray.now 0) (i + 1)
added c =
    let gray = c.args.gray.now in
    let i = c.loop-i.i in
    let sample = c.from.result in
    let small : sample < 2 ^ 8 = omega (arith, c.from.ensures, c.type_inv.gray i) in
    let fits : sample * 2 ^ (8 * i) < 2 ^ 64 =
    lt_of_lt_of_le (shl_lt 8 (8 * i) small) (pow_mono {i = 8 + 8 * i} {j = 64} (omega (arith, c.requires, c.loop-i-test.true))) in
    ap (λ (n : ℕ). c.loop-i.samples + n) (mod-eq_of_lt fits)
    ∙ ap₂ (λ (n x : ℕ). n + x * 2 ^ (8 * i)) c.loop-i.invariant (c.from.ensures ∙ ap (λ (j : ℕ). get_or gray j 0) (sym (zero-add i)))
    ∙ bytes_next (samples_from gray 0) i

pub loop-i-init : goal.loop-i-init
unfolding bytes
loop-i-init c = refl

pub overflow_add-samples : goal.overflow_add-samples
overflow_add-samples c =
    let f : ℕ → ℕ = samples_from c.args.gray.now 0 in
    let i = c.loop-i.i in
    let small : Below 256 f = λ j. omega (arith, c.type_inv.gray (0 + j)) in
    let below : bytes f (i + 1) < 2 ^ 64 =
    lt_of_lt_of_le (bytes_lt f small (i + 1)) (pow_mono {i = 8 * (i + 1)} {j = 64} (omega (arith, c.requires, c.loop-i-test.true))) in
    omega (arith, added (goal.at.overflow_add-samples c).After-from, below)

pub loop-i-preserved : goal.loop-i-preserved
loop-i-preserved c = added (goal.at.loop-i-preserved c).After-from

pub returns : goal.returns
returns c =
    let gray = c.args.gray.now in
    let n = length gray in
    let f = samples_from gray 0 in
    let a : c.loop-i.i ≡ n = omega (arith, c.loop-i-test.false, c.loop-i.auto.i-end) in
    let b : n + (8 - n) ≡ 8 = omega (arith, c.requires) in
    c.loop-i.invariant
    ∙ ap (bytes f) a
    ∙ sym (bytes-past f n (8 - n) (λ i _. get_or-eq_default gray 0 (omega arith)))
    ∙ ap (bytes f) b
