use mathlib.Core.Path.{◌≡◌, ◌∙◌, sym, ap}
use mathlib.Core.Bool.{false}
use lib.IntN.{ℤ, pos, negsuc, ◌+ℤ◌}
use lib.Signed.{lt_z}
use mir.Syntax.{w16, w32}
use mir.Val.{SFits, to_z, of_z}
use mir.ValLaws.{to_z-of_z}
use Rattle.dither.proofs.Signed.{wider, to-held-low, to-held-high, to-held-add, to-held-cast, to-held-mid}
use Rattle.dither.proofs.dots.to_held.Goals as goal

-- `quantize::dither::to_held` meets its contract: by the two tests, and then by the sign of `x`.
-- Assumes nothing.
same : (x : ℤ) → SFits w16 x → to_z w32 (of_z w32 (to_z w16 (of_z w16 x))) ≡ x
same x r = ap (λ (z : ℤ). to_z w32 (of_z w32 z)) (to_z-of_z w16 x r) ∙ to_z-of_z w32 x (wider x r)

not_low : (x : ℤ) → SFits w16 x → lt_z (to_z w32 (of_z w32 (to_z w16 (of_z w16 x)))) (negsuc 127) ≡ false → lt_z x (negsuc 127) ≡ false
not_low x r e = sym (ap (λ (z : ℤ). lt_z z (negsuc 127)) (same x r)) ∙ e

not-high : (x : ℤ) → SFits w16 x → lt_z (pos 128) (to_z w32 (of_z w32 (to_z w16 (of_z w16 x)))) ≡ false → lt_z (pos 128) x ≡ false
not-high x r e = sym (ap (λ (z : ℤ). lt_z (pos 128) z) (same x r)) ∙ e

pub overflow_cast-v : goal.overflow_cast-v
overflow_cast-v c = rw (to_z-of_z w16 c.args.x c.ranges.x) (wider c.args.x c.ranges.x)

pub overflow_add-result : goal.overflow_add-result
overflow_add-result c =
    let z = c.args.x in
    let r = c.ranges.x in
    rw (same z r) (to-held-add z (not_low z r c.if-v-ltminus128.false) (not-high z r c.if-v-gt128.false))

pub overflow_cast-result : goal.overflow_cast-result
overflow_cast-result c =
    let z = c.args.x in
    let r = c.ranges.x in
    let l = not_low z r c.if-v-ltminus128.false in
    let h = not-high z r c.if-v-gt128.false in
    rw (same z r, to_z-of_z w32 (z +ℤ pos 128) (to-held-add z l h)) (to-held-cast z l h)

pub returns-then-v-ltminus128 : goal.returns-then-v-ltminus128
returns-then-v-ltminus128 c = to-held-low c.args.x (sym (ap (λ (z : ℤ). lt_z z (negsuc 127)) (same c.args.x c.ranges.x)) ∙ c.if-v-ltminus128.true)

pub returns-then-v-gt128 : goal.returns-then-v-gt128
returns-then-v-gt128 c = to-held-high c.args.x (sym (ap (λ (z : ℤ). lt_z (pos 128) z) (same c.args.x c.ranges.x)) ∙ c.if-v-gt128.true)

pub returns-else-v-gt128 : goal.returns-else-v-gt128
returns-else-v-gt128 c =
    let z = c.args.x in
    let r = c.ranges.x in
    let l = not_low z r c.if-v-ltminus128.false in
    let h = not-high z r c.if-v-gt128.false in
    rw (same z r, to_z-of_z w32 (z +ℤ pos 128) (to-held-add z l h)) (to-held-mid z l h)
