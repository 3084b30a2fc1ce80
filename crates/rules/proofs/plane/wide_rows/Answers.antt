use Prim.Native.Nat.{ℕ, ◌+◌, ◌-◌, ◌*◌, ◌/◌, ◌≤◌}
use mathlib.Core.Path.{◌≡◌, ap, ◌∙◌}
use native.Mathlib.Omega.{arith}
use lib.Bits.{bit_and}
use lib.ListN.{length, take, drop, length-drop}
use lib.Seq.{length-take-le}
use borrow.Rule.Slice.PartMut.{mid_of, mid_len}
use Rattle.rules.specs.Internal.Kernels.{threshold_bytes}
use Rattle.rules.proofs.PlaneWritten.{rows_none, row_room, word-there, cut_more}
use Rattle.rules.proofs.plane.wide_rows.Goals as goal
use Rattle.rules.proofs.plane.wide_rows.Goals.{In-loop-y}

-- the eight samples of the next row's last byte, and the part of the output for those before it
there : (c : In-loop-y) → c.loop-y.at + 8 * (c.args.layout.width / 8) + 8 ≤ length c.args.gray.now
there c = word-there c.args.layout c.requires.0 c.loop-y.invariant c.requires.1.0 c.loop-y-test.true

part-length : (c : In-loop-y) → let n = c.args.layout.width / 8 in let to = c.loop-y.to in
    length (mid_of to (to + n - to) c.loop-y.out) ≡ n
part-length c =
    let to = c.loop-y.to in
    let n = c.args.layout.width / 8 in
    let r = row_room c.args.layout c.requires.0 c.loop-y.invariant (omega (arith, c.loop-y-test.true)) in
    let m = mid_len to (to + n) c.loop-y.out (omega arith) in
    omega arith

pub loop-y-init : goal.loop-y-init
loop-y-init c = let a = c.args in rows_none a.bound a.layout.width a.layout.height a.gray.now a.out.now

pub threshold_bytes-requires : goal.threshold_bytes-requires
threshold_bytes-requires c =
    let i = (goal.at.threshold_bytes-requires c).In-loop-y in
    let gray = c.args.gray.now in
    let at = c.loop-y.at in
    let t = there i in
    let p = part-length i in
    let n = length-take-le (length gray - at) (drop at gray) (omega (arith, length-drop at gray)) in
    omega (arith, length-drop at gray)

pub byte-requires : goal.byte-requires
byte-requires c = there (goal.at.byte-requires c).In-loop-y

pub loop-y-preserved : goal.loop-y-preserved
loop-y-preserved c =
    let a = c.args in
    let l = a.layout in
    let i = (goal.at.loop-y-preserved c).In-loop-y in
    let n = length a.gray.now - c.loop-y.at in
    let t = there i in
    cut_more l c.requires.0 c.loop-y.invariant n c.threshold_bytes.new.out _ c.requires.1.1
    (omega (arith, c.loop-y-test.true)) (omega arith)
    (c.threshold_bytes.ensures ∙ ap (threshold_bytes a.bound (take n (drop c.loop-y.at a.gray.now))) (part-length i))
    (ap (λ (v : ℕ). bit_and v l.last_byte_pad_mask) c.byte.ensures)
