use Prim.Native.Nat.{ℕ, ◌-◌, ◌*◌, ◌/◌}
use mathlib.Core.Path.{◌≡◌, ap, ◌∙◌}
use mathlib.Core.List.{List, ◌++◌}
use native.Mathlib.Omega.{arith}
use lib.ListN.{length, take, drop, set, length-drop}
use lib.Seq.{take_all, length-take-le}
use Rattle.rules.specs.Internal.Kernels.{threshold_bytes}
use Rattle.rules.specs.Internal.Planes.{ending_byte}
use Rattle.rules.proofs.PlaneWritten.{ended-row}
use Rattle.rules.proofs.plane.last_row.Goals as goal

pub returns : goal.returns
returns c =
    let a = c.args in
    let gray = a.gray.now in
    let n = length gray / 8 in
    let front = length-take-le n a.out.now (omega (arith, c.requires.0, c.requires.1)) in
    let rest : take (length gray - 8 * n) (drop (8 * n) gray) ≡ drop (8 * n) gray =
    take_all (length gray - 8 * n) (drop (8 * n) gray) (omega (arith, length-drop (8 * n) gray)) in
    ap (λ (l : List ℕ). set (l ++ drop n a.out.now) n c.ending_byte.result)
    (c.threshold_bytes.ensures ∙ ap (threshold_bytes a.bound gray) front)
    ∙ ended-row a.bound gray a.out.now c.ending_byte.result c.requires.0 c.requires.1
    (c.ending_byte.ensures ∙ ap (ending_byte a.bound) rest)
