-- The rows of planes that stand end to end, counted through all planes and in each.
use Prim.Native.Nat.{ℕ, ◌+◌, ◌*◌, ◌/◌, ◌%◌, ◌<◌}
use mathlib.Core.Path.{◌≡◌, sym, ap, ◌∙◌, subst}
use mathlib.Core.List.{List}
use native.Mathlib.Nat.{mod-lt, div-add-mod', div-lt_iff_lt-mul}
use native.Mathlib.Omega.{arith}
use lib.ListN.{get_or, drop}
use lib.Seq.{get_or-take, get_or-drop}
use Rattle.image.specs.Geometry.{row_bytes, plane_bytes}
use Rattle.image.proofs.PlaneSizes.{byte_inside}
use Rattle.conformance.specs.ReadBack.{plane_in}

regrouped : (k h y r j : ℕ) → (k * h + y) * r + j ≡ k * (r * h) + (y * r + j)
regrouped k h y r j = omega arith

-- byte j of row y of plane k
pub plane-byte : (width height : ℕ) (body : List ℕ) (k y j : ℕ) → y < height → j < row_bytes width
    → get_or (plane_in width height body k) (y * row_bytes width + j) 0 ≡ get_or body ((k * height + y) * row_bytes width + j) 0
plane-byte width height body k y j l i =
    let r = row_bytes width in
    get_or-take (plane_bytes width height) (drop (k * plane_bytes width height) body) (y * r + j) 0 (byte_inside width height y j l i)
    ∙ get_or-drop (k * plane_bytes width height) body (y * r + j) 0
    ∙ ap (λ (i : ℕ). get_or body i 0) (sym (regrouped k height y r j))

-- what holds of each row of each plane holds of all rows
pub by-planes : (P : ℕ → Type 0) (count height : ℕ) → 0 < height → ((k y : ℕ) → k < count → y < height → P (k * height + y))
    → (r : ℕ) → r < count * height → P r
by-planes P count height high h r l =
    subst P (div-add-mod' r height) (h (r / height) (r % height) ((div-lt_iff_lt-mul {k = height} high).1 l) (mod-lt r high))
