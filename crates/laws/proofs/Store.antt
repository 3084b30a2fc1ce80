-- A list after one element was stored in it.
use Prim.Native.Nat.{ℕ, suc, ◌+◌, ◌<◌}
use mathlib.Core.Path.{◌≡◌, ◌∙◌, ap}
use mathlib.Core.List.{List, ◌∷◌}
use native.Mathlib.Numerals.{add-one}
use native.Mathlib.Omega.{arith}
use lib.ListN.{length, take, drop, set}
use lib.Seq.{length-take-le, set_split, drop_at}

-- what stands from there on
pub drop-set : (l : List ℕ) (i a : ℕ) → i < length l → drop i (set l i a) ≡ a ∷ drop (i + 1) l
drop-set l i a h =
    rw add-one
    (ap (drop i) (set_split l i a h) ∙ drop_at (take i l) (a ∷ drop (suc i) l) i (length-take-le i l (omega arith)))
