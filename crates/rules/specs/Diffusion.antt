-- Floyd and Steinberg's dithering (document 01, quantize.rs: Dither).
-- A dot's value is its gray and what its neighbours handed it. It is white from 128 on. Its residual, the value less what is shown, 255
-- or 0, is handed on in sixteenths, each part rounded: 7 to the next dot of its row, and in the row below 3 to the dot before its column,
-- 5 at its column, 1 after it.
-- Said from the side of the dot that receives: 7 sixteenths of the residual before it in its row, and of the row above, in the direction
-- in which that row ran, 1 of the residual before it, 5 of that at its own column, 3 of that after it. Past an edge stands 0.
use Rattle.std.specs.Prelude.{ℕ, zero, suc, ◌+◌, ◌-◌, ◌/◌, Bool, ltb, ℤ, pos, negsuc, neg_ℤ, ◌+ℤ◌, ◌-ℤ◌, ◌*ℤ◌}
use Rattle.std.specs.Int.Signed.{le_z}
use Rattle.error.specs.Choice.{if}

-- n / 16, to the nearest whole number, halves away from zero
abbrev pub round16 : ℤ → ℤ
round16 (pos n) = pos ((n + 8) / 16)
round16 (negsuc n) = neg_ℤ (pos ((suc n + 8) / 16))

-- k sixteenths of the residual r
unfoldable pub part : ℕ → ℤ → ℤ
part k r = round16 (pos k *ℤ r)

-- a dot's value, from its gray, the residual before it in its row, and those before it, at its column and after it in the row above
unfoldable pub value : ℕ → ℤ → ℤ → ℤ → ℤ → ℤ
value gray previous corner above ahead = pos gray +ℤ part 7 previous +ℤ part 1 corner +ℤ part 5 above +ℤ part 3 ahead

unfoldable pub white : ℤ → Bool
white v = le_z (pos 128) v

unfoldable pub residual : ℤ → ℤ
residual v = if (white v) (v -ℤ pos 255) v

-- the direction in which a row runs
pub data Direction : Type 0 where
  to_right : Direction
  to_left : Direction

-- a row of residuals, by column: the one on the left and the one on the right of column x, of w columns
abbrev pub on_left : (ℕ → ℤ) → ℕ → ℤ
on_left row zero = pos 0
on_left row (suc x) = row x

abbrev pub on_right : ℕ → (ℕ → ℤ) → ℕ → ℤ
on_right w row x = if (ltb (suc x) w) (row (suc x)) (pos 0)

-- the one that a row visits before column x, and after it
abbrev pub before : Direction → ℕ → (ℕ → ℤ) → ℕ → ℤ
before to_right w row x = on_left row x
before to_left w row x = on_right w row x

abbrev pub after : Direction → ℕ → (ℕ → ℤ) → ℕ → ℤ
after to_right w row x = on_right w row x
after to_left w row x = on_left row x

-- the column that a row of w dots visits after k others; and after how many others it visits column k
abbrev pub visited : Direction → ℕ → ℕ → ℕ
visited to_right w k = k
visited to_left w k = w - suc k

-- the value of the dot at column x, from the residual before it in its row; `e` is the direction of the row above, whose
-- residuals are `above`
unfoldable pub value_from : Direction → ℕ → (ℕ → ℕ) → (ℕ → ℤ) → ℕ → ℤ → ℤ
value_from e w gray above x previous = value (gray x) previous (before e w above x) (above x) (after e w above x)

-- the residual that a row in the direction d hands to the dot that it visits after k others
unfoldable pub handed : Direction → Direction → ℕ → (ℕ → ℕ) → (ℕ → ℤ) → ℕ → ℤ
handed d e w gray above zero = pos 0
handed d e w gray above (suc k) = residual (value_from e w gray above (visited d w k) (handed d e w gray above k))

-- the value of the dot at column x of such a row
unfoldable pub row_value : Direction → Direction → ℕ → (ℕ → ℕ) → (ℕ → ℤ) → ℕ → ℤ
row_value d e w gray above x = value_from e w gray above x (handed d e w gray above (visited d w x))

-- a scan: the gray at column x of row y
abbrev pub Scan : Type 0
Scan = ℕ → ℕ → ℕ

-- the residual at column x above row y, where row r runs in the direction `dirs r`: nothing is handed to row 0
unfoldable pub above : (ℕ → Direction) → ℕ → Scan → ℕ → ℕ → ℤ
above dirs w scan zero x = pos 0
above dirs w scan (suc y) x = residual (row_value (dirs y) (dirs (y - 1)) w (λ c. scan c y) (above dirs w scan y) x)

-- the value of the dot at column x of row y
unfoldable pub value_at : (ℕ → Direction) → ℕ → Scan → ℕ → ℕ → ℤ
value_at dirs w scan x y = row_value (dirs y) (dirs (y - 1)) w (λ c. scan c y) (above dirs w scan y) x

-- the residual of the dot at column x of row y
abbrev pub residual_at : (ℕ → Direction) → ℕ → Scan → ℕ → ℕ → ℤ
residual_at dirs w scan x y = above dirs w scan (suc y) x
