-- What a rule keeps from dot to dot of a frame, in the order of samples: one number for each column and one more.
-- The numbers stand in a lent buffer, so each is clamped where it is read; numbers that were left there are as they were left.
use Rattle.std.specs.Prelude.{ℕ, zero, suc, ◌+◌, min, Bool, ◌&&◌, List, ltb, leb, ℤ, pos, negsuc, get_or, set}
use Rattle.error.specs.Choice.{if}
use Rattle.rules.specs.Diffusion.{Direction, to_right, to_left, value, white, residual}
use Rattle.rules.specs.Ordered.{bound, cell}
use Rattle.rules.specs.Rule.{Rule, threshold, dither, ordered}

-- a number outside -128 .. 128 counts as the nearer end
abbrev pub clamp : ℤ → ℤ
clamp (pos n) = pos (min n 128)
clamp (negsuc n) = negsuc (min n 127)

pub record Carry : Type 0 where
  -- the residual above the dot on the left
  pub corner : ℤ
  -- by column: up to the next dot the residuals of this row, from there on those of the row above
  pub kept : List ℤ

-- the residual on the left of column x, 0 at the row's start
abbrev pub left_of : List ℤ → ℕ → ℤ
left_of kept zero = pos 0
left_of kept (suc x) = clamp (get_or kept x (pos 0))

abbrev pub corner_of : ℤ → ℕ → ℤ
corner_of corner zero = pos 0
corner_of corner (suc x) = corner

-- the residual above column x of row y, of w columns: 0 above row 0, whatever is kept, and past the edge
unfoldable pub over_of : ℕ → ℕ → List ℤ → ℕ → ℤ
over_of w y kept x = if (ltb 0 y && ltb x w) (clamp (get_or kept x (pos 0))) (pos 0)

-- the value of the dot at column x of row y, which runs to the right, where the row above ran in this direction
unfoldable pub value_of : Direction → ℕ → ℕ → ℕ → ℕ → Carry → ℤ
value_of to_right w y x gray c =
    value gray (left_of c.kept x) (corner_of c.corner x) (over_of w y c.kept x) (over_of w y c.kept (x + 1))
value_of to_left w y x gray c =
    value gray (left_of c.kept x) (over_of w y c.kept (x + 1)) (over_of w y c.kept x) (corner_of c.corner x)

-- what is kept after that dot
unfoldable pub diffused : Direction → ℕ → ℕ → ℕ → ℕ → Carry → Carry
diffused e w y x gray c = record { corner = over_of w y c.kept x; kept = set c.kept x (residual (value_of e w y x gray c)) }

-- the dot of the next sample, and what is kept after it, under each rule
unfoldable pub machine_dot : Rule → ℕ → ℕ → ℕ → ℕ → Carry → Bool
machine_dot (threshold t) w y x gray c = leb t gray
machine_dot dither w y x gray c = white (value_of to_right w y x gray c)
machine_dot (ordered side table) w y x gray c = leb (bound side (cell side table x y)) gray

unfoldable pub next : Rule → ℕ → ℕ → ℕ → ℕ → Carry → Carry
next (threshold t) w y x gray c = c
next dither w y x gray c = diffused to_right w y x gray c
next (ordered side table) w y x gray c = c
