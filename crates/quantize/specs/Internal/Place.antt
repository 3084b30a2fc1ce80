-- Where the next sample goes, and what the begun byte holds.
use Rattle.std.specs.Prelude.{ℕ, ◌+◌, ◌-◌, ◌*◌, ◌/◌, ◌%◌, ◌≤◌, ◌<◌, ◌≡◌}
use Rattle.rules.specs.Bits.{digits}
use Rattle.quantize.specs.Finished.{Setting}
use Rattle.rules.specs.Packed.{padded_bit}

-- after n samples so many frames are not full, and the next sample goes to this row and column
pub record At (s : Setting) (n frames row column : ℕ) : Type 0 where
  pub in_row : column < s.width
  pub in_frame : row < s.height
  pub most : frames ≤ s.frames
  pub place : n ≡ ((s.frames - frames) * s.height + row) * s.width + column
  pub full : frames ≡ 0 → (row ≡ 0) × (column ≡ 0)

-- the m first dots of the byte that sample n goes into, as binary digits, where the dot of sample i is d i
unfoldable pub begun_by : ℕ → (ℕ → ℕ) → ℕ → ℕ → ℕ
begun_by w d n m = digits (λ i. padded_bit w d (n / w) (8 * (n % w / 8) + i)) m

-- those before sample n
abbrev pub Begun : ℕ → (ℕ → ℕ) → ℕ → ℕ → Type 0
Begun w d n begun = begun ≡ begun_by w d n (n % w % 8)
