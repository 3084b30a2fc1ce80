-- Rows of dots as bytes: each row starts with a byte of its own, and zeros stand behind its last dot.
use Rattle.std.specs.Prelude.{ℕ, ◌+◌, ◌*◌, ◌/◌, ◌%◌, ltb}
use Rattle.error.specs.Choice.{if}
use Rattle.image.specs.Geometry.{row_bytes}
use Rattle.rules.specs.Bits.{digits}

-- the bit at column c of row r, all frames' rows counted, where the dot of sample n is d n: 0 in the padding
unfoldable pub padded_bit : ℕ → (ℕ → ℕ) → ℕ → ℕ → ℕ
padded_bit w d r c = if (ltb c w) (d (r * w + c)) 0

-- byte j of all rows: eight dots, the first one the highest bit
unfoldable pub byte_at : ℕ → (ℕ → ℕ) → ℕ → ℕ
byte_at w d j = digits (λ i. padded_bit w d (j / row_bytes w) (8 * (j % row_bytes w) + i)) 8
