-- Samples that are black or white.
use Rattle.std.specs.Prelude.{ℕ, zero, suc, ◌+◌, ◌%◌, ◌<◌, ◌≡◌, ◌&&◌, List, eqb, get_or}
use Rattle.error.specs.Choice.{if}

-- n samples from an index on are black or white
abbrev pub Plain : List ℕ → ℕ → ℕ → Type 0
Plain samples at n = (i : ℕ) → i < n → get_or samples (at + i) 0 % 255 ≡ 0

-- how many of f's first n values, from the first on, are black or white
unfoldable pub plain_front : (ℕ → ℕ) → ℕ → ℕ
plain_front f zero = 0
plain_front f (suc n) = if (eqb (plain_front f n) n && eqb (f n % 255) 0) (suc n) (plain_front f n)
