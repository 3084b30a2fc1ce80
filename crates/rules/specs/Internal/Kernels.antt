-- What the kernels of the threshold rule ask and promise.
use Rattle.std.specs.Prelude.{ℕ, ◌+◌, ◌*◌, ◌≤◌, ◌<◌, List, leb, get_or}
use Rattle.rules.specs.Bits.{bit, digits, upto}

-- there is room for n digits more
abbrev pub Packs : ℕ → ℕ → Type 0
Packs begun n = (n ≤ 8) × (begun < 256)

abbrev pub threshold_bit : ℕ → List ℕ → ℕ → ℕ
threshold_bit t gray i = bit (leb t (get_or gray i 0))

-- the dots of the samples from an index on
abbrev pub threshold_from : ℕ → List ℕ → ℕ → ℕ → ℕ
threshold_from t gray at i = threshold_bit t gray (at + i)

-- so many bytes of eight such dots each
abbrev pub threshold_bytes : ℕ → List ℕ → ℕ → List ℕ
threshold_bytes t gray n = upto n (λ k. digits (threshold_from t gray (8 * k)) 8)
