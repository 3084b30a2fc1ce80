-- Eight samples, or eight dots, as one number with a byte for each.
use Rattle.std.specs.Prelude.{ℕ, zero, suc, ◌+◌, ◌*◌, ◌%◌, ◌<◌, ◌≡◌, Bool, true, List, leb, get_or}
use Rattle.rules.specs.Bits.{bit, digits}

-- the number whose digits to the base 256 are n of f's values, the first one the lowest
unfoldable pub bytes : (ℕ → ℕ) → ℕ → ℕ
bytes f zero = 0
bytes f (suc n) = bytes (λ i. f (suc i)) n * 256 + f 0

-- f's values are below b
abbrev pub Below : ℕ → (ℕ → ℕ) → Type 0
Below b f = (i : ℕ) → f i < b

-- the samples from an index on
abbrev pub samples_from : List ℕ → ℕ → ℕ → ℕ
samples_from gray at i = get_or gray (at + i) 0

-- where w's eight bytes are f's values, the highest bits of r's are their dots, and its other bits are 0
abbrev pub Compares : ℕ → ℕ → ℕ → Type 0
Compares t w r = (f : ℕ → ℕ) → Below 256 f → w ≡ bytes f 8 → r ≡ bytes (λ i. bit (leb t (f i))) 8 * 128

-- where the highest bits of z's eight bytes are f's values, and its other bits are 0, they are r's binary digits
abbrev pub Gathers : ℕ → ℕ → Type 0
Gathers z r = (f : ℕ → ℕ) → Below 2 f → z ≡ bytes f 8 * 128 → r ≡ digits f 8

-- where w's eight bytes are f's values, r says whether each is 0 or 255
abbrev pub TellsPlain : ℕ → Bool → Type 0
TellsPlain w r =
    (f : ℕ → ℕ) → Below 256 f → w ≡ bytes f 8
    → (r ≡ true → (i : ℕ) → i < 8 → f i % 255 ≡ 0) × (((i : ℕ) → i < 8 → f i % 255 ≡ 0) → r ≡ true)
