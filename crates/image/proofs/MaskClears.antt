-- The bytes of a row, and the mask of its last one.
use Prim.Native.Nat.{ℕ, zero, suc, ◌+◌, ◌-◌, ◌*◌, ◌^◌, ◌≤◌, ◌<◌}
use mathlib.Core.Path.{◌≡◌, ap, ◌∙◌}
use mathlib.Core.Bool.{Bool, true, false}
use mathlib.Core.List.{List, [], ◌∷◌}
use native.Mathlib.Omega.{arith}
use lib.Bits.{bit_and, and_high}
use lib.ListN.{length, get_or, take, drop, set, replicate}
use lib.Pow.{shr_mod}
use Rattle.error.specs.Choice.{if}
use Rattle.laws.proofs.Octets.{Octets, octets-drop}
use Rattle.image.specs.Geometry.{padding_bits, padding_mask}
use Rattle.image.specs.Internal.Parts.{mask_last}
use Rattle.image.specs.Rows.{clear_low, clear_padding, invert, row_at, is_present, source_row, to_native}
use Rattle.image.specs.declared.PixelFormat.{PixelFormat}
use Rattle.image.specs.declared.PixelFormat.TheVariants.{MonoBlack, MonoWhite}

bytes_take : (n : ℕ) (l : List ℕ) → Octets l → Octets (take n l)
bytes_take zero l b i = omega arith
bytes_take (suc n) [] b i = omega arith
bytes_take (suc n) (x ∷ l) b zero = b 0
bytes_take (suc n) (x ∷ l) b (suc i) = bytes_take n l (λ k. b (suc k)) i

bytes-zeros : (n : ℕ) → Octets (replicate n 0)
bytes-zeros zero i = omega arith
bytes-zeros (suc n) zero = omega arith
bytes-zeros (suc n) (suc i) = bytes-zeros n i

pub bytes-inverted : (l : List ℕ) → Octets (invert l)
bytes-inverted [] i = omega arith
bytes-inverted (x ∷ l) zero = omega arith
bytes-inverted (x ∷ l) (suc i) = bytes-inverted l i

bytes-row : (n s : ℕ) (plane : List ℕ) (y : ℕ) → Octets plane → Octets (row_at n s plane y)
bytes-row n s plane y b =
    bytes_take n (drop (y * s) plane) (octets-drop (y * s) plane b)

bytes-if : (t : Bool) (l m : List ℕ) → Octets l → Octets m → Octets (if t l m)
bytes-if true l m p q = p
bytes-if false l m p q = q

pub bytes-source : (n s : ℕ) (plane : List ℕ) (y : ℕ) → Octets plane → Octets (source_row n s plane y)
bytes-source n s plane y b =
    bytes-if (is_present n s plane y) (row_at n s plane y) (replicate n 0) (bytes-row n s plane y b) (bytes-zeros n)

pub bytes-native : (f : PixelFormat) (l : List ℕ) → Octets l → Octets (to_native f l)
bytes-native MonoBlack l b = b
bytes-native MonoWhite l b = bytes-inverted l

-- the mask clears the low bits of a byte
pub mask_low : (bits b : ℕ) → bits ≤ 8 → b < 256 → bit_and b (256 - 2 ^ bits) ≡ clear_low bits b
mask_low bits b h k =
    let e : 8 - bits + bits ≡ 8 = omega arith in
    let p = and_high b (8 - bits) bits in
    let q : b < 2 ^ (8 - bits + bits) = rw e k in
    rw e at p ∙ ap (λ (n : ℕ). n * 2 ^ bits) (shr_mod (8 - bits) bits q)

pub mask-clears : (w : ℕ) (row : List ℕ) → Octets row → mask_last (padding_mask w) row ≡ clear_padding w row
unfolding clear_padding
mask-clears w row b =
    ap (λ (v : ℕ). set row (length row - 1) v)
    (mask_low (padding_bits w) (get_or row (length row - 1) 0) (omega arith) (b (length row - 1)))
