-- How many bytes an integer has.
use Rattle.std.proofs.Common.{◌≡◌, ℕ, zero, suc, ◌+◌, ◌*◌, ◌/◌, ◌%◌, ◌^◌, ◌<◌, ◌≤◌, [], ◌∷◌, length, refl, ap, ◌∙◌, arith, max, pow_pos}
use Rattle.laws.proofs.Digits.{div_below}
use Rattle.mbi.specs.Bytes.{groups, mbi_bytes}
use Rattle.mbi.proofs.Groups.{count, count-zero, count-group, length_above, bytes-above}

-- a number below 128 ^ k has at most k groups
pub count-le : (k n : ℕ) → n < 128 ^ k → count n ≤ k
count-le zero n h = omega (arith, count-zero n (omega arith))
count-le (suc k) n h = go n h (λ m. count-le k m)
  where
    go : (n : ℕ) → n < 128 ^ suc k → ((m : ℕ) → m < 128 ^ k → count m ≤ k) → count n ≤ suc k
    go zero h ih = omega (arith, count-zero 0 refl)
    go (suc n) h ih = omega (arith, count-group (suc n) (omega arith), ih (suc n / 128) (div_below 128 k (suc n) (omega arith) h))

pub length-bytes : (n : ℕ) → length (mbi_bytes n) ≡ count (n / 128) + 1
length-bytes n = ap length (bytes-above n) ∙ length_above (n / 128) (n % 128 ∷ [])

pub bytes_small : (n : ℕ) → n < 128 → length (mbi_bytes n) ≡ 1
bytes_small n h = omega (arith, length-bytes n, count-zero (n / 128) (omega arith))

pub bytes-more : (n : ℕ) → 128 ≤ n → length (mbi_bytes n) ≡ length (mbi_bytes (n / 128)) + 1
bytes-more n h = omega (arith, length-bytes n, length-bytes (n / 128), count-group (n / 128) (omega arith))

-- a number of 32 bits has 1 to 5 bytes
pub bytes_one : (n : ℕ) → 1 ≤ length (mbi_bytes n)
bytes_one n = omega (arith, length-bytes n)

pub bytes-five : (n : ℕ) → n < 4294967296 → length (mbi_bytes n) ≤ 5
bytes-five n h = omega (arith, length-bytes n, count-le 4 (n / 128) (omega arith))

-- a number whose highest bit is bit r has a byte for each seven bits
with-bit : (r v : ℕ) → 2 ^ r ≤ v → v < 2 * 2 ^ r → length (mbi_bytes v) ≡ 1 + r / 7
with-bit (suc (suc (suc (suc (suc (suc (suc r))))))) v p q =
    omega (arith, bytes-more v (omega (arith, pow_pos r)), with-bit r (v / 128) (omega arith) (omega arith))
with-bit zero v p q = bytes_small v (omega arith)
with-bit (suc zero) v p q = bytes_small v (omega arith)
with-bit (suc (suc zero)) v p q = bytes_small v (omega arith)
with-bit (suc (suc (suc zero))) v p q = bytes_small v (omega arith)
with-bit (suc (suc (suc (suc zero)))) v p q = bytes_small v (omega arith)
with-bit (suc (suc (suc (suc (suc zero))))) v p q = bytes_small v (omega arith)
with-bit (suc (suc (suc (suc (suc (suc zero)))))) v p q = bytes_small v (omega arith)

-- and 0 has one, as 1 has
pub length_bits : (r v : ℕ) → 2 ^ r ≤ max v 1 → max v 1 < 2 * 2 ^ r → length (mbi_bytes v) ≡ 1 + r / 7
length_bits r zero p q = omega (arith, bytes_small 0 (omega arith), bytes_small 1 (omega arith), with-bit r 1 p q)
length_bits r (suc v) p q = with-bit r (suc v) (omega arith) (omega arith)

-- 4294967295 has five
five : length (mbi_bytes 4294967295) ≡ 5
unfolding mbi_bytes groups
five = refl
