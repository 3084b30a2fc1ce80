-- Products: how many bits they have, and so many of one size, end to end.
use Prim.Native.Nat.{ℕ, zero, suc, ◌+◌, ◌*◌, ◌^◌, ◌≤◌, ◌<◌}
use native.Mathlib.Nat.{suc-mul, mul-zero, mul-le-mul_left, mul-le-mul_right}
use native.Mathlib.Nat.{mul-lt-mul_of_pos_right, le_of_lt, lt_of_le_of_lt}
use native.Mathlib.Omega.{arith}
use lib.Pow.{pow_pos, pow-add}

-- a number of j bits times one of k bits has at most j + k bits
pub product-below : (j k : ℕ) {a b : ℕ} → a < 2 ^ j → b < 2 ^ k → a * b < 2 ^ (j + k)
product-below j k {a} {b} p q =
    rw pow-add (lt_of_le_of_lt (mul-le-mul_left a (le_of_lt q)) (mul-lt-mul_of_pos_right p (pow_pos k)))

-- an example: two numbers of 32 bits fit 64
thirty_two : 4294967295 * 4294967295 < 2 ^ 64
thirty_two = product-below 32 32 {a = 4294967295} {b = 4294967295} (omega arith) (omega arith)

-- the first k + 1 of n are among them
pub up_to : (size k n : ℕ) → k < n → k * size + size ≤ n * size
up_to size k n l =
    let p : suc k * size ≤ n * size = mul-le-mul_right size l in
    omega (arith, suc-mul k size)

-- one is among some
pub one_of : (size n : ℕ) → 1 ≤ n → size ≤ n * size
one_of size n l = omega (arith, up_to size 0 n l)

-- where something lies before their end, their size is not 0
pub some_size : (at n size : ℕ) → at < n * size → 0 < size
some_size at n zero h = let e = mul-zero n in omega arith
some_size at n (suc size) h = omega arith
