-- The groups of seven bits, apart from the bound on how many there are.
use Rattle.std.proofs.Common.{◌≡◌, ℕ, zero, suc, ◌+◌, ◌/◌, ◌%◌, ◌<◌, ◌≤◌, Bool, true, false, List, [], ◌∷◌, ◌++◌, length, sym, refl, ap, ◌∙◌, arith, length-append, ne_eqb}
use Rattle.mbi.specs.Bytes.{groups, mbi_bytes}

-- all the groups of n in front of `last`
abbrev pub above : ℕ → List ℕ → List ℕ
above n last = groups n n last

-- how many groups n has
abbrev pub count : ℕ → ℕ
count n = length (above n [])

-- one group more
pub groups-suc : (m n : ℕ) (last : List ℕ) → 0 < n → groups (suc m) n last ≡ groups m (n / 128) ((128 + n % 128) ∷ last)
unfolding groups
groups-suc m n last h =
    ap (λ (t : Bool). elim t as (λ x. List ℕ) [ true ↦ last | false ↦ groups m (n / 128) ((128 + n % 128) ∷ last) ])
    (ne_eqb n 0 (λ e. omega arith))

-- a bound that is large enough does not matter
pub groups-bound : (m k n : ℕ) (last : List ℕ) → n ≤ m → n ≤ k → groups m n last ≡ groups k n last
unfolding groups
groups-bound zero zero n last p q = refl
groups-bound zero (suc k) zero last p q = refl
groups-bound (suc m) zero zero last p q = refl
groups-bound (suc m) (suc k) zero last p q = refl
groups-bound zero (suc k) (suc n) last p q = absurd (omega arith)
groups-bound (suc m) zero (suc n) last p q = absurd (omega arith)
groups-bound (suc m) (suc k) (suc n) last p q =
    groups-suc m (suc n) last (omega arith)
    ∙ groups-bound m k (suc n / 128) ((128 + suc n % 128) ∷ last) (omega arith) (omega arith)
    ∙ sym (groups-suc k (suc n) last (omega arith))

pub above-group : (n : ℕ) (last : List ℕ) → 0 < n → above n last ≡ above (n / 128) ((128 + n % 128) ∷ last)
above-group zero last h = absurd (omega arith)
above-group (suc m) last h =
    groups-suc m (suc m) last h
    ∙ groups-bound m (suc m / 128) (suc m / 128) ((128 + suc m % 128) ∷ last) (omega arith) (omega arith)

-- the bytes of n are all the groups above its last one, and that one
pub bytes-above : (n : ℕ) → mbi_bytes n ≡ above (n / 128) (n % 128 ∷ [])
unfolding mbi_bytes
bytes-above n = groups-bound n (n / 128) (n / 128) (n % 128 ∷ []) (omega arith) (omega arith)

-- the groups stand in front of whatever follows
pub groups-append : (m n : ℕ) (last τ : List ℕ) → groups m n (last ++ τ) ≡ groups m n last ++ τ
unfolding groups
groups-append zero n last τ = refl
groups-append (suc m) zero last τ = refl
groups-append (suc m) (suc n) last τ =
    groups-suc m (suc n) (last ++ τ) (omega arith)
    ∙ groups-append m (suc n / 128) ((128 + suc n % 128) ∷ last) τ
    ∙ ap (λ (l : List ℕ). l ++ τ) (sym (groups-suc m (suc n) last (omega arith)))

-- so an integer and what follows it are such groups too
pub bytes-append : (n : ℕ) (τ : List ℕ) → mbi_bytes n ++ τ ≡ above (n / 128) (n % 128 ∷ τ)
bytes-append n τ = ap (λ (l : List ℕ). l ++ τ) (bytes-above n) ∙ sym (groups-append (n / 128) (n / 128) (n % 128 ∷ []) τ)

pub above-append : (n : ℕ) (last : List ℕ) → above n last ≡ above n [] ++ last
above-append n last = groups-append n n [] last

pub length_above : (n : ℕ) (last : List ℕ) → length (above n last) ≡ count n + length last
length_above n last = ap length (above-append n last) ∙ length-append (above n []) last

pub count-group : (n : ℕ) → 0 < n → count n ≡ count (n / 128) + 1
count-group n h = ap length (above-group n [] h) ∙ length_above (n / 128) ((128 + n % 128) ∷ [])

-- no groups are left of 0
pub above_zero : (n : ℕ) (last : List ℕ) → n ≡ 0 → above n last ≡ last
unfolding groups
above_zero n last h = rw h

pub count-zero : (n : ℕ) → n ≡ 0 → count n ≡ 0
count-zero n h = ap length (above_zero n [] h)
