-- Reading gives back what was written, lenient and strict.
use Rattle.std.proofs.Common.{◌≡◌, ℕ, zero, suc, ◌+◌, ◌*◌, ◌/◌, ◌%◌, ◌<◌, ◌≤◌, Bool, true, List, [], ◌∷◌, ◌++◌, length, ap, ◌∙◌, subst, add-zero, arith}
use lib.Seq.{drop-append_seam}
use Rattle.error.specs.Answer.{Answer, gives}
use Rattle.mbi.specs.Bytes.{groups, mbi_bytes}
use Rattle.mbi.specs.Read.{read_rest, read_mbi, integer}
use Rattle.mbi.proofs.Groups.{above, count, above-group, count-group, bytes-append}
use Rattle.mbi.proofs.Length.{count-le, length-bytes}
use Rattle.mbi.proofs.Step.{goes_by, ends_by}
use Rattle.mbi.proofs.Continuation.{found, rest-integer, integer-goes, integer-ends}

few : (n : ℕ) → n < 4294967296 → count (n / 128) < 7
few n h = omega (arith, count-le 4 (n / 128) (omega arith))

module _ {A : Type 0} (strict : Bool) (next : ℕ → ℕ → List ℕ → Answer A) where
  -- the groups of a number, most significant first, leave the reader with that number
  abbrev GroupsLeave : ℕ → Type 0
  GroupsLeave n =
      (at : ℕ) (τ : List ℕ) → n < 4294967296 → integer strict (above n τ) at 0 0 next ≡ integer strict τ (at + count n) n (count n) next

  leave-zero : GroupsLeave 0
  unfolding groups
  leave-zero at τ h = rw add-zero

  leave-group : (n : ℕ) → 0 < n → GroupsLeave (n / 128) → GroupsLeave n
  leave-group n p ih at τ h =
      let c : count n ≡ count (n / 128) + 1 = count-group n p in
      let e : n / 128 * 128 + (128 + n % 128) % 128 ≡ n = omega arith in
      let f : at + count (n / 128) + 1 ≡ at + count n = omega arith in
      let free : count (n / 128) ≡ 0 → 128 + n % 128 ≡ 128 → ⊥ = λ z o. omega (arith, count-group (n / 128) (omega arith)) in
      ap (λ (l : List ℕ). integer strict l at 0 0 next) (above-group n τ p)
      ∙ ih at ((128 + n % 128) ∷ τ) (omega arith)
      ∙ integer-goes strict (128 + n % 128) τ (at + count (n / 128)) (n / 128) (count (n / 128)) _ next
      (goes_by strict (n / 128) (count (n / 128)) (128 + n % 128) (at + count (n / 128)) free (omega arith) (few n h) (omega arith))
      ∙ rw (e, f, ← c)

  leave : (most n : ℕ) → n ≤ most → GroupsLeave n
  leave zero n p = subst GroupsLeave (omega arith) leave-zero
  leave (suc most) n p = go n p (leave most)
    where
      go : (n : ℕ) → n ≤ suc most → ((k : ℕ) → k ≤ most → GroupsLeave k) → GroupsLeave n
      go zero p ih = leave-zero
      go (suc n) p ih = leave-group (suc n) (omega arith) (ih (suc n / 128) (omega arith))

  -- an integer and what follows it
  pub read-bytes : (n at : ℕ) (τ : List ℕ) → n < 4294967296
      → integer strict (mbi_bytes n ++ τ) at 0 0 next ≡ next n (at + length (mbi_bytes n)) τ
  read-bytes n at τ h =
      let e : n / 128 * 128 + n % 128 % 128 ≡ n = omega arith in
      let f : at + count (n / 128) + 1 ≡ at + length (mbi_bytes n) = omega (arith, length-bytes n) in
      ap (λ (l : List ℕ). integer strict l at 0 0 next) (bytes-append n τ)
      ∙ leave (n / 128) (n / 128) (omega arith) at (n % 128 ∷ τ) (omega arith)
      ∙ integer-ends strict (n % 128) τ (at + count (n / 128)) (n / 128) (count (n / 128)) _ next
      (ends_by strict (n / 128) (count (n / 128)) (n % 128) (at + count (n / 128)) (λ z o. omega arith) (omega arith) (few n h)
      (omega arith))
      ∙ rw (e, f)

-- in a file
pub read-written : (strict : Bool) (p : List ℕ) (n : ℕ) (τ : List ℕ) → n < 4294967296
    → read_mbi strict (p ++ (mbi_bytes n ++ τ)) (length p) ≡ gives (n, length p + length (mbi_bytes n))
read-written strict p n τ h =
    ap (λ (l : List ℕ). read_rest strict l (length p) 0 0) (drop-append_seam p (mbi_bytes n ++ τ))
    ∙ rest-integer strict (mbi_bytes n ++ τ) (length p) 0 0
    ∙ read-bytes strict found n (length p) τ h

-- 16384 after one byte and before another
example : read_mbi true (7 ∷ 129 ∷ 128 ∷ 0 ∷ 9 ∷ []) 1 ≡ gives (16384, 4)
unfolding mbi_bytes groups
example = read-written true (7 ∷ []) 16384 (9 ∷ []) (omega arith)
