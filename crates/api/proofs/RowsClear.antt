-- The rows whose padding was looked at.
use Prim.Native.Nat.{ℕ, zero, suc, ◌+◌, ◌-◌, ◌*◌, ◌%◌, ◌≤◌, ◌<◌}
use mathlib.Core.Path.{◌≡◌, refl, sym, ap, ◌∙◌}
use mathlib.Core.Bool.{Bool, true, false, ◌&&◌, and_assoc}
use mathlib.Core.List.{List}
use native.Mathlib.Decide.{le_ind}
use native.Mathlib.Nat.{add-mul, mul-le-mul_right}
use native.Mathlib.Numerals.{add-one}
use native.Mathlib.Omega.{arith}
use borrow.Author.Tests.{eq-eqb}
use lib.Bits.{bit_and}
use lib.Dec.{eqb}
use lib.ListN.{get_or}
use Rattle.laws.proofs.Octets.{Octets}
use Rattle.image.specs.Geometry.{row_bytes, padding_bits}
use Rattle.image.specs.Rows.{clear_low}
use Rattle.api.specs.Sniff.{is_clear, are_clear}
use Rattle.api.specs.Internal.Parts.{Rows, eight_ends}
use Rattle.api.proofs.PaddingOred.{Low, ored, masked}

-- the last byte of the k-th row after row y
pub further : (row y at k : ℕ) → at ≡ y * row + (row - 1) → at + k * row ≡ (y + k) * row + (row - 1)
further row y at k e = omega (arith, add-mul y k row)

-- it is in the body
pub end-in : (rows row size y at k : ℕ) → 0 < row → rows * row ≤ size → at ≡ y * row + (row - 1) → y + k < rows → at + k * row < size
end-in rows row size y at k z h e l =
    let p : suc (y + k) * row ≤ rows * row = mul-le-mul_right row l in
    let q : suc (y + k) * row ≡ (y + k) * row + row = omega arith in
    let f = further row y at k e in
    omega arith

module _ (width : ℕ) (body : List ℕ) where
  pub none : true ≡ are_clear width body 0
  unfolding are_clear
  none = refl

  step : (m n : ℕ) → n ≡ m + 1 → are_clear width body n ≡ (are_clear width body m && is_clear width body m)
  unfolding are_clear
  step m n e = rw (e, add-one m)

  -- rows without padding
  pub all : width % 8 ≡ 0 → (n : ℕ) → true ≡ are_clear width body n
  unfolding are_clear
  all e zero = refl
  all e (suc n) =
      let z : padding_bits width ≡ 0 = omega arith in
      let b = get_or body (n * row_bytes width + (row_bytes width - 1)) 0 in
      let s : clear_low 0 b ≡ b = omega arith in
      let c : is_clear width body n ≡ true = eq-eqb _ _ (ap (λ (k : ℕ). clear_low k b) z ∙ s) in
      rw (← all e n, c)

  -- rows that are not all clear, with those below them
  pub dirty-on : (m n : ℕ) → are_clear width body m ≡ false → m ≤ n → false ≡ are_clear width body n
  unfolding are_clear
  dirty-on m n e l =
      le_ind (λ (i : ℕ). false ≡ are_clear width body i) (sym e) (λ i k p. ap (λ (t : Bool). t && is_clear width body i) p) n l

  module _ (row mask y at : ℕ) (r : Rows width row mask) (bytes : Octets body) (e : at ≡ y * row + (row - 1))
      (before : are_clear width body y ≡ true) where
    -- the last byte of the k-th row from y on
    end : (k i : ℕ) → i ≡ at + k * row → Low (padding_bits width) (get_or body i 0) (is_clear width body (y + k))
    end k i p =
        let q : i ≡ (y + k) * row_bytes width + (row_bytes width - 1) =
        p ∙ further row y at k e ∙ ap (λ (n : ℕ). (y + k) * n + (n - 1)) r.row_is in
        record { small = bytes i; told = ap (λ (n : ℕ). eqb (clear_low (padding_bits width) (get_or body n 0)) (get_or body n 0)) q }

    test : (b : ℕ) (t : Bool) → Low (padding_bits width) b t → eqb (bit_and b mask) b ≡ t
    test b t p = ap (λ (n : ℕ). eqb (bit_and b n) b) r.mask_is ∙ masked (omega arith) p

    pub one : are_clear width body (y + 1) ≡ eqb (bit_and (get_or body at 0) mask) (get_or body at 0)
    one =
        let z : y + 0 ≡ y = omega arith in
        step y (y + 1) refl
        ∙ rw before (ap (is_clear width body) (sym z))
        ∙ sym (test (get_or body at 0) _ (end 0 at (omega arith)))

    pub eight : are_clear width body (y + 8) ≡ eqb (bit_and (eight_ends body row at) mask) (eight_ends body row at)
    eight =
        let z : y + 0 ≡ y = omega arith in
        rw (
          step (y + 7) (y + 8) (omega arith),
          step (y + 6) (y + 7) (omega arith),
          step (y + 5) (y + 6) (omega arith),
          step (y + 4) (y + 5) (omega arith),
          step (y + 3) (y + 4) (omega arith),
          step (y + 2) (y + 3) (omega arith),
          step (y + 1) (y + 2) (omega arith),
          step (y + 0) (y + 1) (omega arith),
          ap (are_clear width body) z ∙ before,
        )
        (halves (is_clear width body (y + 0)) (is_clear width body (y + 1)) (is_clear width body (y + 2)) (is_clear width body (y + 3))
        (is_clear width body (y + 4)) (is_clear width body (y + 5)) (is_clear width body (y + 6)) (is_clear width body (y + 7))
        ∙ sym (test (eight_ends body row at) _ ends))
      where
        halves : (a b c d i j k l : Bool) → (a && b && c && d && i && j && k && l) ≡ (a && b && c && d && (i && j && k && l))
        halves a b c d i j k l = simp and_assoc

        ends : Low (padding_bits width) (eight_ends body row at)
            (is_clear width body (y + 0) && is_clear width body (y + 1) && is_clear width body (y + 2) && is_clear width body (y + 3)
            && (is_clear width body (y + 4) && is_clear width body (y + 5) && is_clear width body (y + 6) && is_clear width body (y + 7)))
        ends =
            ored
            (ored (ored (ored (end 0 at (omega arith)) (end 1 (at + row) (omega arith))) (end 2 _ refl)) (end 3 _ refl))
            (ored (ored (ored (end 4 _ refl) (end 5 _ refl)) (end 6 _ refl)) (end 7 _ refl))
