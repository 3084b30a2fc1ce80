-- The padding of the rows that end in a stretch of a plane is cleared row end by row end.
use Prim.Native.Nat.{ℕ, suc, ◌+◌, ◌-◌, ◌*◌, ◌/◌, ◌%◌, ◌≤◌, ◌<◌}
use mathlib.Core.Path.{◌≡◌, refl, sym, ap, subst, ◌∙◌}
use mathlib.Core.Bool.{Bool, true, false}
use mathlib.Core.List.{List}
use native.Mathlib.Nat.{div-add-mod', mul-add-mod_self_right, mod-eq_of_lt, mod-lt, add-mod_right, mul-le-mul_right, le-div_iff_mul-le, div-lt_iff_lt-mul}
use native.Mathlib.Decide.{dec_lt}
use native.Mathlib.Omega.{arith}
use borrow.Author.Tests.{eq-eqb, ne_eqb}
use lib.Bits.{bit_and}
use lib.Dec.{eqb}
use lib.ListN.{length, get_or, set, length-set}
use lib.Seq.{get_or-set_same, get_or-set_other}
use Rattle.error.specs.Choice.{if}
use Rattle.laws.proofs.Tests.{if-true, if-false}
use Rattle.image.specs.Geometry.{row_bytes, padding_bits, padding_mask}
use Rattle.image.proofs.MaskClears.{mask_low}
use Rattle.image.specs.Rows.{clear_low, padded}
use Rattle.image.specs.Internal.Parts.{Cleared}

-- two row ends are a row or more apart
apart : (row x y : ℕ) → x % row + 1 ≡ row → y % row + 1 ≡ row → x < y → x + row ≤ y
apart row x y p q h =
    elim (dec_lt (x / row) (y / row)) [
      | yes l ↦ let m : (x / row + 1) * row ≤ y / row * row =
          mul-le-mul_right row (omega arith) in omega (arith, div-add-mod' x row, div-add-mod' y row)
      | no g ↦
          let m : y / row * row ≤ x / row * row = mul-le-mul_right row (omega arith) in
          let z : ⊥ = omega (arith, div-add-mod' x row, div-add-mod' y row) in
          absurd z
    ]

-- the first row end at or behind a byte
first-end : (row at : ℕ) → 0 < row → (at + (row - 1 - at % row)) % row + 1 ≡ row
first-end row at h =
    let l = mod-lt at h in
    let e : at + (row - 1 - at % row) ≡ at / row * row + (row - 1) = omega (arith, div-add-mod' at row) in
    let m : (row - 1) % row ≡ row - 1 = mod-eq_of_lt (omega arith) in
    let k : (at + (row - 1 - at % row)) % row ≡ row - 1 = ap (λ (n : ℕ). n % row) e ∙ mul-add-mod_self_right (at / row) row (row - 1) ∙ m in
    omega arith

module _ (w k b : ℕ) where
  padded-end : k % row_bytes w + 1 ≡ row_bytes w → padded w k b ≡ clear_low (padding_bits w) b
  padded-end e = if-true (eqb (k % row_bytes w + 1) (row_bytes w)) _ _ (eq-eqb _ _ e)

  padded-inside : (k % row_bytes w + 1 ≡ row_bytes w → ⊥) → padded w k b ≡ b
  padded-inside e = if-false (eqb (k % row_bytes w + 1) (row_bytes w)) _ _ (ne_eqb _ _ e)

  padded-none : w % 8 ≡ 0 → padded w k b ≡ b
  padded-none e = go (eqb (k % row_bytes w + 1) (row_bytes w))
    where
      go : (t : Bool) → if t (clear_low (padding_bits w) b) b ≡ b
      go true =
          let z : padding_bits w ≡ 0 = omega arith in
          let s : clear_low 0 b ≡ b = omega arith in
          ap (λ (n : ℕ). clear_low n b) z ∙ s
      go false = refl

-- rows have no padding
pub cleared-none : (w at : ℕ) (l : List ℕ) → w % 8 ≡ 0 → Cleared w at l l
cleared-none w at l e = record { same = refl; byte = λ j h. sym (padded-none w (at + j) (get_or l j 0) e) }

-- the row ends before `last`, which is one, are cleared
pub record Clearing (w at row mask : ℕ) (old new : List ℕ) (last : ℕ) : Type 0 where
  pub row_is : row ≡ row_bytes w
  pub mask_is : mask ≡ padding_mask w
  pub wide : 0 < row
  pub same : length new ≡ length old
  pub aligned : (at + last) % row_bytes w + 1 ≡ row_bytes w
  pub before : (j : ℕ) → j < last → get_or new j 0 ≡ padded w (at + j) (get_or old j 0)
  pub behind : (j : ℕ) → last ≤ j → get_or new j 0 ≡ get_or old j 0

pub begins : (w at row mask : ℕ) (l : List ℕ) → row ≡ row_bytes w → mask ≡ padding_mask w → 0 < row
    → Clearing w at row mask l l (row - 1 - at % row)
begins w at row mask l p q h =
    let a : (at + (row - 1 - at % row)) % row_bytes w + 1 ≡ row_bytes w =
    subst (λ (r : ℕ). (at + (row - 1 - at % row)) % r + 1 ≡ r) p (first-end row at h) in
    record {
      row_is = p;
      mask_is = q;
      wide = h;
      same = refl;
      aligned = a;
      before =
          λ j k. sym
          (padded-inside w (at + j) (get_or l j 0)
          (λ e. let far = apart (row_bytes w) (at + j) (at + (row - 1 - at % row)) e a (omega arith) in omega arith));
      behind = λ j k. refl;
    }

module _ {w at row mask : ℕ} {old new : List ℕ} {last : ℕ} (c : Clearing w at row mask old new last) where
  pub goes_on : last < length new → get_or new last 0 < 256
      → Clearing w at row mask old (set new last (bit_and (get_or new last 0) mask)) (last + row)
  goes_on h small =
      let r = c.row_is in
      let here = c.aligned in
      record {
        row_is = c.row_is;
        mask_is = c.mask_is;
        wide = c.wide;
        same = length-set new last _ ∙ c.same;
        aligned =
            (let e : at + (last + row) ≡ at + last + row_bytes w = omega arith in
            ap (λ (n : ℕ). n % row_bytes w + 1) e ∙ ap (λ (n : ℕ). n + 1) (add-mod_right (at + last) (row_bytes w)) ∙ here);
        before = λ j k. at_byte j k (dec_lt j last) (dec_lt last j);
        behind = λ j k. get_or-set_other new last j _ 0 (λ e. omega (arith, c.wide)) ∙ c.behind j (omega arith);
      }
    where
      value : ℕ
      value = bit_and (get_or new last 0) mask

      cleared : value ≡ padded w (at + last) (get_or old last 0)
      cleared =
          ap (bit_and (get_or new last 0)) c.mask_is
          ∙ mask_low (padding_bits w) (get_or new last 0) (omega arith) small
          ∙ ap (clear_low (padding_bits w)) (c.behind last (omega arith))
          ∙ sym (padded-end w (at + last) (get_or old last 0) c.aligned)

      at_byte : (j : ℕ) → j < last + row → Dec (j < last) → Dec (last < j)
          → get_or (set new last value) j 0 ≡ padded w (at + j) (get_or old j 0)
      at_byte j k (yes l) d = get_or-set_other new last j value 0 (λ e. omega arith) ∙ c.before j l
      at_byte j k (no l) (yes g) =
          get_or-set_other new last j value 0 (λ e. omega arith) ∙ c.behind j (omega arith)
          ∙ sym
          (padded-inside w (at + j) (get_or old j 0)
          (λ e. let far = apart (row_bytes w) (at + last) (at + j) c.aligned e (omega arith) in omega (arith, c.row_is)))
      at_byte j k (no l) (no g) =
          let e : j ≡ last = omega arith in
          ap (λ (n : ℕ). get_or (set new last value) n 0) e ∙ get_or-set_same new last value 0 h ∙ cleared
          ∙ ap (λ (n : ℕ). padded w (at + n) (get_or old n 0)) (sym e)

  pub ends : length new ≤ last → Cleared w at old new
  ends h = record { same = c.same; byte = λ j k. c.before j (omega (arith, c.same)) }

-- the first y row ends are cleared, where `begun` bytes of the first row stand before these
pub record ClearedTo (w at row mask begun : ℕ) (old new : List ℕ) (y : ℕ) : Type 0 where
  pub begun_is : begun ≡ at % row
  pub within : y ≤ (begun + length old) / row
  pub clearing : Clearing w at row mask old new (y * row + (row - 1 - begun))

pub none-yet : (w at row mask begun : ℕ) (l : List ℕ) → row ≡ row_bytes w → mask ≡ padding_mask w → 0 < row → begun ≡ at % row
    → ClearedTo w at row mask begun l l 0
none-yet w at row mask begun l p q h b =
    let e : row - 1 - at % row ≡ 0 * row + (row - 1 - begun) = omega arith in
    record { begun_is = b; within = omega arith; clearing = subst (Clearing w at row mask l l) e (begins w at row mask l p q h) }

module _ {w at row mask begun : ℕ} {old new : List ℕ} {y : ℕ} (c : ClearedTo w at row mask begun old new y) where
  abbrev last : ℕ
  last = y * row + (row - 1 - begun)

  short : begun < row
  short = omega (arith, c.begun_is, mod-lt at c.clearing.wide)

  pub end-in : y < (begun + length old) / row → last < length new
  end-in h =
      let m : suc y * row ≤ begun + length old = (le-div_iff_mul-le c.clearing.wide).0 h in
      let e : suc y * row ≡ y * row + row = omega arith in
      omega (arith, short, c.clearing.same)

  pub next-row : y < (begun + length old) / row → get_or new last 0 < 256
      → ClearedTo w at row mask begun old (set new last (bit_and (get_or new last 0) mask)) (y + 1)
  next-row h small =
      let e : last + row ≡ (y + 1) * row + (row - 1 - begun) = omega arith in
      record {
        begun_is = c.begun_is;
        within = omega arith;
        clearing = subst (Clearing w at row mask old (set new last (bit_and (get_or new last 0) mask))) e (goes_on c.clearing (end-in h) small);
      }

  pub all-rows : (begun + length old) / row ≤ y → Cleared w at old new
  all-rows h =
      let m : begun + length old < suc y * row = (div-lt_iff_lt-mul c.clearing.wide).0 (omega arith) in
      let e : suc y * row ≡ y * row + row = omega arith in
      ends c.clearing (omega (arith, short, c.clearing.same))
