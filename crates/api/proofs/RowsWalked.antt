-- A walk down the last bytes of rows, whose padding is clear so far.
use Prim.Native.Nat.{ℕ, ◌+◌, ◌-◌, ◌*◌, ◌≤◌, ◌<◌}
use mathlib.Core.Path.{◌≡◌, sym, ap, ◌∙◌, subst}
use mathlib.Core.Bool.{true, false}
use mathlib.Core.List.{List}
use native.Mathlib.Omega.{arith}
use borrow.Author.Tests.{eq-eqb, ne_eqb}
use lib.Bits.{bit_and}
use lib.Dec.{eqb}
use lib.ListN.{get_or}
use Rattle.laws.proofs.Octets.{Octets}
use Rattle.api.specs.Sniff.{are_clear}
use Rattle.api.specs.Internal.Parts.{Rows, AreClear, eight_ends}
use Rattle.api.proofs.RowsClear.{none, one, eight, dirty-on}

pub record Walked (body : List ℕ) (row mask rows y : ℕ) : Type 0 where
  pub within : y ≤ rows
  pub clear : AreClear body row mask y true

module _ (body : List ℕ) (row mask rows : ℕ) where
  pub begun : Walked body row mask rows 0
  begun = record { within = omega arith; clear = λ width r. none width body }

  module _ (y : ℕ) (w : Walked body row mask rows y) where
    pub ended : rows ≤ y → AreClear body row mask rows true
    ended l = let e : y ≡ rows = omega (arith, w.within) in subst (λ (n : ℕ). AreClear body row mask n true) e w.clear

    -- a test of the byte b tells whether k rows more are clear
    module _ (k b : ℕ) (inside : y + k ≤ rows)
        (told : (width : ℕ) → Rows width row mask → are_clear width body (y + k) ≡ eqb (bit_and b mask) b) where
      on : bit_and b mask ≡ b → Walked body row mask rows (y + k)
      on e = record { within = inside; clear = λ width r. sym (told width r ∙ eq-eqb _ _ e) }

      off : (bit_and b mask ≡ b → ⊥) → AreClear body row mask rows false
      off d width r = dirty-on width body (y + k) rows (told width r ∙ ne_eqb _ _ d) inside

    -- the last byte of row y
    module _ (bytes : Octets body) (at : ℕ) (at_is : at ≡ y * row + (row - 1)) where
      one_told : (width : ℕ) → Rows width row mask → are_clear width body (y + 1) ≡ eqb (bit_and (get_or body at 0) mask) (get_or body at 0)
      one_told width r = one width body row mask y at r bytes at_is (sym (w.clear width r))

      pub one_on : y < rows → bit_and (get_or body at 0) mask ≡ get_or body at 0 → Walked body row mask rows (y + 1)
      one_on l = on 1 (get_or body at 0) (omega arith) one_told

      pub one-off : y < rows → (bit_and (get_or body at 0) mask ≡ get_or body at 0 → ⊥) → AreClear body row mask rows false
      one-off l = off 1 (get_or body at 0) (omega arith) one_told

      module _ (b : ℕ) (made : b ≡ eight_ends body row at) (inside : y + 7 < rows) where
        eight-told : (width : ℕ) → Rows width row mask → are_clear width body (y + 8) ≡ eqb (bit_and b mask) b
        eight-told width r =
            eight width body row mask y at r bytes at_is (sym (w.clear width r)) ∙ ap (λ (n : ℕ). eqb (bit_and n mask) n) (sym made)

        pub eight-on : bit_and b mask ≡ b → Walked body row mask rows (y + 8)
        eight-on = on 8 b (omega arith) eight-told

        pub eight-off : (bit_and b mask ≡ b → ⊥) → AreClear body row mask rows false
        eight-off = off 8 b (omega arith) eight-told
