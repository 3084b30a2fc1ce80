-- The bytes of a plane whose rows were converted.
use Prim.Native.Nat.{ℕ, zero, suc, ◌+◌, ◌-◌, ◌*◌, ◌≤◌, ◌<◌}
use mathlib.Core.Path.{◌≡◌, refl, ap, sym, ◌∙◌}
use mathlib.Core.Bool.{Bool, true, false}
use mathlib.Core.List.{List, ◌++◌}
use mathlib.Core.Logic.{◌⊎◌, inl, inr}
use native.Mathlib.Nat.{mul-le-mul_right}
use native.Mathlib.Omega.{arith}
use borrow.Author.Tests.{eqb-true, eqb-false, leb-true, leb-false}
use lib.Arith.{lt_of_le-ne}
use lib.Dec.{eqb, leb}
use lib.ListN.{length, get_or, take, drop, length-append, length-drop, length-set, get_or-append}
use lib.Seq.{length-take-le, get_or-append-add, get_or-take, get_or-drop}
use Rattle.image.specs.Geometry.{row_bytes}
use Rattle.image.specs.Rows.{clear_low, clear_padding, invert, row_at, convert_row, convert_rows, convert_format}
use Rattle.image.specs.declared.PixelFormat.{PixelFormat}
use Rattle.image.specs.declared.PixelFormat.TheVariants.{MonoBlack, MonoWhite}
use Rattle.image.proofs.PaddingCleared.{padding_at, cleared_at}
use Rattle.image.proofs.ConvertLoop.{rows_next, rows-stop}
use Rattle.image.proofs.InvertedBytes.{invert-length, invert-at}

-- an index that is not in row y
abbrev pub Outside : ℕ → ℕ → ℕ → ℕ → Type 0
Outside w s k y = (k < y * s) ⊎ (y * s + row_bytes w ≤ k)

-- one row
module _ (w s : ℕ) (plane : List ℕ) (y : ℕ) (there : y * s + row_bytes w ≤ length plane) where
  head-length : length (take (y * s) plane) ≡ y * s
  head-length = length-take-le (y * s) plane (omega arith)

  source-length : length (row_at (row_bytes w) s plane y) ≡ row_bytes w
  source-length = length-take-le (row_bytes w) (drop (y * s) plane) (rw length-drop (omega arith))

  abbrev new_row : List ℕ
  new_row = clear_padding w (invert (row_at (row_bytes w) s plane y))

  new-length : length new_row ≡ row_bytes w
  unfolding clear_padding
  new-length = simp length-set (invert-length (row_at (row_bytes w) s plane y) ∙ source-length)

  pub row-length : length (convert_row w s plane y) ≡ length plane
  unfolding convert_row
  row-length =
      length-append (take (y * s) plane) (new_row ++ drop (y * s + row_bytes w) plane)
      ∙ simp (length-append, length-drop) (omega (arith, head-length, new-length))

  from_row : (m : ℕ) → get_or (convert_row w s plane y) (y * s + m) 0 ≡ get_or (new_row ++ drop (y * s + row_bytes w) plane) m 0
  unfolding convert_row
  from_row m =
      ap (λ (a : ℕ). get_or (convert_row w s plane y) (a + m) 0) (sym head-length)
      ∙ get_or-append-add (take (y * s) plane) (new_row ++ drop (y * s + row_bytes w) plane) m 0

  pub in-row : (j : ℕ) → j < row_bytes w
      → get_or (convert_row w s plane y) (y * s + j) 0 ≡ clear_low (padding_at w j) (255 - get_or plane (y * s + j) 0)
  in-row j h =
      from_row j
      ∙ get_or-append new_row (drop (y * s + row_bytes w) plane) 0 j (omega (arith, new-length))
      ∙ cleared_at w (invert (row_at (row_bytes w) s plane y)) (invert-length (row_at (row_bytes w) s plane y) ∙ source-length) j h
      ∙ ap (clear_low (padding_at w j))
      (invert-at (row_at (row_bytes w) s plane y) j (omega (arith, source-length))
      ∙ ap (λ (b : ℕ). 255 - b) (get_or-take (row_bytes w) (drop (y * s) plane) j 0 h ∙ get_or-drop (y * s) plane j 0))

  pub out-of-row : (k : ℕ) → Outside w s k y → get_or (convert_row w s plane y) k 0 ≡ get_or plane k 0
  unfolding convert_row
  out-of-row k (inl h) =
      get_or-append (take (y * s) plane) (new_row ++ drop (y * s + row_bytes w) plane) 0 k (omega (arith, head-length))
      ∙ get_or-take (y * s) plane k 0 h
  out-of-row k (inr h) =
      let m = k - (y * s + row_bytes w) in
      let e : k ≡ y * s + (row_bytes w + m) = omega arith in
      let d : y * s + row_bytes w + m ≡ k = omega arith in
      ap (λ (i : ℕ). get_or (convert_row w s plane y) i 0) e
      ∙ from_row (row_bytes w + m)
      ∙ ap (λ (a : ℕ). get_or (new_row ++ drop (y * s + row_bytes w) plane) (a + m) 0) (sym new-length)
      ∙ get_or-append-add new_row (drop (y * s + row_bytes w) plane) m 0
      ∙ get_or-drop (y * s + row_bytes w) plane m 0
      ∙ ap (λ (i : ℕ). get_or plane i 0) d

-- rows from y on, all there
abbrev pub AllThere : ℕ → ℕ → ℕ → List ℕ → Type 0
AllThere w s end plane = (z : ℕ) → z < end → z * s + row_bytes w ≤ length plane

module _ (w s : ℕ) where
  still-there : (end : ℕ) (plane : List ℕ) (y : ℕ) → y * s + row_bytes w ≤ length plane → AllThere w s end plane
      → AllThere w s end (convert_row w s plane y)
  still-there end plane y h all z l = let e = row-length w s plane y h in let p = all z l in omega arith

  pub rows-length : (n y : ℕ) (plane : List ℕ) → AllThere w s (y + n) plane → length (convert_rows w s n y plane) ≡ length plane
  unfolding convert_rows
  rows-length zero y plane all = refl
  rows-length (suc n) y plane all =
      let h : y * s + row_bytes w ≤ length plane = all y (omega arith) in
      ap length (rows_next w s plane y n h)
      ∙ rows-length n (y + 1) (convert_row w s plane y) (λ z l. still-there (y + suc n) plane y h all z (omega arith))
      ∙ row-length w s plane y h

  pub rows-outside : (n y : ℕ) (plane : List ℕ) → AllThere w s (y + n) plane → (k : ℕ) → ((z : ℕ) → y ≤ z → z < y + n → Outside w s k z)
      → get_or (convert_rows w s n y plane) k 0 ≡ get_or plane k 0
  unfolding convert_rows
  rows-outside zero y plane all k out = refl
  rows-outside (suc n) y plane all k out =
      let h : y * s + row_bytes w ≤ length plane = all y (omega arith) in
      ap (λ (l : List ℕ). get_or l k 0) (rows_next w s plane y n h)
      ∙ rows-outside n (y + 1) (convert_row w s plane y) (λ z l. still-there (y + suc n) plane y h all z (omega arith)) k
      (λ z a b. out z (omega arith) (omega arith))
      ∙ out-of-row w s plane y h k (out y (omega arith) (omega arith))

  module _ (wide : row_bytes w ≤ s) (j : ℕ) (short : j < row_bytes w) where
    -- rows do not overlap
    apart : (z y : ℕ) → y < z → y * s + s ≤ z * s
    apart z y h = let p : suc y * s ≤ z * s = mul-le-mul_right s h in omega arith

    by_row : (n y : ℕ) (plane : List ℕ) → AllThere w s (y + suc n) plane → (z : ℕ) → y ≤ z → z < y + suc n → (t : Bool) → eqb y z ≡ t
        → ((plane' : List ℕ) → AllThere w s (y + 1 + n) plane' → y + 1 ≤ z
        → get_or (convert_rows w s n (y + 1) plane') (z * s + j) 0 ≡ clear_low (padding_at w j) (255 - get_or plane' (z * s + j) 0))
        → get_or (convert_rows w s (suc n) y plane) (z * s + j) 0 ≡ clear_low (padding_at w j) (255 - get_or plane (z * s + j) 0)
    by_row n y plane all z a b true e ih =
        let d : y ≡ z = eqb-true y z e in
        let h : y * s + row_bytes w ≤ length plane = all y (omega arith) in
        let m : z * s ≡ y * s = ap (λ (k : ℕ). k * s) (sym d) in
        ap (λ (l : List ℕ). get_or l (z * s + j) 0) (rows_next w s plane y n h)
        ∙ rows-outside n (y + 1) (convert_row w s plane y) (λ x l. still-there (y + suc n) plane y h all x (omega arith)) (z * s + j)
        (λ x c f. inl (let p = apart x z (omega arith) in omega arith))
        ∙ ap (λ (k : ℕ). get_or (convert_row w s plane y) (k + j) 0) m
        ∙ in-row w s plane y h j short
        ∙ ap (λ (k : ℕ). clear_low (padding_at w j) (255 - get_or plane (k + j) 0)) (sym m)
    by_row n y plane all z a b false e ih =
        let h : y * s + row_bytes w ≤ length plane = all y (omega arith) in
        let l : y < z = lt_of_le-ne a (eqb-false y z e) in
        ap (λ (l : List ℕ). get_or l (z * s + j) 0) (rows_next w s plane y n h)
        ∙ ih (convert_row w s plane y) (λ x l. still-there (y + suc n) plane y h all x (omega arith)) (omega arith)
        ∙ ap (λ (b : ℕ). clear_low (padding_at w j) (255 - b))
        (out-of-row w s plane y h (z * s + j) (inr (let p = apart z y l in omega arith)))

    pub rows_inside : (n y : ℕ) (plane : List ℕ) → AllThere w s (y + n) plane → (z : ℕ) → y ≤ z → z < y + n
        → get_or (convert_rows w s n y plane) (z * s + j) 0 ≡ clear_low (padding_at w j) (255 - get_or plane (z * s + j) 0)
    rows_inside zero y plane all z a b = let f : ⊥ = omega arith in absurd f
    rows_inside (suc n) y plane all z a b =
        by_row n y plane all z a b (eqb y z) refl (λ p there l. rows_inside n (y + 1) p there z l (omega arith))

-- converting keeps the length, whatever is there
kept-length : (w s n y : ℕ) (plane : List ℕ) → length (convert_rows w s n y plane) ≡ length plane
unfolding convert_rows
kept-length w s zero y plane = refl
kept-length w s (suc n) y plane = go (leb (y * s + row_bytes w) (length plane)) refl (kept-length w s n (y + 1))
  where
    go : (t : Bool) → leb (y * s + row_bytes w) (length plane) ≡ t → ((p : List ℕ) → length (convert_rows w s n (y + 1) p) ≡ length p)
        → length (convert_rows w s (suc n) y plane) ≡ length plane
    go true e ih =
        let h = leb-true (y * s + row_bytes w) (length plane) e in
        ap length (rows_next w s plane y n h) ∙ ih (convert_row w s plane y) ∙ row-length w s plane y h
    go false e ih = ap length (rows-stop w s plane y n (leb-false (y * s + row_bytes w) (length plane) e))

pub format-length : (f g : PixelFormat) (w h s : ℕ) (plane : List ℕ) → length (convert_format f g w h s plane) ≡ length plane
unfolding convert_format
format-length MonoBlack MonoBlack w h s plane = refl
format-length MonoBlack MonoWhite w h s plane = kept-length w s h 0 plane
format-length MonoWhite MonoBlack w h s plane = kept-length w s h 0 plane
format-length MonoWhite MonoWhite w h s plane = refl
