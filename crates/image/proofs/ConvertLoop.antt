-- The loop of `convert_format`.
use Prim.Native.Nat.{ℕ, suc, ◌+◌, ◌-◌, ◌*◌, ◌≤◌, ◌<◌}
use mathlib.Core.Path.{◌≡◌, refl, sym, ap, ◌∙◌}
use mathlib.Core.List.{List}
use native.Mathlib.Omega.{arith}
use borrow.Author.Tests.{le-leb, lt-leb, eq-eqb, ne_eqb}
use borrow.Rule.Slice.PartMut.{mid_of, put_mid, Post-is, same_len_mid}
use lib.ListN.{length, length-set}
use Rattle.laws.proofs.Tests.{zero_one}
use Rattle.image.specs.Format.{white_bit}
use Rattle.image.specs.Geometry.{row_bytes, padding_mask}
use Rattle.image.specs.Internal.Parts.{mask_last}
use Rattle.image.specs.Rows.{invert, row_at, clear_padding, convert_row, convert_rows, convert_format}
use Rattle.image.specs.declared.PixelFormat.{PixelFormat}
use Rattle.image.specs.declared.PixelFormat.TheVariants.{MonoBlack, MonoWhite}
use Rattle.image.specs.declared.PlaneLayout.{PlaneLayout}
use Rattle.image.proofs.InvertedBytes.{invert-length}
use Rattle.image.proofs.MaskClears.{bytes-inverted, mask-clears}
use Rattle.image.proofs.RowStarts.{Started}

-- what is left to convert gives what converting everything gives
pub record Converting (plane₀ : List ℕ) (w h s row mask : ℕ) (plane : List ℕ) (y : ℕ) : Type 0 where
  pub row_is : row ≡ row_bytes w
  pub mask_is : mask ≡ padding_mask w
  pub within : y ≤ h
  pub same : length plane ≡ length plane₀
  pub rest : convert_rows w s (h - y) y plane ≡ convert_rows w s h 0 plane₀

pub begun : (plane : List ℕ) (s : ℕ) (l : PlaneLayout) → Converting plane l.width l.height s l.stride l.last_byte_pad_mask plane 0
begun plane s l =
    record {
      row_is = l.stride_is;
      mask_is = l.mask_is;
      within = omega arith;
      same = refl;
      rest = let n : l.height - 0 ≡ l.height = omega arith in rw n;
    }

module _ (w s : ℕ) (plane : List ℕ) (y : ℕ) where
  pub rows_next : (n : ℕ) → y * s + row_bytes w ≤ length plane
      → convert_rows w s (suc n) y plane ≡ convert_rows w s n (y + 1) (convert_row w s plane y)
  unfolding convert_rows
  rows_next n h = rw (le-leb (y * s + row_bytes w) (length plane) h)

  pub rows-stop : (n : ℕ) → length plane < y * s + row_bytes w → convert_rows w s (suc n) y plane ≡ plane
  unfolding convert_rows
  rows-stop n h = rw (lt-leb (y * s + row_bytes w) (length plane) h)

  -- a row that comes back
  row_back : (at row mask : ℕ) (new : List ℕ) → at ≡ y * s → row ≡ row_bytes w → mask ≡ padding_mask w
      → new ≡ mask_last mask (invert (mid_of at (at + row - at) plane))
      → put_mid at (at + row - at) plane new ≡ convert_row w s plane y
  unfolding convert_row
  row_back at row mask new p q r e =
      let n : at + row - at ≡ row_bytes w = omega arith in
      let m : mask_last mask (invert (mid_of at (at + row - at) plane)) ≡ clear_padding w (invert (row_at (row_bytes w) s plane y)) =
      rw (n, p, r) (mask-clears w (invert (row_at (row_bytes w) s plane y)) (bytes-inverted (row_at (row_bytes w) s plane y))) in
      rw (Post-is at (at + row) plane (omega arith), e, m, p, q)

module _ {plane₀ : List ℕ} {w h s row mask : ℕ} {plane : List ℕ} {y : ℕ} (c : Converting plane₀ w h s row mask plane y) where
  pub converted : (at : ℕ) (new : List ℕ) → y < h → Started (length plane) s y row at
      → new ≡ mask_last mask (invert (mid_of at (at + row - at) plane))
      → Converting plane₀ w h s row mask (put_mid at (at + row - at) plane new) (y + 1)
  converted at new k st e =
      let b = row_back w s plane y at row mask new st.place c.row_is c.mask_is e in
      let n : h - y ≡ suc (h - (y + 1)) = omega arith in
      let long : length new ≡ length (mid_of at (at + row - at) plane) = ap length e ∙ simp (length-set, invert-length) in
      record {
        row_is = c.row_is;
        mask_is = c.mask_is;
        within = omega arith;
        same = same_len_mid at (at + row - at) plane new long ∙ c.same;
        rest =
            ap (convert_rows w s (h - (y + 1)) (y + 1)) b
            ∙ sym (rows_next w s plane y (h - (y + 1)) (omega (arith, st.room, c.row_is)))
            ∙ ap (λ (k : ℕ). convert_rows w s k y plane) (sym n)
            ∙ c.rest;
      }

  pub stopped : y < h → length plane < y * s + row → plane ≡ convert_rows w s h 0 plane₀
  stopped k m =
      let n : h - y ≡ suc (h - (y + 1)) = omega arith in
      sym (rows-stop w s plane y (h - (y + 1)) (omega (arith, c.row_is))) ∙ ap (λ (k : ℕ). convert_rows w s k y plane) (sym n) ∙ c.rest

  pub ended : h ≤ y → plane ≡ convert_rows w s h 0 plane₀
  unfolding convert_rows
  ended k =
      let n : h - y ≡ 0 = omega arith in
      (rw n at c.rest)

-- formats by the bit that means white
same-format : (f g : PixelFormat) → white_bit f ≡ white_bit g → f ≡ g
same-format MonoBlack MonoBlack e = refl
same-format MonoBlack MonoWhite e = zero_one (sym e)
same-format MonoWhite MonoBlack e = zero_one e
same-format MonoWhite MonoWhite e = refl

module _ (f g : PixelFormat) (w h s : ℕ) (plane : List ℕ) where
  pub unchanged : f ≡ g → plane ≡ convert_format f g w h s plane
  unfolding convert_format
  unchanged e = rw (eq-eqb (white_bit f) (white_bit g) (ap white_bit e))

  pub changed : (f ≡ g → ⊥) → convert_rows w s h 0 plane ≡ convert_format f g w h s plane
  unfolding convert_format
  changed e = rw (ne_eqb (white_bit f) (white_bit g) (λ p. e (same-format f g p)))
