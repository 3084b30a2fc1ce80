-- Planes whose rows stand without gaps: all bytes at once, and then the padding, is what row by row gives.
use Prim.Native.Nat.{ℕ, zero, suc, ◌+◌, ◌-◌, ◌*◌, ◌/◌, ◌%◌, ◌≤◌, ◌<◌}
use mathlib.Core.Path.{◌≡◌, refl, ap, sym, ◌∙◌}
use mathlib.Core.Bool.{Bool, true, false}
use mathlib.Core.List.{List, [], ◌++◌, append-nil}
use mathlib.Core.Logic.{inr}
use native.Mathlib.Nat.{mul_comm, mul-le-mul_right, mod-lt, div-add-mod', div-lt_iff_lt-mul, mul-add-mod_self_right, mod-eq_of_lt, zero-add}
use native.Mathlib.Omega.{arith}
use borrow.Author.Tests.{eqb-true, eqb-false, ltb-true, ltb-false}
use lib.Arith.{lt_of_le-ne}
use lib.Dec.{eqb, ltb}
use lib.ListN.{length, get_or, take, drop, length-append, length-drop, length-set, get_or-append}
use lib.Seq.{length-take-le, take_all, drop-length, get_or-append-add, get_or-take}
use lib.Seq.{get_or-drop, get_or-set_same, get_or-set_other, ext_get_or}
use Rattle.error.specs.Choice.{if}
use Rattle.laws.proofs.Products.{up_to, some_size}
use Rattle.image.specs.Geometry.{row_bytes, plane_bytes, padding_bits}
use Rattle.image.specs.Internal.Parts.{clear_rows, Cleared}
use Rattle.image.specs.Rows.{clear_low, padded, invert, source_row, to_native, convert_rows, wire_bits}
use Rattle.image.specs.declared.PixelFormat.{PixelFormat}
use Rattle.image.specs.declared.PixelFormat.TheVariants.{MonoBlack, MonoWhite}
use Rattle.image.proofs.PaddingCleared.{padding_at}
use Rattle.image.proofs.ConvertedBytes.{AllThere, rows-length, rows-outside, rows_inside}
use Rattle.image.proofs.InvertedBytes.{invert-length, invert-at}
use Rattle.image.proofs.PlaneSizes.{byte_inside}
use Rattle.image.proofs.WireDots.{wire-byte}
use Rattle.image.proofs.WireRows.{source-there, source-length, native-length, wire-length}

module _ (w : ℕ) where
  abbrev row : ℕ
  row = row_bytes w

  pub clear-length : (h : ℕ) (plane : List ℕ) → length (clear_rows w h plane) ≡ length plane
  unfolding clear_rows
  clear-length zero plane = refl
  clear-length (suc h) plane = simp length-set (clear-length h plane)

  module _ (wide : 0 < row) where
    -- the rows after the first h are as they were
    clear-past : (h : ℕ) (plane : List ℕ) (k : ℕ) → h * row ≤ k → get_or (clear_rows w h plane) k 0 ≡ get_or plane k 0
    unfolding clear_rows
    clear-past zero plane k l = refl
    clear-past (suc h) plane k l =
        let m : suc h * row ≡ h * row + row = omega arith in
        get_or-set_other (clear_rows w h plane) (h * row + (row - 1)) k _ 0 (λ e. omega arith) ∙ clear-past h plane k (omega arith)

    -- the last row: byte j of it
    module _ (h : ℕ) (plane : List ℕ) (room : suc h * row ≤ length plane) (j : ℕ) (short : j < row) where
      by_last : (t : Bool) → eqb j (row - 1) ≡ t
          → get_or (clear_rows w (suc h) plane) (h * row + j) 0 ≡ clear_low (padding_at w j) (get_or plane (h * row + j) 0)
      unfolding clear_rows
      by_last true d =
          let l : j ≡ row - 1 = eqb-true _ _ d in
          let b : padding_bits w ≡ padding_at w j = omega arith in
          let m : suc h * row ≡ h * row + row = omega arith in
          ap (λ (k : ℕ). get_or (clear_rows w (suc h) plane) (h * row + k) 0) l
          ∙ get_or-set_same (clear_rows w h plane) (h * row + (row - 1)) _ 0 (omega (arith, clear-length h plane))
          ∙ ap (clear_low (padding_bits w)) (clear-past h plane (h * row + (row - 1)) (omega arith))
          ∙ ap (λ (k : ℕ). clear_low (padding_bits w) (get_or plane (h * row + k) 0)) (sym l)
          ∙ ap (λ (k : ℕ). clear_low k (get_or plane (h * row + j) 0)) b
      by_last false d =
          let l : j ≡ row - 1 → ⊥ = eqb-false _ _ d in
          let n : j < row - 1 = lt_of_le-ne (omega arith) l in
          let b : 0 ≡ padding_at w j = omega arith in
          let v = get_or plane (h * row + j) 0 in
          let s : v ≡ clear_low 0 v = omega arith in
          get_or-set_other (clear_rows w h plane) (h * row + (row - 1)) (h * row + j) _ 0 (λ e. omega arith)
          ∙ clear-past h plane (h * row + j) (omega arith)
          ∙ s
          ∙ ap (λ (k : ℕ). clear_low k v) b

    -- byte j of row y
    module _ (plane : List ℕ) (j : ℕ) (short : j < row) where
      by_row : (h y : ℕ) (t : Bool) → ltb y h ≡ t → suc h * row ≤ length plane → y < suc h
          → (y < h → get_or (clear_rows w h plane) (y * row + j) 0 ≡ clear_low (padding_at w j) (get_or plane (y * row + j) 0))
          → get_or (clear_rows w (suc h) plane) (y * row + j) 0 ≡ clear_low (padding_at w j) (get_or plane (y * row + j) 0)
      unfolding clear_rows
      by_row h y true e room l ih =
          let p : suc y * row ≤ h * row = mul-le-mul_right row (ltb-true y h e) in
          let m : suc y * row ≡ y * row + row = omega arith in
          get_or-set_other (clear_rows w h plane) (h * row + (row - 1)) (y * row + j) _ 0 (λ e. omega arith) ∙ ih (ltb-true y h e)
      by_row h y false e room l ih =
          let n : y ≡ h = omega (arith, ltb-false y h e) in
          ap (λ (z : ℕ). get_or (clear_rows w (suc h) plane) (z * row + j) 0) n
          ∙ by_last h plane room j short (eqb j (row - 1)) refl
          ∙ ap (λ (z : ℕ). clear_low (padding_at w j) (get_or plane (z * row + j) 0)) (sym n)

      pub clear_at : (h y : ℕ) → h * row ≤ length plane → y < h
          → get_or (clear_rows w h plane) (y * row + j) 0 ≡ clear_low (padding_at w j) (get_or plane (y * row + j) 0)
      clear_at zero y room l = let f : ⊥ = omega arith in absurd f
      clear_at (suc h) y room l =
          let m : suc h * row ≡ h * row + row = omega arith in
          by_row h y (ltb y h) refl room l (clear_at h y (omega arith))

-- two lists are equal up to a plane's end where the bytes of its rows are
module _ (w h : ℕ) (a b : List ℕ)
    (same : (y j : ℕ) → y < h → j < row_bytes w → 0 < row_bytes w → get_or a (y * row_bytes w + j) 0 ≡ get_or b (y * row_bytes w + j) 0) where
  pub rows_same : (k : ℕ) → k < h * row_bytes w → get_or a k 0 ≡ get_or b k 0
  rows_same k l =
      let r = row_bytes w in
      let p : 0 < r = some_size k h r l in
      let e : k / r * r + k % r ≡ k = div-add-mod' k r in
      ap (λ (n : ℕ). get_or a n 0) (sym e)
      ∙ same (k / r) (k % r) ((div-lt_iff_lt-mul p).1 l) (mod-lt k p) p
      ∙ ap (λ (n : ℕ). get_or b n 0) e

-- byte j of row y
pub row-padded : (w y j b : ℕ) → j < row_bytes w → padded w (y * row_bytes w + j) b ≡ clear_low (padding_at w j) b
row-padded w y j b h =
    ap (λ (k : ℕ). if (eqb (k + 1) (row_bytes w)) (clear_low (padding_bits w) b) b) (mul-add-mod_self_right y (row_bytes w) j ∙ mod-eq_of_lt h)
    ∙ go (eqb (j + 1) (row_bytes w)) refl
  where
    go : (t : Bool) → eqb (j + 1) (row_bytes w) ≡ t → if t (clear_low (padding_bits w) b) b ≡ clear_low (padding_at w j) b
    go true e =
        let l = eqb-true (j + 1) (row_bytes w) e in
        let p : padding_bits w ≡ padding_at w j = omega arith in
        ap (λ (k : ℕ). clear_low k b) p
    go false e =
        let l = eqb-false (j + 1) (row_bytes w) e in
        let p : 0 ≡ padding_at w j = omega arith in
        let s : b ≡ clear_low 0 b = omega arith in
        s ∙ ap (λ (k : ℕ). clear_low k b) p

-- row ends that are cleared are those of all rows
pub ends_rows : (w h : ℕ) (old new : List ℕ) → length old ≡ plane_bytes w h → Cleared w 0 old new → new ≡ clear_rows w h old
ends_rows w h old new e c =
    ext_get_or 0 new (clear_rows w h old) (c.same ∙ sym (clear-length w h old))
    (λ k l. rows_same w h new (clear_rows w h old) at_place k (omega (arith, e, c.same, mul_comm (row_bytes w) h)))
  where
    at_place : (y j : ℕ) → y < h → j < row_bytes w → 0 < row_bytes w
        → get_or new (y * row_bytes w + j) 0 ≡ get_or (clear_rows w h old) (y * row_bytes w + j) 0
    at_place y j a b p =
        let b₀ = get_or old (y * row_bytes w + j) 0 in
        c.byte (y * row_bytes w + j) (omega (arith, e, byte_inside w h y j a b))
        ∙ ap (λ (n : ℕ). padded w n b₀) (zero-add (y * row_bytes w + j))
        ∙ row-padded w y j b₀ b
        ∙ sym (clear_at w p old j b h y (omega (arith, e, mul_comm (row_bytes w) h)) a)

-- a plane with room for all rows
module _ (w h : ℕ) (plane : List ℕ) (room : plane_bytes w h ≤ length plane) where
  abbrev total : ℕ
  total = plane_bytes w h

  total-is : total ≡ h * row_bytes w
  total-is = mul_comm (row_bytes w) h

  front_length : length (take total plane) ≡ total
  front_length = length-take-le total plane room

  there : AllThere w (row_bytes w) (0 + h) plane
  there z l = omega (arith, up_to (row_bytes w) z h (omega arith), total-is)

  in-total : (y j : ℕ) → y < h → j < row_bytes w → y * row_bytes w + j < total
  in-total = byte_inside w h

  -- ---- another format

  abbrev new : List ℕ
  new = clear_rows w h (invert (take total plane))

  new-length : length new ≡ total
  new-length = clear-length w h (invert (take total plane)) ∙ invert-length (take total plane) ∙ front_length

  abbrev whole : List ℕ
  whole = convert_rows w (row_bytes w) h 0 plane

  row_same : (y j : ℕ) → y < h → j < row_bytes w → 0 < row_bytes w
      → get_or whole (y * row_bytes w + j) 0 ≡ get_or (new ++ drop total plane) (y * row_bytes w + j) 0
  row_same y j l k p =
      let i = y * row_bytes w + j in
      let b : i < total = in-total y j l k in
      rows_inside w (row_bytes w) (omega arith) j k h 0 plane there y (omega arith) (omega arith)
      ∙ ap (λ (n : ℕ). clear_low (padding_at w j) (255 - n)) (sym (get_or-take total plane i 0 b))
      ∙ ap (clear_low (padding_at w j)) (sym (invert-at (take total plane) i (omega (arith, front_length))))
      ∙ sym (clear_at w p (invert (take total plane)) j k h y (omega (arith, invert-length (take total plane), front_length, total-is)) l)
      ∙ sym (get_or-append new (drop total plane) 0 i (omega (arith, new-length)))

  after_same : (k : ℕ) → total ≤ k → get_or whole k 0 ≡ get_or (new ++ drop total plane) k 0
  after_same k l =
      let m = k - total in
      let e : total + m ≡ k = omega arith in
      rows-outside w (row_bytes w) h 0 plane there k (λ z a b. inr (let q = in_rows z (omega arith) in omega arith))
      ∙ ap (λ (n : ℕ). get_or plane n 0) (sym e)
      ∙ sym (get_or-drop total plane m 0)
      ∙ sym (get_or-append-add new (drop total plane) m 0)
      ∙ ap (λ (n : ℕ). get_or (new ++ drop total plane) (n + m) 0) new-length
      ∙ ap (λ (n : ℕ). get_or (new ++ drop total plane) n 0) e
    where
      in_rows : (z : ℕ) → z < h → z * row_bytes w + row_bytes w ≤ total
      in_rows z l = omega (arith, up_to (row_bytes w) z h l, total-is)

  byte-same : (k : ℕ) (t : Bool) → ltb k total ≡ t → get_or whole k 0 ≡ get_or (new ++ drop total plane) k 0
  byte-same k true e = rows_same w h whole (new ++ drop total plane) row_same k (omega (arith, ltb-true k total e, total-is))
  byte-same k false e = after_same k (ltb-false k total e)

  pub converts-at-once : new ++ drop total plane ≡ whole
  converts-at-once =
      sym (ext_get_or 0 whole (new ++ drop total plane)
      (rows-length w (row_bytes w) h 0 plane there
      ∙ sym (length-append new (drop total plane) ∙ simp length-drop (omega (arith, new-length))))
      (λ k l. byte-same k (ltb k total) refl))

  -- a plane of just these bytes
  pub all-at-once : length plane ≡ total → clear_rows w h (invert plane) ≡ whole
  all-at-once e =
      let t : take total plane ≡ plane = take_all total plane (omega arith) in
      let d : drop total plane ≡ [] = ap (λ (n : ℕ). drop n plane) (sym e) ∙ drop-length plane in
      ap (λ (l : List ℕ). clear_rows w h (invert l)) (sym t) ∙ sym (append-nil new) ∙ ap (λ (l : List ℕ). new ++ l) (sym d)
      ∙ converts-at-once

  -- ---- the wire

  module _ (f : PixelFormat) where
    abbrev wires : List ℕ
    wires = clear_rows w h (to_native f (take total plane))

    wires-length : length wires ≡ total
    wires-length = clear-length w h (to_native f (take total plane)) ∙ native-length f (take total plane) ∙ front_length

    source-same : (y j : ℕ) → y < h → j < row_bytes w
        → get_or (source_row (row_bytes w) (row_bytes w) plane y) j 0 ≡ get_or (take total plane) (y * row_bytes w + j) 0
    source-same y j l k =
        ap (λ (r : List ℕ). get_or r j 0) (source-there (row_bytes w) (row_bytes w) plane y (there y (omega arith)))
        ∙ get_or-take (row_bytes w) (drop (y * row_bytes w) plane) j 0 k
        ∙ get_or-drop (y * row_bytes w) plane j 0
        ∙ sym (get_or-take total plane (y * row_bytes w + j) 0 (in-total y j l k))

    native-same : (g : PixelFormat) (y j : ℕ) → y < h → j < row_bytes w
        → get_or (to_native g (source_row (row_bytes w) (row_bytes w) plane y)) j 0 ≡ get_or (to_native g (take total plane)) (y * row_bytes w + j) 0
    native-same MonoBlack y j l k = source-same y j l k
    native-same MonoWhite y j l k =
        invert-at (source_row (row_bytes w) (row_bytes w) plane y) j (omega (arith, source-length (row_bytes w) (row_bytes w) plane y))
        ∙ ap (λ (b : ℕ). 255 - b) (source-same y j l k)
        ∙ sym (invert-at (take total plane) (y * row_bytes w + j) (omega (arith, front_length, in-total y j l k)))

    pub wires-at-once : wires ≡ wire_bits f w h (row_bytes w) plane
    wires-at-once =
        let long = wire-length f w (row_bytes w) plane h in
        ext_get_or 0 wires (wire_bits f w h (row_bytes w) plane)
        (wires-length ∙ total-is ∙ sym long)
        (λ k l. rows_same w h wires (wire_bits f w h (row_bytes w) plane) (λ y j b c p.
        clear_at w p (to_native f (take total plane)) j c h y (omega (arith, native-length f (take total plane), front_length, total-is)) b
        ∙ ap (clear_low (padding_at w j)) (sym (native-same f y j b c))
        ∙ sym (wire-byte f w (row_bytes w) plane j c h y b))
        k (omega (arith, wires-length, total-is)))
