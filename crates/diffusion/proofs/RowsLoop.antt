-- From row to row of a plane: its bytes so far, and what is handed to the next row.
-- Assumes nothing.
use Prim.Native.Nat.{ℕ, suc, ◌+◌, ◌-◌, ◌*◌, ◌/◌, ◌≤◌, ◌<◌}
use mathlib.Core.Path.{◌≡◌, refl, sym, ap, ◌∙◌, subst}
use mathlib.Core.Bool.{Bool}
use mathlib.Core.List.{List, [], ◌∷◌, ◌++◌, append_assoc}
use mathlib.Core.Logic.{⊎_elim}
use native.Mathlib.Nat.{suc-mul, mul_comm}
use native.Mathlib.Numerals.{add-one}
use native.Mathlib.Omega.{arith}
use borrow.Rule.Slice.PartMut.{put_mid, post_of, same_len_mid, mid_len, take_put, drop_put}
use lib.IntN.{ℤ, sub_ℕ}
use lib.ListN.{length, get_or, take, drop, set, length-set, length-append, get_or-eq_default}
use lib.Seq.{length-take-le, take_at, drop-drop, take-suc-set, drop-set-lt}
use Rattle.laws.proofs.Products.{up_to}
use Rattle.image.specs.Geometry.{row_bytes}
use Rattle.rules.specs.Bits.{upto}
use Rattle.rules.specs.Packed.{byte_at}
use Rattle.rules.specs.Internal.Planes.{plane, scan_of, dither_bit}
use Rattle.laws.proofs.Tests.{lt-or-le}
use Rattle.rules.proofs.PlaneBytes.{div-at, mod-at}
use Rattle.rules.proofs.ListPiece.{piece, piece-length, piece-at}
use Rattle.diffusion.specs.Internal.Sums.{none, value_by, handed_down, Handed}
use Rattle.diffusion.specs.Internal.Rows.{gray_of, dot_by, row_of}
use Rattle.diffusion.specs.Internal.RowByRow.{handed_to, RowNext, PlaneLent, RowsWritten}
use Rattle.diffusion.proofs.PlaneRows.{row_of-length, row_same, rows_more}
use Rattle.diffusion.proofs.SumsCorrect.{down-small, value_same, down-same, dot-correct, handed-first, handed-next}

-- ---- the bytes

pub rows-unwritten : (w h : ℕ) (gray out : List ℕ) → RowsWritten w h gray out 0 out
unfolding upto
rows-unwritten w h gray out =
    let e : 0 * row_bytes w ≡ 0 = omega arith in
    record {
      rows = ap (λ (n : ℕ). take n out) e ∙ ap (λ (n : ℕ). upto n (byte_at w (dither_bit w gray))) (sym e);
      behind = refl;
      long = refl;
    }

module _ {w h : ℕ} {gray out₀ : List ℕ} {y : ℕ} {out : List ℕ} (fits : PlaneLent w h (length gray) (length out₀))
    (before : RowsWritten w h gray out₀ y out) (in-plane : y < h) where
  abbrev size : ℕ
  size = row_bytes w

  room : y * row_bytes w + row_bytes w ≤ length out
  room =
      let a = fits.room in
      let b = before.long in
      omega (arith, up_to (row_bytes w) y h in-plane)

  -- the bytes of row y are put in their place, whatever they are
  module _ (to : ℕ) (new : List ℕ) (at : to ≡ y * row_bytes w) (long : length new ≡ row_bytes w) where
    abbrev put : List ℕ
    put = put_mid to (to + row_bytes w - to) out new

    put-length : length put ≡ length out
    put-length =
        let r = room in
        same_len_mid to (to + row_bytes w - to) out new (let m = mid_len to (to + row_bytes w) out (omega arith) in omega arith)

    put-behind : drop (h * row_bytes w) put ≡ drop (h * row_bytes w) out
    put-behind =
        let r = room in
        let u = up_to (row_bytes w) y h in-plane in
        let k : to + row_bytes w + (h * row_bytes w - (to + row_bytes w)) ≡ h * row_bytes w = omega arith in
        let m = h * row_bytes w - (to + row_bytes w) in
        ap (λ (n : ℕ). drop n put) (sym k)
        ∙ sym (drop-drop m (to + row_bytes w) put)
        ∙ ap (drop m) (drop_put to (to + row_bytes w) out new (omega arith) (omega arith) (omega arith))
        ∙ drop-drop m (to + row_bytes w) out
        ∙ ap (λ (n : ℕ). drop n out) k

    -- the rows before stay
    pub rows_stay : RowsWritten w h gray out₀ y (put_mid to (to + row_bytes w - to) out new)
    rows_stay =
        let r = room in
        record {
          rows =
              ap (λ (n : ℕ). take n put) (sym at)
              ∙ take_put to (to + row_bytes w - to) out new (omega arith)
              ∙ ap (λ (n : ℕ). take n out) at
              ∙ before.rows;
          behind = put-behind ∙ before.behind;
          long = put-length ∙ before.long;
        }

    put_front : take (to + row_bytes w) put ≡ take to out ++ new
    put_front =
        let r = room in
        let t = length-take-le to out (omega arith) in
        ap (take (to + row_bytes w)) (sym (append_assoc (take to out) new (post_of to (to + row_bytes w - to) out)))
        ∙ take_at (take to out ++ new) (post_of to (to + row_bytes w - to) out) (to + row_bytes w)
        (length-append (take to out) new ∙ omega arith)

    -- one row more
    pub rows-put : new ≡ row_of w (λ c. dither_bit w gray (y * w + c))
        → RowsWritten w h gray out₀ (y + 1) (put_mid to (to + row_bytes w - to) out new)
    rows-put e =
        let n : (y + 1) * row_bytes w ≡ to + row_bytes w =
        ap (λ (k : ℕ). k * row_bytes w) (add-one y) ∙ suc-mul y (row_bytes w) ∙ ap (λ (k : ℕ). k + row_bytes w) (sym at) in
        record {
          rows =
              ap (λ (k : ℕ). take k put) n
              ∙ put_front
              ∙ ap (λ (k : ℕ). take k out ++ new) at
              ∙ ap (λ (l : List ℕ). l ++ new) before.rows
              ∙ ap (λ (l : List ℕ). plane w y (dither_bit w gray) ++ l) e
              ∙ sym (rows_more w (dither_bit w gray) y)
              ∙ ap (λ (k : ℕ). plane w k (dither_bit w gray)) (sym (add-one y));
          behind = put-behind ∙ before.behind;
          long = put-length ∙ before.long;
        }

-- one row of one byte more
pub byte_put : {w h : ℕ} {gray out₀ : List ℕ} {y : ℕ} {out : List ℕ} → PlaneLent w h (length gray) (length out₀) → w ≤ 8
    → RowsWritten w h gray out₀ y out → y < h
    → (b : ℕ) → b ∷ [] ≡ row_of w (λ c. dither_bit w gray (y * w + c)) → RowsWritten w h gray out₀ (y + 1) (set out y b)
byte_put {w} {h} {gray} {out₀} {y} {out} fits narrow before l b e =
    let one : row_bytes w ≡ 1 = omega (arith, fits.wide) in
    let f : h * 1 ≡ h = omega arith in
    let g : h * row_bytes w ≡ h = ap (λ (n : ℕ). h * n) one ∙ f in
    let p : (y + 1) * 1 ≡ suc y = omega arith in
    let m : (y + 1) * row_bytes w ≡ suc y = ap (λ (n : ℕ). (y + 1) * n) one ∙ p in
    let o : y ≡ y * 1 = omega arith in
    let k : y ≡ y * row_bytes w = o ∙ ap (λ (n : ℕ). y * n) (sym one) in
    let a = fits.room in
    let n = before.long in
    record {
      rows =
          ap (λ (i : ℕ). take i (set out y b)) m
          ∙ take-suc-set out y b (omega arith)
          ∙ ap (λ (i : ℕ). take i out ++ (b ∷ [])) k
          ∙ ap (λ (r : List ℕ). r ++ (b ∷ [])) before.rows
          ∙ ap (λ (r : List ℕ). plane w y (dither_bit w gray) ++ r) e
          ∙ sym (rows_more w (dither_bit w gray) y)
          ∙ ap (λ (i : ℕ). plane w i (dither_bit w gray)) (sym (add-one y));
      behind = drop-set-lt (h * row_bytes w) out y b (omega arith) ∙ before.behind;
      long = length-set out y b ∙ n;
    }

-- ---- what is handed to row y

pub record HandedSums (w : ℕ) (gray : List ℕ) (y : ℕ) (sums : ℕ → ℕ) : Type 0 where
  pub are : Handed w (scan_of w gray) y sums
  pub small : (x : ℕ) → x < w → sums x ≤ 144

pub first-sums : (w : ℕ) (gray : List ℕ) → HandedSums w gray 0 (λ x. none)
first-sums w gray = record { are = handed-first w (scan_of w gray); small = λ x h. omega arith }

module _ {w : ℕ} {gray : List ℕ} {y : ℕ} {sums : ℕ → ℕ} (bytes : (i : ℕ) → get_or gray i 0 < 256) (given : HandedSums w gray y sums) where
  abbrev shade : ℕ → ℕ
  shade x = scan_of w gray x y

  -- the dots of row y
  pub row-dots : row_of w (λ x. value_by (λ c. scan_of w gray c y) sums x / 256) ≡ row_of w (λ x. dither_bit w gray (y * w + x))
  row-dots =
      row_same w (λ x. value_by shade sums x / 256) (λ x. dither_bit w gray (y * w + x))
      (λ x l. rw (div-at w y x l, mod-at w y x l)
      (sym (dot-correct w (scan_of w gray) (λ c r. bytes (r * w + c)) y sums given.are given.small x l)))

  -- what row y hands down
  pub next-sums : (sums' : ℕ → ℕ) → ((x : ℕ) → x < w → sums' x ≡ handed_down w (λ c. scan_of w gray c y) sums x)
      → HandedSums w gray (y + 1) sums'
  next-sums sums' e =
      rw (add-one y)
      (record {
        are = λ x l. ap (λ (n : ℕ). sub_ℕ n none) (e x l)
            ∙ handed-next w (scan_of w gray) (λ c r. bytes (r * w + c)) y sums given.are given.small x l;
        small = λ x l. rw (e x l) (down-small w shade sums (λ i k. (bytes (y * w + i), given.small i k)) x l);
      })

-- ---- both, at row y, whose samples and bytes start at `at` and `to`

pub record RowsAt (w h : ℕ) (gray out₀ : List ℕ) (sums : ℕ → ℕ) (out : List ℕ) (at to y : ℕ) : Type 0 where
  pub most : y ≤ h
  pub at_is : at ≡ y * w
  pub to_is : to ≡ y * row_bytes w
  pub written : RowsWritten w h gray out₀ y out
  pub given : HandedSums w gray y sums

-- the same place, said otherwise
pub rows-moved : {w h : ℕ} {gray out₀ : List ℕ} {given : ℕ → ℕ} {out : List ℕ} {at to y : ℕ} (at' to' : ℕ)
    → RowsAt w h gray out₀ given out at to y → at ≡ at' → to ≡ to' → RowsAt w h gray out₀ given out at' to' y
rows-moved at' to' i e f = record { most = i.most; at_is = sym e ∙ i.at_is; to_is = sym f ∙ i.to_is; written = i.written; given = i.given }

-- row y of the plane
module _ {w h : ℕ} {gray out₀ : List ℕ} {sums : ℕ → ℕ} {out : List ℕ} {at to y : ℕ} (lent : PlaneLent w h (length gray) (length out₀))
    (i : RowsAt w h gray out₀ sums out at to y) (l : y < h) where
  pub row-lent : at + w ≤ length gray
  row-lent =
      let a = lent.there in
      let b = i.at_is in
      let m = mul_comm w h in
      omega (arith, up_to w y h l)

  pub row_fits : to + row_bytes w ≤ length out
  row_fits =
      let a = lent.room in
      let b = i.to_is in
      let n = i.written.long in
      omega (arith, up_to (row_bytes w) y h l)

  abbrev row : List ℕ
  row = piece gray at w

  row-long : length row ≡ w
  row-long = piece-length gray at w row-lent

  shade-is : (x : ℕ) → x < w → get_or row x 0 ≡ scan_of w gray x y
  shade-is x k = sym (piece-at gray at w x k) ∙ ap (λ (n : ℕ). get_or gray (n + x) 0) i.at_is

  module _ (bytes : (n : ℕ) → get_or gray n 0 < 256) where
    pub row-bytes : (n : ℕ) → get_or (piece gray at w) n 0 < 256
    row-bytes n =
        ⊎_elim
        (λ (k : n < w). subst (λ (g : ℕ). g < 256) (piece-at gray at w n k) (bytes (at + n)))
        (λ (k : w ≤ n). let e = row-long in rw (get_or-eq_default row 0 {n = n} (omega arith)) (omega arith))
        (lt-or-le n w)

    module _ (new : List ℕ) where
      next-rows : (sums' : ℕ → ℕ) → new ≡ row_of (length row) (dot_by row sums)
          → ((x : ℕ) → x < length row → sums' x ≡ handed_down (length row) (gray_of row) sums x)
          → RowsAt w h gray out₀ sums' (put_mid to (to + row_bytes w - to) out new) (at + w) (to + row_bytes w) (y + 1)
      next-rows sums' e d =
          let shade : ℕ → ℕ = λ c. scan_of w gray c y in
          let f : new ≡ row_of w (dot_by row sums) = subst (λ (n : ℕ). new ≡ row_of n (dot_by row sums)) row-long e in
          let long : length new ≡ row_bytes w = ap length f ∙ row_of-length w (dot_by row sums) in
          let g : new ≡ row_of w (λ x. dither_bit w gray (y * w + x)) =
          f
          ∙ row_same w (dot_by row sums) (λ x. value_by shade sums x / 256)
          (λ x k. ap (λ (v : ℕ). v / 256) (value_same w (gray_of row) shade sums sums (λ c o. (shade-is c o, refl)) x k))
          ∙ row-dots bytes i.given in
          let down : (x : ℕ) → x < w → sums' x ≡ handed_down w shade sums x = λ x k.
          subst (λ (n : ℕ). x < n → sums' x ≡ handed_down n (gray_of row) sums x) row-long (d x) k
          ∙ down-same w (gray_of row) shade sums sums (λ c o. (shade-is c o, refl)) x k in
          let a = i.at_is in
          let b = i.to_is in
          record {
            most = omega arith;
            at_is = rw (add-one y, suc-mul y w) (omega arith);
            to_is = rw (add-one y, suc-mul y (row_bytes w)) (omega arith);
            written = rows-put lent i.written l to new b long g;
            given = next-sums bytes i.given sums' down;
          }

    -- ---- the next row as `next_row` leaves it

    pub row_next : (level : Bool) (work : List ℤ) → sums ≡ handed_to level work → (r : Bool) (new : List ℕ) (work' : List ℤ)
        → RowNext level (piece gray at w) work r new work'
        → RowsAt w h gray out₀ (handed_to r work') (put_mid to (to + row_bytes w - to) out new) (at + w) (to + row_bytes w) (y + 1)
    row_next level work s r new work' n =
        next-rows new (handed_to r work')
        (n.bytes ∙ ap (λ (f : ℕ → ℕ). row_of (length row) (dot_by row f)) (sym s))
        (λ x k. n.down x k ∙ ap (λ (f : ℕ → ℕ). handed_down (length row) (gray_of row) f x) (sym s))
