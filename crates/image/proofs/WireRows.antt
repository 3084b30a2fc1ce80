-- The loop of `wire_bits`.
use Prim.Native.Nat.{ℕ, zero, suc, ◌+◌, ◌-◌, ◌*◌, ◌≤◌, ◌<◌}
use mathlib.Core.Path.{◌≡◌, refl, sym, ap, ◌∙◌}
use mathlib.Core.Bool.{Bool, true, false}
use mathlib.Core.List.{List, ◌++◌, append_assoc}
use native.Mathlib.Nat.{mul_comm, mul-le-mul_right}
use native.Mathlib.Numerals.{add-one}
use native.Mathlib.Omega.{arith}
use borrow.Author.Tests.{leb-true, le-leb}
use borrow.Rule.Slice.PartMut.{mid_of, put_mid, Post-is, mid_len}
use lib.ListN.{length, drop, length-set, replicate, length-append, length-replicate, length-drop}
use lib.Seq.{take_at, drop-drop, drop-append-add}
use Rattle.error.specs.Choice.{if}
use Rattle.laws.proofs.Lists.{length_part}
use Rattle.laws.proofs.Octets.{Octets}
use Rattle.image.specs.Geometry.{row_bytes, plane_bytes, padding_mask}
use Rattle.image.specs.Internal.Parts.{mask_last}
use Rattle.image.specs.Rows.{clear_padding, row_at, is_present, source_row, to_native, wire_row, wire_bits}
use Rattle.image.specs.declared.PixelFormat.{PixelFormat}
use Rattle.image.specs.declared.PixelFormat.TheVariants.{MonoBlack, MonoWhite}
use Rattle.image.specs.declared.PlaneLayout.{PlaneLayout}
use Rattle.image.proofs.InvertedBytes.{invert-length}
use Rattle.image.proofs.MaskClears.{bytes-source, bytes-native, mask-clears}

module _ (n s : ℕ) (plane : List ℕ) (y : ℕ) where
  pub source-there : y * s + n ≤ length plane → source_row n s plane y ≡ row_at n s plane y
  source-there h = rw (le-leb (y * s + n) (length plane) h)

  by_length : (t : Bool) → is_present n s plane y ≡ t → length (if t (row_at n s plane y) (replicate n 0)) ≡ n
  by_length true e = length_part n (y * s) plane (leb-true (y * s + n) (length plane) e)
  by_length false e = length-replicate n 0

  pub source-length : length (source_row n s plane y) ≡ n
  source-length = by_length (is_present n s plane y) refl

pub native-length : (f : PixelFormat) (l : List ℕ) → length (to_native f l) ≡ length l
native-length MonoBlack l = refl
native-length MonoWhite l = invert-length l

module _ (f : PixelFormat) (w s : ℕ) (plane : List ℕ) where
  pub row-length : (y : ℕ) → length (wire_row f w s plane y) ≡ row_bytes w
  unfolding wire_row clear_padding
  row-length y = simp length-set (native-length f _ ∙ source-length (row_bytes w) s plane y)

  pub wire-length : (h : ℕ) → length (wire_bits f w h s plane) ≡ h * row_bytes w
  unfolding wire_bits
  wire-length zero = omega arith
  wire-length (suc h) =
      length-append (wire_bits f w h s plane) (wire_row f w s plane h)
      ∙ (let p = wire-length h in let q = row-length h in omega arith)

-- the rows before y are written
pub record Wiring (plane : List ℕ) (w h s : ℕ) (f : PixelFormat) (out₀ : List ℕ) (row mask : ℕ) (out : List ℕ) (y : ℕ) : Type 0 where
  pub row_is : row ≡ row_bytes w
  pub mask_is : mask ≡ padding_mask w
  pub within : y ≤ h
  pub room : plane_bytes w h ≤ length out₀
  pub now_is : out ≡ wire_bits f w y s plane ++ drop (y * row) out₀

pub begun : (plane : List ℕ) (s : ℕ) (f : PixelFormat) (out : List ℕ) (l : PlaneLayout)
    → plane_bytes l.width l.height ≤ length out → Wiring plane l.width l.height s f out l.stride l.last_byte_pad_mask out 0
unfolding wire_bits
begun plane s f out l k = record { row_is = l.stride_is; mask_is = l.mask_is; within = omega arith; room = k; now_is = ap (λ (n : ℕ). drop n out) (let z : 0 ≡ 0 * l.stride = omega arith in z) }

module _ {plane : List ℕ} {w h s : ℕ} {f : PixelFormat} {out₀ : List ℕ} {row mask : ℕ} {out : List ℕ} {y : ℕ}
    (c : Wiring plane w h s f out₀ row mask out y) where
  front : length (wire_bits f w y s plane) ≡ y * row
  front = wire-length f w s plane y ∙ ap (λ (k : ℕ). y * k) (sym c.row_is)

  -- so many rows are as long as the output at most
  inside : {k : ℕ} → k ≤ h → k * row ≤ length out₀
  inside {k} l =
      let p : k * row ≤ h * row = mul-le-mul_right row l in
      let q : plane_bytes w h ≡ h * row = mul_comm (row_bytes w) h ∙ ap (λ (k : ℕ). h * k) (sym c.row_is) in
      omega (arith, c.room)

  pub kept-length : length out ≡ length out₀
  kept-length =
      ap length c.now_is ∙ length-append (wire_bits f w y s plane) (drop (y * row) out₀) ∙ simp length-drop (omega (arith, front, inside c.within))

  pub next_fits : y < h → y * row + row ≤ length out
  next_fits k =
      let p : (y + 1) * row ≤ length out₀ = inside (omega arith) in
      let q : (y + 1) * row ≡ y * row + row = omega arith in
      omega (arith, kept-length)

  -- what stands after the next row
  back : drop (y * row + row) (wire_bits f w y s plane ++ drop (y * row) out₀) ≡ drop (y * row + row) out₀
  back =
      ap (λ (k : ℕ). drop (k + row) (wire_bits f w y s plane ++ drop (y * row) out₀)) (sym front)
      ∙ drop-append-add (wire_bits f w y s plane) (drop (y * row) out₀) row
      ∙ drop-drop row (y * row) out₀

  pub wired : (new : List ℕ) → Octets plane → y < h
      → new ≡ mask_last mask (to_native f (source_row (length (mid_of (y * row) (y * row + row - y * row) out)) s plane y))
      → Wiring plane w h s f out₀ row mask (put_mid (y * row) (y * row + row - y * row) out new) (y + 1)
  unfolding wire_bits wire_row
  wired new b k e =
      let at = y * row in
      let n : at + row - at ≡ row_bytes w = omega (arith, c.row_is) in
      let mid : length (mid_of at (at + row - at) out) ≡ row_bytes w = mid_len at (at + row) out (next_fits k) ∙ n in
      let row_new : new ≡ wire_row f w s plane y =
      e ∙ rw (mid, c.mask_is)
      (mask-clears w (to_native f (source_row (row_bytes w) s plane y)) (bytes-native f _ (bytes-source (row_bytes w) s plane y b))) in
      let next : (y + 1) * row ≡ at + row = omega arith in
      record {
        row_is = c.row_is;
        mask_is = c.mask_is;
        within = omega arith;
        room = c.room;
        now_is =
            rw (
              Post-is at (at + row) out (omega arith),
              c.now_is,
              take_at (wire_bits f w y s plane)
                  (drop at out₀) at front,
              back,
              row_new,
              next,
              add-one y,
            )
            (sym (append_assoc (wire_bits f w y s plane) (wire_row f w s plane y) (drop (at + row) out₀)));
      }

  pub ended : h ≤ y → out ≡ wire_bits f w h s plane ++ drop (plane_bytes w h) out₀
  ended k =
      let e : y ≡ h = omega (arith, c.within) in
      let n : y * row ≡ plane_bytes w h = ap (λ (k : ℕ). k * row) e ∙ ap (λ (r : ℕ). h * r) c.row_is ∙ mul_comm h (row_bytes w) in
      c.now_is ∙ ap (λ (k : ℕ). wire_bits f w k s plane ++ drop (y * row) out₀) e ∙ ap (λ (k : ℕ). wire_bits f w h s plane ++ drop k out₀) n
