-- Sniffing says exact of what is written without fields and with sizes up to 16,384.
use Rattle.std.proofs.Common.{Option, None}
use Rattle.ext.specs.declared.ExtFieldType.{ExtFieldType}
use Prim.Native.Nat.{ℕ, zero, suc, ◌+◌, ◌-◌, ◌*◌, ◌/◌, ◌^◌, ◌≤◌, ◌<◌}
use mathlib.Core.Path.{◌≡◌, refl, sym, ap, ◌∙◌}
use mathlib.Core.Bool.{Bool, true}
use mathlib.Core.List.{List, []}
use native.Mathlib.Nat.{mul_assoc, mul_comm, mul-div_cancel, mul-mod_left}
use native.Mathlib.Omega.{arith}
use borrow.Author.Tests.{le-leb, le-ltb, eq-eqb}
use lib.ListN.{length, get_or}
use lib.Pow.{shl-shr}
use Rattle.error.specs.Answer.{Answer, gives, map}
use Rattle.laws.proofs.Products.{one_of}
use Rattle.ext.specs.Kinds.{none}
use Rattle.header.specs.Settings.{inner}
use Rattle.header.specs.Read.{Header, outline}
use Rattle.header.specs.Write.{presented}
use Rattle.image.specs.Geometry.{row_bytes, plane_bytes, padding_bits}
use Rattle.image.specs.Rows.{clear_low, source_row, to_native}
use Rattle.image.specs.declared.PixelFormat.{PixelFormat}
use Rattle.image.specs.declared.PixelFormat.TheVariants.{MonoWhite}
use Rattle.image.proofs.PlaneSizes.{plane-some}
use Rattle.image.proofs.PaddingCleared.{padding_at}
use Rattle.image.proofs.WireDots.{wire-byte}
use Rattle.options.specs.declared.EncodeOptions.{EncodeOptions}
use Rattle.encoder.specs.Write.{lent_plane, wire_planes, file_of_planes}
use Rattle.encoder.proofs.CountTests.{Counted}
use Rattle.encoder.proofs.PlanesLoop.{planes-length}
use Rattle.api.specs.Sniff.{is_clear, are_clear, sniff_length, sniff_body, sniff_header, sniffed}
use Rattle.api.specs.declared.Sniffed.TheVariants.{Exact}
use Rattle.conformance.proofs.Files.{Filed, filed, header_read, behind}
use Rattle.conformance.proofs.Rows.{plane-byte, by-planes}
use Rattle.conformance.proofs.Written.{body-plane, passed}
use Rattle.conformance.proofs.WrittenCards.{nine_by_two, writer, bare, bare-written}

pub all-clear : (w : ℕ) (body : List ℕ) (n : ℕ) → ((r : ℕ) → r < n → is_clear w body r ≡ true) → are_clear w body n ≡ true
unfolding are_clear
all-clear w body zero h = refl
all-clear w body (suc n) h = rw (all-clear w body n (λ r l. h r (omega arith)), h n (omega arith))

-- a header without fields, and up to 16 planes whose padding is clear
module _ (strict : Bool) (width height count : ℕ) (body bytes : List ℕ) (f : Filed strict width height none body bytes)
    (c : Counted 16 width height count)
    (wb : width ≤ 16384) (hb : height ≤ 16384) (whole : length body ≡ count * plane_bytes width height)
    (clear : (r : ℕ) → r < count * height → is_clear width body r ≡ true) where
  abbrev row : ℕ
  row = row_bytes width

  abbrev plane : ℕ
  plane = plane_bytes width height

  rows_are : length body ≡ count * height * row
  rows_are = whole ∙ ap (λ (n : ℕ). count * n) (mul_comm row height) ∙ sym (mul_assoc count height row)

  one-there : plane ≤ count * plane
  one-there = one_of plane count c.some

  row-there : row ≤ plane
  row-there = omega (arith, one_of row height f.high, mul_comm height row)

  length-exact : sniff_length plane (length body) ≡ Exact
  length-exact =
      rw (
        whole,
        le-ltb (count * plane) plane one-there,
        mul-mod_left count plane,
        mul-div_cancel count
            (plane-some width height f.wide f.high),
        le-leb count 16 c.few,
      )

  body-exact : sniff_body width height body ≡ Exact
  unfolding sniff_body
  body-exact =
      let n : length body / row ≡ count * height =
      ap (λ (n : ℕ). n / row) rows_are ∙ mul-div_cancel (count * height) (omega (arith, f.wide)) in
      rw (le-leb row (length body) (omega (arith, whole, one-there, row-there)), n, all-clear width body (count * height) clear)
      length-exact

  pub file-exact : sniffed bytes ≡ Exact
  unfolding sniffed
  file-exact =
      ap (λ (a : Answer Header). sniff_header bytes (map outline a))
      (header_read strict width height none body bytes f (inner true) (omega arith) (omega arith) tt)
      ∙ rw (le-leb width 16384 wb, le-leb height 16384 hb, behind strict width height none body bytes f) body-exact

-- a last byte whose padding was cleared
clear-again : (bits b : ℕ) → clear_low bits (clear_low bits b) ≡ clear_low bits b
clear-again bits b = ap (λ (n : ℕ). n * 2 ^ bits) (shl-shr (b / 2 ^ bits) bits)

pub cleared : (w : ℕ) (body : List ℕ) (r b : ℕ) → get_or body (r * row_bytes w + (row_bytes w - 1)) 0 ≡ clear_low (padding_bits w) b
    → is_clear w body r ≡ true
cleared w body r b e = eq-eqb _ _ (ap (clear_low (padding_bits w)) e ∙ clear-again (padding_bits w) b ∙ sym e)

-- the rows of written planes
wired-clear : (format : PixelFormat) (w h s : ℕ) (planes : List ℕ) (count k y : ℕ) → 0 < w → k < count → y < h
    → is_clear w (wire_planes format w h s planes count) (k * h + y) ≡ true
wired-clear format w h s planes count k y wide i l =
    let last = row_bytes w - 1 in
    let plane = lent_plane w h s planes k in
    let b : padding_at w last ≡ padding_bits w = omega arith in
    cleared w (wire_planes format w h s planes count) (k * h + y) _
    (sym (plane-byte w h (wire_planes format w h s planes count) k y last l (omega arith))
    ∙ ap (λ (p : List ℕ). get_or p (y * row_bytes w + last) 0) (body-plane format w h s planes count k i)
    ∙ wire-byte format w s plane last (omega arith) h y l
    ∙ ap (λ (n : ℕ). clear_low n (get_or (to_native format (source_row (row_bytes w) s plane y)) last 0)) b)

pub written-exact : (o : EncodeOptions) (format : PixelFormat) (width height count stride : ℕ) (planes text lengths bytes : List ℕ)
    → o.ext ≡ None → width ≤ 16384 → height ≤ 16384
    → file_of_planes 16 o format width height count stride planes text lengths ≡ gives bytes
    → sniffed bytes ≡ Exact
written-exact o format width height count stride planes text lengths bytes e wb hb w =
    let p = passed 16 o format width height count stride planes text lengths bytes w in
    let body = wire_planes format width height stride planes count in
    let f = filed o width height text lengths body bytes none (ap (λ (p : Option ExtFieldType). presented p text lengths) e) p.file in
    file-exact o.strict width height count body bytes f p.tests.frames wb hb (planes-length format width height stride planes count)
    (by-planes (λ r. is_clear width body r ≡ true) count height f.high
    (λ k y. wired-clear format width height stride planes count k y f.wide))

-- two frames of nine by two, whose padding was dirty
example : sniffed bare ≡ Exact
example = written-exact (writer None) MonoWhite 9 2 2 3 nine_by_two [] [] bare refl (omega arith) (omega arith) bare-written
