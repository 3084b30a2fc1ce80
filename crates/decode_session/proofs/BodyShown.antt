-- What a reading in the body has put out, and what more bytes add.
use Prim.Native.Nat.{ℕ, ◌+◌, ◌-◌, ◌*◌, ◌%◌, ◌≤◌}
use mathlib.Core.Path.{◌≡◌, sym, ap, ◌∙◌}
use mathlib.Core.List.{List, ◌++◌, append-nil}
use mathlib.Core.Logic.{⊎_elim}
use native.Mathlib.Nat.{mul-le-mul_right, zero-add}
use native.Mathlib.Omega.{arith}
use lib.ListN.{length, take, drop, length-drop}
use lib.Seq.{take_all, take-append-le, take-append-add, drop-append-le, length-take-le}
use Rattle.header.specs.Read.{Outline}
use Rattle.image.specs.Geometry.{row_bytes}
use Rattle.image.proofs.PlaneSizes.{plane-mod}
use Rattle.options.specs.Limits.{ceiling_of}
use Rattle.decoder.specs.Body.{plane_of}
use Rattle.decoder.specs.Image.{image_settings}
use Rattle.body_pieces.specs.InFormat.{body_from}
use Rattle.decode_session.specs.Sequence.{sequence_of, sequence}
use Rattle.decode_session.specs.Model.{Model}
use Rattle.decode_session.specs.Session.{InBody}
use Rattle.body_pieces.proofs.BodyBytes.{body-length, body-append, body-mod}
use Rattle.decode_session.proofs.Headers.{header-later}

module _ {m : Model} {h : Outline} {whole begun : ℕ} (b : InBody m h whole begun) where
  -- the bytes of the planes so far, and of all planes
  abbrev pub shown_bytes : ℕ
  shown_bytes = whole * plane_of h + begun

  abbrev pub all_bytes : ℕ
  all_bytes = ceiling_of m.options * plane_of h

  abbrev body : List ℕ
  body = drop h.body m.bytes

  pub shown-within : shown_bytes ≤ all_bytes
  shown-within =
      ⊎_elim
      (λ w. let p : (whole + 1) * plane_of h ≤ ceiling_of m.options * plane_of h =
      mul-le-mul_right (plane_of h) (omega (arith, w.0)) in omega (arith, b.below))
      (λ w. let p : whole * plane_of h ≡ ceiling_of m.options * plane_of h = ap (λ (k : ℕ). k * plane_of h) w.0 in omega (arith, w.1.0))
      b.place

  -- a row's place in a plane is its place in the body
  shown-mod : shown_bytes % row_bytes h.width ≡ begun % row_bytes h.width
  shown-mod = plane-mod h.width h.height whole begun

  planes-length : length (take all_bytes body) ≡ shown_bytes
  planes-length =
      ⊎_elim
      (λ w. let l : length body ≡ shown_bytes = length-drop h.body m.bytes ∙ omega (arith, w.1) in
      ap length (take_all all_bytes body (omega (arith, shown-within))) ∙ l)
      (λ w. let e : all_bytes ≡ shown_bytes = ap (λ (k : ℕ). k * plane_of h) (sym w.0) ∙ omega (arith, w.1.0) in
      length-take-le all_bytes body (rw length-drop (omega (arith, w.1.0, w.1.1))) ∙ e)
      b.place

  planes-grow : (xs : List ℕ) → take all_bytes (body ++ xs) ≡ take all_bytes body ++ take (all_bytes - shown_bytes) xs
  planes-grow xs =
      ⊎_elim
      (λ w. let l : length body ≡ shown_bytes = length-drop h.body m.bytes ∙ omega (arith, w.1) in
      let s : all_bytes ≡ length body + (all_bytes - shown_bytes) = omega (arith, shown-within) in
      ap (λ (k : ℕ). take k (body ++ xs)) s ∙ take-append-add body xs (all_bytes - shown_bytes)
      ∙ ap (λ (l : List ℕ). l ++ take (all_bytes - shown_bytes) xs) (sym (take_all all_bytes body (omega (arith, shown-within)))))
      (λ w. let e : all_bytes ≡ shown_bytes = ap (λ (k : ℕ). k * plane_of h) (sym w.0) ∙ omega (arith, w.1.0) in
      let z : all_bytes - shown_bytes ≡ 0 = omega arith in
      take-append-le all_bytes body xs (rw length-drop (omega (arith, w.1.0, w.1.1)))
      ∙ sym (ap (λ (k : ℕ). take all_bytes body ++ take k xs) z ∙ append-nil (take all_bytes body)))
      b.place

  shown-is : sequence (ceiling_of m.options) m.options m.bytes ≡ body_from m.options.format h.width 0 (take all_bytes body)
  unfolding sequence
  shown-is = ap (sequence_of (ceiling_of m.options) m.options.format m.bytes) b.header_is

  pub shown-length : length (sequence (ceiling_of m.options) m.options m.bytes) ≡ shown_bytes
  shown-length = ap length shown-is ∙ body-length m.options.format h.width (take all_bytes body) 0 ∙ planes-length

  pub shown-grows : (xs : List ℕ) → sequence (ceiling_of m.options) m.options (m.bytes ++ xs)
      ≡ sequence (ceiling_of m.options) m.options m.bytes ++ body_from m.options.format h.width begun
      (take (all_bytes - shown_bytes) xs)
  unfolding sequence
  shown-grows xs =
      let f = m.options.format in
      let w = h.width in
      let new = take (all_bytes - shown_bytes) xs in
      let start : (0 + length (take all_bytes body)) % row_bytes w ≡ begun % row_bytes w =
      ap (λ (k : ℕ). k % row_bytes w) (zero-add (length (take all_bytes body)) ∙ planes-length) ∙ shown-mod in
      ap (sequence_of (ceiling_of m.options) f (m.bytes ++ xs))
      (header-later (image_settings m.options.mode) m.bytes h b.header_is xs)
      ∙ ap (λ (l : List ℕ). body_from f w 0 (take all_bytes l)) (drop-append-le h.body m.bytes xs b.start)
      ∙ ap (body_from f w 0) (planes-grow xs)
      ∙ body-append f w (take all_bytes body) new 0
      ∙ ap (λ (l : List ℕ). body_from f w 0 (take all_bytes body) ++ l) (body-mod f w new (0 + length (take all_bytes body)) begun start)
      ∙ ap (λ (l : List ℕ). l ++ body_from f w begun new) (sym shown-is)
