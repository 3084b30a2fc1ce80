-- How many bytes of a piece a reading takes that comes to its body with the first of them, and what it writes.
use Prim.Native.Nat.{ℕ, ◌+◌, ◌-◌, ◌*◌, ◌≤◌, ◌<◌}
use mathlib.Core.Path.{◌≡◌, sym, ap, subst, ◌∙◌}
use mathlib.Core.List.{List, ◌++◌, append_assoc}
use mathlib.Core.Logic.{⊎_elim, inl, inr}
use native.Mathlib.Nat.{mul-le-mul_right}
use native.Mathlib.Omega.{arith}
use lib.ListN.{length, take, drop, length-append, length-take, length-drop}
use lib.Seq.{take-add, take_all, drop_at, length-take-le}
use Rattle.header.specs.Read.{Outline}
use Rattle.options.specs.Limits.{ceiling_of}
use Rattle.decoder.specs.Body.{plane_of}
use Rattle.body_pieces.specs.InFormat.{body_from}
use Rattle.decode_session.specs.Sequence.{sequence}
use Rattle.decode_session.specs.Model.{Model, takes, grown, written}
use Rattle.decode_session.specs.Internal.Stages.{Enters}
use Rattle.body_pieces.specs.declared.BodyFed.{BodyFed}
use Rattle.body_pieces.proofs.BodyBytes.{body-length}
use Rattle.body_pieces.proofs.BodyCounts.{Advanced, Placed}
use Rattle.decode_session.proofs.MostTaken.{shown_with, most-is}
use Rattle.decode_session.proofs.BodyShown.{shown_bytes, all_bytes, shown-length, shown-grows}

module _ {m : Model} {piece : List ℕ} {from room : ℕ} {h : Outline} {whole begun most : ℕ} {r : BodyFed}
    (ceiling : ceiling_of m.options ≡ most) (within : from ≤ length piece) (en : Enters m piece from h whole begun)
    (a : Placed most (plane_of h) whole begun → Advanced most (plane_of h) whole begun (length (drop from piece)) room r) where
  abbrev rest : List ℕ
  rest = drop from piece

  pub advanced : Advanced most (plane_of h) whole begun (length rest) room r
  advanced =
      a
      (en.in_body.below, ⊎_elim (λ w. inl (omega (arith, w.0))) (λ w. inr (w.0 ∙ ceiling, w.1.0)) en.in_body.place)

  -- what of more bytes is the planes'
  abbrev left : ℕ
  left = all_bytes en.in_body - shown_bytes en.in_body

  split : (i : ℕ) → m.bytes ++ take (from + i) piece ≡ (m.bytes ++ take from piece) ++ take i rest
  split i = ap (λ (l : List ℕ). m.bytes ++ l) (take-add from i piece) ∙ sym (append_assoc m.bytes (take from piece) (take i rest))

  grows : (i : ℕ) → sequence (ceiling_of m.options) m.options (m.bytes ++ take (from + i) piece)
      ≡ sequence (ceiling_of m.options) m.options (m.bytes ++ take from piece) ++ body_from m.options.format h.width begun
      (take left (take i rest))
  grows i = ap (sequence (ceiling_of m.options) m.options) (split i) ∙ shown-grows en.in_body (take i rest)

  shown : (i : ℕ) → i ≤ length rest
      → shown_with (ceiling_of m.options) m.options m.bytes piece room (from + i)
      ≡ shown_bytes en.in_body + length (take left (take i rest))
  shown i l =
      ap length (grows i)
      ∙ length-append (sequence (ceiling_of m.options) m.options (m.bytes ++ take from piece)) _
      ∙ ap (λ (k : ℕ). k + length (body_from m.options.format h.width begun (take left (take i rest)))) (shown-length en.in_body)
      ∙ ap (λ (k : ℕ). shown_bytes en.in_body + k) (body-length m.options.format h.width (take left (take i rest)) begun)

  -- the planes that are left are written, or all that is taken
  all_left : r.whole ≡ most → r.begun ≡ 0 → r.written ≡ left
  all_left p q =
      let e : ceiling_of m.options * plane_of h ≡ r.whole * plane_of h = ap (λ (k : ℕ). k * plane_of h) (ceiling ∙ sym p) in
      omega (arith, advanced.sum)

  pub below_left : r.whole < most → r.written < left
  below_left p =
      let e : (r.whole + 1) * plane_of h ≤ ceiling_of m.options * plane_of h = mul-le-mul_right (plane_of h) (omega arith) in
      omega (arith, advanced.sum, advanced.below)

  new_is : take left (take r.taken rest) ≡ take r.written rest
  new_is =
      ⊎_elim
      (λ w. ap (λ (k : ℕ). take left (take k rest)) w.1.0
      ∙ take_all left (take r.written rest) (rw length-take (omega (arith, below_left w.0))))
      (λ w. ap (take left) (take_all r.taken rest (omega (arith, w.1.1)))
      ∙ ap (λ (k : ℕ). take k rest) (sym (all_left w.0 w.1.0)))
      advanced.ends

  pub takes-is : takes m piece room ≡ from + r.taken
  takes-is =
      most-is (ceiling_of m.options) m.options m.bytes piece room (from + r.taken) (length piece)
      (omega (arith, length-drop from piece, advanced.takes)) low high
    where
      low : shown_with (ceiling_of m.options) m.options m.bytes piece room (from + r.taken) ≤ length
          (sequence (ceiling_of m.options) m.options m.bytes) + room
      low =
          let n : length (take left (take r.taken rest)) ≡ r.written =
          ap length new_is ∙ length-take-le r.written rest (omega (arith, advanced.takes, advanced.writes)) in
          omega (arith, shown r.taken advanced.takes, advanced.fits, en.earlier)

      high : (j : ℕ) → from + r.taken < j → j ≤ length piece
          → length (sequence (ceiling_of m.options) m.options m.bytes) + room < shown_with (ceiling_of m.options) m.options
          m.bytes piece room j
      high j p q =
          let l = length-drop from piece in
          let e : from + (j - from) ≡ j = omega arith in
          ⊎_elim
          (λ w. ⊎_elim (λ (g : r.written ≡ length rest). let z : ⊥ = omega (arith, w.1.0) in absurd z)
          (λ (g : r.written ≡ room).
          let b = below_left w.0 in
          let t = w.1.0 in
          let n : room < length (take left (take (j - from) rest)) = rw (length-take, length-take) (omega arith) in
          let s : length (sequence (ceiling_of m.options) m.options m.bytes) + room < shown_with (ceiling_of m.options)
          m.options m.bytes piece room (from + (j - from)) =
          omega (arith, shown (j - from) (omega arith), en.earlier) in
          subst (λ (k : ℕ). length (sequence (ceiling_of m.options) m.options m.bytes) + room < shown_with (ceiling_of m.options)
          m.options m.bytes piece room k) e s)
          w.1.1)
          (λ w. let z : ⊥ = omega (arith, w.1.1) in absurd z)
          advanced.ends

  pub grown-is : grown m piece room ≡ (m.bytes ++ take from piece) ++ take r.taken rest
  unfolding grown
  grown-is = ap (λ (k : ℕ). m.bytes ++ take k piece) takes-is ∙ split r.taken

  pub written_is : written m piece room ≡ body_from m.options.format h.width begun (take r.written rest)
  unfolding written grown
  written_is =
      ap (λ (k : ℕ). drop (length (sequence (ceiling_of m.options) m.options m.bytes))
      (sequence (ceiling_of m.options) m.options (m.bytes ++ take k piece))) takes-is
      ∙ ap (drop (length (sequence (ceiling_of m.options) m.options m.bytes))) (grows r.taken)
      ∙ drop_at (sequence (ceiling_of m.options) m.options (m.bytes ++ take from piece)) _
      (length (sequence (ceiling_of m.options) m.options m.bytes))
      (shown-length en.in_body ∙ sym en.earlier)
      ∙ ap (body_from m.options.format h.width begun) new_is

  pub written-length : length (written m piece room) ≡ r.written
  written-length =
      ap length written_is ∙ body-length m.options.format h.width (take r.written rest) begun
      ∙ length-take-le r.written rest (omega (arith, advanced.takes, advanced.writes))
