-- Bytes that follow a file: which of them change nothing.
use Prim.Native.Nat.{ℕ, zero, suc, ◌+◌, ◌-◌, ◌*◌, ◌≤◌}
use mathlib.Core.Path.{◌≡◌, refl, sym, ap, ◌∙◌}
use mathlib.Core.Bool.{Bool, true, false, not}
use mathlib.Core.List.{List, ◌++◌}
use native.Mathlib.Omega.{arith}
use borrow.Author.Tests.{ltb-false, le-ltb}
use lib.Dec.{ltb, leb}
use lib.ListN.{length, length-append}
use Rattle.error.specs.Choice.{if}
use Rattle.error.specs.Answer.{Answer, gives, refuses, bind, map, is_end}
use Rattle.laws.proofs.Lists.{part-append}
use Rattle.laws.proofs.Tests.{zero_one}
use Rattle.ext.proofs.Prefix.{decided}
use Rattle.header.specs.Read.{Header, Outline, outline, read_header}
use Rattle.header.proofs.Prefix.{bind-prefix, header-prefix}
use Rattle.image.specs.Geometry.{row_bytes}
use Rattle.image.specs.Rows.{convert_format}
use Rattle.image.specs.declared.PixelFormat.{PixelFormat}
use Rattle.image.specs.declared.PixelFormat.TheVariants.{MonoBlack}
use Rattle.options.specs.Limits.{Mode, Decoding, check_limits}
use Rattle.decoder.specs.Body.{plane_of, frames_in, plane_at, planes}
use Rattle.decoder.specs.Image.{image_settings, header_of, test_body, read_image}
use Rattle.decoder.specs.Frames.{Image, fitted, decoded}
use Rattle.decoder.proofs.Planed.{one_less}

outline-decided : (x : Answer Header) → decided (map outline x) ≡ decided x
outline-decided (gives a) = refl
outline-decided (refuses code offset) = refl

module _ (s ρ : List ℕ) where
  pub longer : length s ≤ length (s ++ ρ)
  longer = rw length-append (omega arith)

  pub header-kept : (mode : Mode) → decided (header_of mode s) ≡ true → header_of mode (s ++ ρ) ≡ header_of mode s
  header-kept mode e =
      ap (map outline)
      (header-prefix (image_settings mode) s ρ (sym (outline-decided (read_header (image_settings mode) s)) ∙ e))

  body_kept : (d : Decoding) (h : Outline) → decided (test_body d (length s) h) ≡ true
      → test_body d (length (s ++ ρ)) h ≡ test_body d (length s) h
  unfolding test_body
  body_kept d h =
      bind-prefix (check_limits d h.width h.height (plane_of h) h.body) (check_limits d h.width h.height (plane_of h) h.body)
      _ _
      (λ _. refl) (λ _. go (ltb (length s - h.body) (plane_of h)) refl)
    where
      go : (t : Bool) → ltb (length s - h.body) (plane_of h) ≡ t → decided {A = Outline} (if t (refuses 20 h.body) (gives h)) ≡ true
          → if (ltb (length (s ++ ρ) - h.body) (plane_of h)) (refuses 20 h.body) (gives h) ≡ if t (refuses 20 h.body) (gives h)
      go true p q = zero_one (cc)
      go false p q =
          let k = ltb-false (length s - h.body) (plane_of h) p in
          let l = longer in
          rw (le-ltb (length (s ++ ρ) - h.body) (plane_of h) (omega arith))

  -- an image's answer other than an early end (1, 6, 9, 13, 20) stays
  pub image-kept : (d : Decoding) → decided (read_image d s) ≡ true → read_image d (s ++ ρ) ≡ read_image d s
  unfolding read_image
  image-kept d =
      bind-prefix (header_of d.mode s) (header_of d.mode (s ++ ρ)) (test_body d (length s)) (test_body d (length (s ++ ρ)))
      (header-kept d.mode) (body_kept d)

  -- A refusal other than 1, 6, 9, 13, 20, 25 is kept when bytes follow.
  pub refusal-kept : (ceiling : ℕ) (d : Decoding) (room code offset : ℕ) → is_end code ≡ false → (code ≡ 25 → ⊥)
      → decoded ceiling d s room ≡ refuses code offset → decoded ceiling d (s ++ ρ) room ≡ refuses code offset
  unfolding decoded
  refusal-kept ceiling d room code offset f n = go (read_image d s) refl
    where
      unfit : {X : Type 0} (t : Bool) (i : Image) → if t (gives i) (refuses 25 0) ≡ refuses code offset → X
      unfit true i q = zero_one (cc)
      unfit false i q = let e : ◌≡◌ {A = ℕ} 25 code = cc in absurd (n (sym e))

      go : (x : Answer Outline) → read_image d s ≡ x → bind x (λ h. fitted room h (frames_in ceiling (length s) h)) ≡ refuses code offset
          → bind (read_image d (s ++ ρ)) (λ h. fitted room h (frames_in ceiling (length (s ++ ρ)) h)) ≡ refuses code offset
      go (gives h) e q = unfit (leb (frames_in ceiling (length s) h * plane_of h) room) _ q
      go (refuses c o) e q =
          let same : c ≡ code = cc in
          let met : decided (read_image d s) ≡ true = ap decided e ∙ ap (λ (k : ℕ). not (is_end k)) same ∙ ap not f in
          ap (λ (a : Answer Outline). bind a (λ h. fitted room h (frames_in ceiling (length (s ++ ρ)) h))) (image-kept d met ∙ e) ∙ q

  pub planes-kept : (f : PixelFormat) (h : Outline) (k : ℕ) → h.body + k * plane_of h ≤ length s → planes f (s ++ ρ) h k ≡ planes f s h k
  unfolding planes plane_at
  planes-kept f h zero b = refl
  planes-kept f h (suc k) b =
      let l = one_less h.body k (plane_of h) (length s) b in
      ap (λ (p : List ℕ). p ++ plane_at f (s ++ ρ) h k) (planes-kept f h k l.0)
      ∙ ap (λ (p : List ℕ). planes f s h k ++ convert_format MonoBlack f h.width h.height (row_bytes h.width) p)
      (part-append (plane_of h) (h.body + k * plane_of h) s ρ l.1)
