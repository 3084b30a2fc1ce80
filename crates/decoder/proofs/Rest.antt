-- Reading is unaffected by bytes after the last frame of the ceiling, and by a rest that completes no further plane.
use Prim.Native.Nat.{ℕ, zero, suc, ◌+◌, ◌-◌, ◌*◌, ◌/◌, ◌≤◌, ◌<◌}
use mathlib.Core.Path.{◌≡◌, refl, sym, ap, ◌∙◌}
use mathlib.Core.List.{List, [], ◌∷◌, ◌++◌}
use native.Mathlib.Nat.{div-zero, div-mul-le_self, le-div_iff_mul-le, div-lt_iff_lt-mul}
use native.Mathlib.Omega.{arith}
use lib.Dec.{leb}
use lib.ListN.{length, replicate}
use Rattle.error.specs.Answer.{Answer, gives, refuses, bind, map}
use Rattle.laws.proofs.Products.{some_size}
use Rattle.mbi.specs.Read.{read_rest, read_byte}
use Rattle.ext.specs.Kinds.{absent}
use Rattle.ext.specs.Read.{read_fields}
use Rattle.ext.proofs.Prefix.{decided}
use Rattle.header.specs.Read.{Outline, read_header}
use Rattle.options.specs.Limits.{Decoding, check_limits}
use Rattle.options.specs.Defaults.{defaults}
use Rattle.decoder.specs.Body.{extra_frames, plane_of, frames_in, planes}
use Rattle.decoder.specs.Image.{test_body, read_image}
use Rattle.decoder.specs.Frames.{fitted, decoded, shown}
use Rattle.decoder.proofs.Counted.{few, many, frames-fit, least}
use Rattle.decoder.proofs.Fitted.{image-parts}
use Rattle.decoder.proofs.After.{longer, image-kept, planes-kept, refusal-kept}

div_grows : (n x y : ℕ) → x ≤ y → x / n ≤ y / n
div_grows zero x y h = let p = div-zero x in let q = div-zero y in omega arith
div_grows (suc n) x y h =
    let p = div-mul-le_self x (suc n) in
    (le-div_iff_mul-le {k = suc n} (omega arith)).1 (omega arith)

-- the counts of two bodies of which the second is no shorter
module _ (most plane body body' : ℕ) (more : body ≤ body') where
  grows : (body - plane) / plane ≤ (body' - plane) / plane
  grows = div_grows plane (body - plane) (body' - plane) (omega arith)

  bounds : (extra_frames most plane body ≤ most) × (extra_frames most plane body ≤ (body - plane) / plane)
  bounds = least most plane body (leb ((body - plane) / plane) most) refl

  pub full : extra_frames most plane body ≡ most → extra_frames most plane body' ≡ extra_frames most plane body
  full e = sym (many most plane body' (omega (arith, bounds.1, grows))) ∙ sym e

  pub no_more : body' < (1 + (1 + extra_frames most plane body)) * plane → extra_frames most plane body' ≡ extra_frames most plane body
  no_more h = go (extra_frames most plane body) bounds.0 bounds.1 h
    where
      go : (n : ℕ) → n ≤ most → n ≤ (body - plane) / plane → body' < (1 + (1 + n)) * plane → extra_frames most plane body' ≡ n
      go n p q l =
          let z : 0 < plane = some_size body' (1 + (1 + n)) plane l in
          let e : (1 + (1 + n)) * plane ≡ (1 + n) * plane + plane = omega arith in
          let f : (1 + n) * plane ≡ n * plane + plane = omega arith in
          let u : (body' - plane) / plane < 1 + n = (div-lt_iff_lt-mul {k = plane} z).1 (omega arith) in
          sym (few most plane body' (omega arith)) ∙ omega (arith, grows)

module _ (s ρ : List ℕ) (ceiling : ℕ) (d : Decoding) (h : Outline) (read : read_image d s ≡ gives h) where
  abbrev pub Unaffected : ℕ → Type 0
  Unaffected room = (decoded ceiling d (s ++ ρ) room ≡ decoded ceiling d s room) × (shown ceiling d (s ++ ρ) ≡ shown ceiling d s)

  same-frames : frames_in ceiling (length (s ++ ρ)) h ≡ frames_in ceiling (length s) h → (room : ℕ) → Unaffected room
  unfolding decoded shown
  same-frames e room =
      let again : read_image d (s ++ ρ) ≡ gives h = image-kept s ρ d (ap decided read) ∙ read in
      let there = (image-parts d s h read).1 in
      let fit = frames-fit (ceiling - 1) (plane_of h) (length s - h.body) (omega arith) in
      let inside : h.body + frames_in ceiling (length s) h * plane_of h ≤ length s = omega arith in (
        ap (λ (a : Answer Outline). bind a (λ h. fitted room h (frames_in ceiling (length (s ++ ρ)) h))) again
            ∙ ap (fitted room h) e
            ∙ sym (ap (λ (a : Answer Outline). bind a (λ h. fitted room h (frames_in ceiling (length s) h))) read),
        ap (map (λ h. planes d.format (s ++ ρ) h (frames_in ceiling (length (s ++ ρ)) h))) again
            ∙ ap (λ (k : ℕ). gives (planes d.format (s ++ ρ) h k)) e
            ∙ ap gives (planes-kept s ρ d.format h (frames_in ceiling (length s) h) inside)
            ∙ sym (ap (map (λ h. planes d.format s h (frames_in ceiling (length s) h))) read),
      )

  further : length s - h.body ≤ length (s ++ ρ) - h.body
  further = let l = longer s ρ in omega arith

  -- bytes after the last frame of the ceiling
  pub past-ceiling : 0 < ceiling → frames_in ceiling (length s) h ≡ ceiling → (room : ℕ) → Unaffected room
  past-ceiling z e =
      same-frames
      (ap (λ (k : ℕ). 1 + k) (full (ceiling - 1) (plane_of h) (length s - h.body) (length (s ++ ρ) - h.body) further (omega arith)))

  -- a rest that completes no further plane
  pub no-plane-more : length (s ++ ρ) < h.body + (1 + frames_in ceiling (length s) h) * plane_of h → (room : ℕ) → Unaffected room
  no-plane-more l =
      let there = (image-parts d s h read).1 in
      let m = longer s ρ in
      same-frames
      (ap (λ (k : ℕ). 1 + k) (no_more (ceiling - 1) (plane_of h) (length s - h.body) (length (s ++ ρ) - h.body) further (omega arith)))

-- eight by one, of which only the main image is read: whatever follows its one plane
eight : List ℕ
eight = 0 ∷ 0 ∷ 8 ∷ 1 ∷ 0xFF ∷ []

eight-read : read_image defaults eight ≡ gives (record { width = 8; height = 1; fix = 0; fields = absent; body = 4 })
unfolding eight read_image test_body check_limits read_header read_rest read_byte read_fields
eight-read = refl

main-image : (ρ : List ℕ) (room : ℕ) → decoded 1 defaults (eight ++ ρ) room ≡ decoded 1 defaults eight room
unfolding eight
main-image ρ room = (past-ceiling eight ρ 1 defaults _ eight-read (omega arith) refl room).0

-- sixteen frames of eight by one, and anything behind them
sixteen : List ℕ
sixteen = 0 ∷ 0 ∷ 8 ∷ 1 ∷ replicate 16 0xFF

sixteen-read : read_image defaults sixteen ≡ gives (record { width = 8; height = 1; fix = 0; fields = absent; body = 4 })
unfolding sixteen read_image test_body check_limits read_header read_rest read_byte read_fields
sixteen-read = refl

after-sixteen : (ρ : List ℕ) (room : ℕ) → Unaffected sixteen ρ 16 defaults _ sixteen-read room
unfolding sixteen
after-sixteen ρ = past-ceiling sixteen ρ 16 defaults _ sixteen-read (omega arith) refl

-- P6 and a byte that completes no second plane
nine : List ℕ
nine = 0 ∷ 0 ∷ 9 ∷ 2 ∷ 0xFF ∷ 0x80 ∷ 0 ∷ 0 ∷ []

nine-read : read_image defaults nine ≡ gives (record { width = 9; height = 2; fix = 0; fields = absent; body = 4 })
unfolding nine read_image test_body check_limits read_header read_rest read_byte read_fields
nine-read = refl

begun-plane : (b room : ℕ) → decoded 16 defaults (nine ++ (b ∷ [])) room ≡ decoded 16 defaults nine room
unfolding nine
begun-plane b room = (no-plane-more nine (b ∷ []) 16 defaults _ nine-read (omega arith) room).0

-- a type that is not 0, and anything behind it
type-kept : (ρ : List ℕ) (room : ℕ) → decoded 16 defaults (5 ∷ ρ) room ≡ refuses 5 1
unfolding decoded read_image read_header read_rest read_byte
type-kept ρ room = refusal-kept (5 ∷ []) ρ 16 defaults room 5 1 refl (λ e. omega arith) refl
