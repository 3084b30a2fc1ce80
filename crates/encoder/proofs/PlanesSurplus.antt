-- "Surplus is ignored": bytes behind the last plane change nothing.
use Prim.Native.Nat.{ℕ, zero, suc, ◌*◌, ◌≤◌}
use mathlib.Core.Path.{◌≡◌, refl, sym, ap, ◌∙◌}
use mathlib.Core.List.{List, ◌++◌}
use native.Mathlib.Nat.{suc-mul}
use native.Mathlib.Omega.{arith}
use borrow.Author.Tests.{le-ltb}
use lib.ListN.{length, length-append}
use Rattle.error.specs.Answer.{Answer, gives, bind}
use Rattle.laws.proofs.Tests.{if-false}
use Rattle.laws.proofs.Lists.{part-append}
use Rattle.image.specs.Geometry.{needed_bytes, check_geometry}
use Rattle.image.specs.Rows.{wire_bits}
use Rattle.image.specs.declared.PixelFormat.{PixelFormat}
use Rattle.image.proofs.GeometryTests as geometry
use Rattle.options.specs.declared.EncodeOptions.{EncodeOptions}
use Rattle.encoder.specs.File.{file_of}
use Rattle.encoder.specs.Write.{check_planes, lent_plane, wire_planes, file_of_planes}
use Rattle.encoder.proofs.CountTests.{accepted}
use Rattle.encoder.proofs.PlaneTests.{after_geometry, tested}

module _ (w h s : ℕ) where
  tests-kept : (ceiling n b b' : ℕ) → b ≤ b' → check_planes ceiling w h n s b ≡ gives tt → check_planes ceiling w h n s b' ≡ gives tt
  unfolding check_planes
  tests-kept ceiling n b b' l e =
      let t = tested ceiling w h n s b e in
      ap (λ (x : Answer (Unit {0})). bind x (λ _. bind (check_geometry w h s b') (λ _. after_geometry w h n s b')))
      (accepted ceiling w h n t.frames.wide t.frames.high t.frames.some t.frames.few)
      ∙ ap (λ (x : Answer (Unit {0})). bind x (λ _. after_geometry w h n s b'))
      (geometry.accepted w h s b' t.plane.wide t.plane.high t.plane.row t.small (omega (arith, t.plane.room)))
      ∙ if-false _ _ _ (le-ltb b' (n * needed_bytes w h s) (omega (arith, t.total)))

  module _ (f : PixelFormat) (planes ρ : List ℕ) where
    planes-kept : (n : ℕ) → n * needed_bytes w h s ≤ length planes → wire_planes f w h s (planes ++ ρ) n ≡ wire_planes f w h s planes n
    unfolding wire_planes
    planes-kept zero b = refl
    planes-kept (suc n) b =
        let e = suc-mul n (needed_bytes w h s) in
        ap (λ (p : List ℕ). p ++ wire_bits f w h s (lent_plane w h s (planes ++ ρ) n)) (planes-kept n (omega arith))
        ∙ ap (λ (p : List ℕ). wire_planes f w h s planes n ++ wire_bits f w h s p)
        (part-append (needed_bytes w h s) (n * needed_bytes w h s) planes ρ (omega arith))

    pub surplus-ignored : (ceiling : ℕ) (o : EncodeOptions) (n : ℕ) (text lengths : List ℕ)
        → check_planes ceiling w h n s (length planes) ≡ gives tt
        → file_of_planes ceiling o f w h n s (planes ++ ρ) text lengths ≡ file_of_planes ceiling o f w h n s planes text lengths
    unfolding file_of_planes
    surplus-ignored ceiling o n text lengths e =
        let t = tested ceiling w h n s (length planes) e in
        let l : length planes ≤ length (planes ++ ρ) = rw length-append (omega arith) in
        ap (λ (x : Answer (Unit {0})). bind x (λ _. file_of o w h text lengths (wire_planes f w h s (planes ++ ρ) n)))
        (tests-kept ceiling n (length planes) (length (planes ++ ρ)) l e)
        ∙ ap (file_of o w h text lengths) (planes-kept n t.total)
        ∙ sym (ap (λ (x : Answer (Unit {0})). bind x (λ _. file_of o w h text lengths (wire_planes f w h s planes n))) e)
