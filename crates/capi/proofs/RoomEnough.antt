-- An output as long as the file is long enough: reading then answers as the tests of the image do, without 25.
use Prim.Native.Nat.{ℕ, ◌+◌, ◌*◌, ◌≤◌}
use mathlib.Core.Path.{◌≡◌, refl}
use mathlib.Core.List.{List, [], ◌∷◌}
use native.Mathlib.Omega.{arith}
use borrow.Author.Tests.{le-leb}
use lib.ListN.{length}
use Rattle.error.specs.Answer.{Answer, gives, refuses, bind, map}
use Rattle.laws.proofs.Tests.{if-true}
use Rattle.header.specs.Read.{Outline}
use Rattle.options.specs.Limits.{Decoding}
use Rattle.decoder.specs.Body.{plane_of, frames_in}
use Rattle.decoder.specs.Image.{read_image}
use Rattle.decoder.specs.Frames.{image_of, fitted, decoded}
use Rattle.decoder.proofs.Fitted.{image-parts, frames-there}

pub room-enough : (more : ℕ) (d : Decoding) (bytes : List ℕ) (room : ℕ) → length bytes ≤ room
    → decoded (1 + more) d bytes room ≡ map (λ h. image_of h (frames_in (1 + more) (length bytes) h)) (read_image d bytes)
unfolding decoded
room-enough more d bytes room l = go (read_image d bytes) refl
  where
    go : (x : Answer Outline) → read_image d bytes ≡ x
        → bind x (λ h. fitted room h (frames_in (1 + more) (length bytes) h)) ≡ map (λ h. image_of h (frames_in (1 + more) (length bytes) h)) x
    go (gives h) e =
        let t = frames-there more bytes h (frames_in (1 + more) (length bytes) h) refl (image-parts d bytes h e).1 in
        if-true _ _ _ (le-leb (frames_in (1 + more) (length bytes) h * plane_of h) room (omega (arith, t)))
    go (refuses code offset) e = refl

-- a card of one dot, and an output of its five bytes
example : (d : Decoding) → decoded 16 d (0 ∷ 0 ∷ 1 ∷ 1 ∷ 128 ∷ []) 5
    ≡ map (λ h. image_of h (frames_in 16 5 h)) (read_image d (0 ∷ 0 ∷ 1 ∷ 1 ∷ 128 ∷ []))
example d = room-enough 15 d (0 ∷ 0 ∷ 1 ∷ 1 ∷ 128 ∷ []) 5 (omega arith)
