-- What info and whole reading refuse has a number below 32 and an offset below 8,192, so a refusal packed into a number fits 64 bits.
use Prim.Native.Nat.{ℕ, ◌-◌, ◌*◌, ◌<◌}
use mathlib.Core.Bool.{Bool}
use mathlib.Core.List.{List}
use native.Mathlib.Omega.{arith}
use lib.Dec.{ltb, leb, eqb}
use lib.ListN.{length}
use Rattle.error.specs.Choice.{if}
use Rattle.error.specs.Answer.{Answer, gives, refuses, bind, map}
use Rattle.laws.proofs.Tests.{if-elim}
use Rattle.header.specs.Read.{Outline}
use Rattle.options.specs.Limits.{lenient, Decoding, admits, settled, check_limits, ceiling_of}
use Rattle.decoder.specs.Body.{plane_of, frames_in}
use Rattle.decoder.specs.Image.{image_settings, header_of, test_body, read_image}
use Rattle.decoder.specs.Frames.{decoded, decoded_by}
use Rattle.api.specs.Info.{info_of, read_info}
use Rattle.capi.specs.Asked.{format_of, strict_of, settings_of, read_asked}
use Rattle.capi.proofs.HeaderPlaces.{Told, told, Placed, header-placed}

-- of an answer: what it refuses
abbrev pub Numbered : {A : Type 0} → Answer A → Type 0
Numbered (gives a) = Unit {0}
Numbered (refuses code offset) = Told code offset

numbered-bind : {A B : Type 0} (x : Answer A) (k : A → Answer B) → Numbered x → ((a : A) → Numbered (k a)) → Numbered (bind x k)
numbered-bind (gives a) k p q = q a
numbered-bind (refuses code offset) k p q = p

pick : {A : Type 0} (t : Bool) (x y : Answer A) → Numbered x → Numbered y → Numbered (if t x y)
pick {A} t x y p q = if-elim (λ (a : Answer A). Numbered a) t x y (λ _. p) (λ _. q)

limits-numbered : (d : Decoding) (w h n at : ℕ) → at < 8192 → Numbered (check_limits d w h n at)
unfolding check_limits
limits-numbered d w h n at p =
    pick (admits d.max_width w) _ _
    (pick (admits d.max_height h) _ _
    (pick (admits d.max_pixels (w * h)) _ _
    (pick (admits d.max_bytes n) _ _ tt (told (omega arith) (omega arith) p))
    (told (omega arith) (omega arith) p))
    (told (omega arith) (omega arith) p))
    (told (omega arith) (omega arith) p)

body-numbered : (d : Decoding) (size : ℕ) (h : Outline) → h.body < 8192 → Numbered (test_body d size h)
unfolding test_body
body-numbered d size h p =
    numbered-bind (check_limits d h.width h.height (plane_of h) h.body) _
    (limits-numbered d h.width h.height (plane_of h) h.body p)
    (λ _. pick (ltb (size - h.body) (plane_of h)) _ _ (told (omega arith) (omega arith) p) tt)

image-numbered : (d : Decoding) (bytes : List ℕ) → Numbered (read_image d bytes)
unfolding read_image
image-numbered d bytes = go (header_of d.mode bytes) (header-placed (image_settings d.mode) bytes)
  where
    go : (x : Answer Outline) → Placed x → Numbered (bind x (test_body d (length bytes)))
    go (gives h) p = body-numbered d (length bytes) h p
    go (refuses code offset) p = p

decoded-numbered : (ceiling : ℕ) (d : Decoding) (bytes : List ℕ) (room : ℕ) → Numbered (decoded ceiling d bytes room)
unfolding decoded
decoded-numbered ceiling d bytes room =
    numbered-bind (read_image d bytes) _ (image-numbered d bytes)
    (λ h. pick (leb (frames_in ceiling (length bytes) h * plane_of h) room) _ _ tt (told (omega arith) (omega arith) (omega arith)))

settled-numbered : (d : Decoding) → Numbered (settled d)
unfolding settled
settled-numbered d = tt

read-numbered : (ceiling : ℕ) (d : Decoding) (bytes : List ℕ) (room : ℕ) → Numbered (decoded_by ceiling d bytes room)
read-numbered ceiling d bytes room =
    numbered-bind (settled d) _ (settled-numbered d) (λ s. decoded-numbered ceiling s bytes room)

pub info-numbered : (bytes : List ℕ) → Numbered (read_info bytes)
unfolding read_info
info-numbered bytes = go (header_of lenient bytes) (header-placed (image_settings lenient) bytes)
  where
    go : (x : Answer Outline) → Placed x → Numbered (map (info_of (length bytes)) x)
    go (gives h) p = tt
    go (refuses code offset) p = p

pub asked-numbered : (format strict width height pixels bytes : ℕ) (s : List ℕ) (room : ℕ)
    → Numbered (read_asked (settings_of format strict width height pixels bytes) s room)
unfolding settings_of
asked-numbered format strict width height pixels bytes s room =
    numbered-bind (settings_of format strict width height pixels bytes) _
    (numbered-bind (format_of format) _ (pick (eqb format 0) _ _ tt (pick (eqb format 1) _ _ tt unknown))
    (λ f. numbered-bind (strict_of strict) _ (pick (eqb strict 0) _ _ tt (pick (eqb strict 1) _ _ tt unknown)) (λ b. tt)))
    (λ d. read-numbered (ceiling_of d) d s room)
  where
    unknown : Told 29 0
    unknown = told (omega arith) (omega arith) (omega arith)
