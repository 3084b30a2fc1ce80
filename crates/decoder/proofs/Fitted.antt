-- From the planes to what whole reading promises.
use Prim.Native.Nat.{ℕ, ◌+◌, ◌-◌, ◌*◌, ◌≤◌, ◌<◌}
use mathlib.Core.Path.{◌≡◌, sym, ap, subst, ◌∙◌}
use mathlib.Core.List.{List, ◌++◌}
use native.Mathlib.Omega.{arith}
use borrow.Author.Tests.{ltb-false, le-leb, lt-leb}
use lib.Dec.{ltb}
use lib.ListN.{length, drop}
use Rattle.error.specs.Answer.{Answer, gives, refuses, bind, map}
use Rattle.error.specs.Emits.{output}
use Rattle.laws.proofs.Answers.{bind-gives, unless}
use Rattle.laws.proofs.Tests.{if-true, if-false}
use Rattle.header.specs.Read.{Outline}
use Rattle.image.specs.declared.PixelFormat.{PixelFormat}
use Rattle.options.specs.Limits.{Decoding, settled, check_limits}
use Rattle.decoder.specs.Body.{plane_of, frames_in, planes}
use Rattle.decoder.specs.Image.{image_settings, header_of, test_body, read_image}
use Rattle.decoder.specs.Frames.{Image, fitted, decoded, shown, Decodes, Imaged, Framed}
use Rattle.decoder.proofs.Counted.{frames-fit}
use Rattle.decoder.proofs.Planed.{planes-length}
use Rattle.decoder.proofs.Shaped.{outline-shape}

-- an image by its frames and the bytes written
abbrev pub image_with : Outline → ℕ → ℕ → Image
image_with h frames written =
    record { width = h.width; height = h.height; frames = frames; written = written; fix = h.fix; fields = h.fields; body = h.body }

pub frames-there : (most : ℕ) (bytes : List ℕ) (h : Outline) (n : ℕ) → n ≡ frames_in (1 + most) (length bytes) h
    → h.body + plane_of h ≤ length bytes → h.body + n * plane_of h ≤ length bytes
frames-there most bytes h n e t =
    let q = frames-fit (1 + most - 1) (plane_of h) (length bytes - h.body) (omega arith) in
    let p : n * plane_of h ≤ length bytes - h.body = rw e q in
    omega arith

module _ (most : ℕ) (f : PixelFormat) (bytes : List ℕ) (h : Outline) (n : ℕ) (old : List ℕ)
    (counted : n ≡ frames_in (1 + most) (length bytes) h)
    (there : h.body + plane_of h ≤ length bytes) where
  all-length : length (planes f bytes h n) ≡ n * plane_of h
  all-length = planes-length f bytes h n (frames-there most bytes h n counted there)

  answers : fitted (length old) h n ≡ fitted (length old) h (frames_in (1 + most) (length bytes) h)
  answers = ap (fitted (length old) h) counted

  outputs : output (gives (planes f bytes h n)) old ≡ output (gives (planes f bytes h (frames_in (1 + most) (length bytes) h))) old
  outputs = ap (λ (n : ℕ). output (gives (planes f bytes h n)) old) counted

  pub too_short : length old < n * plane_of h → Framed (1 + most) f bytes h (refuses 25 0) old old
  too_short l =
      record {
        answer = sym (if-false _ _ _ (lt-leb _ _ l)) ∙ answers;
        output_is = sym (if-false _ _ _ (lt-leb _ _ (subst (λ (k : ℕ). length old < k) (sym all-length) l))) ∙ outputs;
      }

  pub long-enough : n * plane_of h ≤ length old → (new : List ℕ) → new ≡ planes f bytes h n ++ drop (n * plane_of h) old
      → (written : ℕ) → written ≡ n * plane_of h → Framed (1 + most) f bytes h (gives (image_with h n written)) old new
  long-enough l new e written w =
      record {
        answer = ap (λ (k : ℕ). gives (image_with h n k)) w ∙ sym (if-true _ _ _ (le-leb _ _ l)) ∙ answers;
        output_is =
            e ∙ ap (λ (k : ℕ). planes f bytes h n ++ drop k old) (sym all-length)
            ∙ sym (if-true _ _ _ (le-leb _ _ (subst (λ (k : ℕ). k ≤ length old) (sym all-length) l)))
            ∙ outputs;
      }

module _ (ceiling : ℕ) (d : Decoding) (bytes old : List ℕ) where
  pub imaged : (h : Outline) (r : Answer Image) (new : List ℕ) → read_image d bytes ≡ gives h → Framed ceiling d.format bytes h r old new
      → Imaged ceiling d bytes r old new
  unfolding decoded shown
  imaged h r new e p =
      record {
        answer = p.answer ∙ sym (ap (λ (a : Answer Outline). bind a (λ h. fitted (length old) h (frames_in ceiling (length bytes) h))) e);
        output_is =
            p.output_is
            ∙ sym (ap (λ (a : Answer Outline). output (map (λ h. planes d.format bytes h (frames_in ceiling (length bytes) h)) a) old) e);
      }

  pub refused : (code offset : ℕ) → read_image d bytes ≡ refuses code offset → Imaged ceiling d bytes (refuses code offset) old old
  unfolding decoded shown
  refused code offset e =
      record {
        answer = sym (ap (λ (a : Answer Outline). bind a (λ h. fitted (length old) h (frames_in ceiling (length bytes) h))) e);
        output_is =
            sym (ap (λ (a : Answer Outline). output (map (λ h. planes d.format bytes h (frames_in ceiling (length bytes) h)) a) old) e);
      }

  -- settings that pass their test
  pub decodes : (n : ℕ) (r : Answer Image) (new : List ℕ) → settled d ≡ gives d → n ≡ ceiling → Imaged n d bytes r old new
      → Decodes ceiling d bytes r old new
  decodes n r new s c p =
      record {
        answer =
            p.answer ∙ ap (λ (n : ℕ). decoded n d bytes (length old)) c
            ∙ sym (ap (λ (a : Answer Decoding). bind a (λ s. decoded ceiling s bytes (length old))) s);
        output_is =
            p.output_is ∙ ap (λ (n : ℕ). output (shown n d bytes) old) c
            ∙ sym (ap (λ (a : Answer Decoding). output (bind a (λ s. shown ceiling s bytes)) old) s);
      }

-- an image that was read has its header, and its first plane is there
pub image-parts : (d : Decoding) (bytes : List ℕ) (h : Outline) → read_image d bytes ≡ gives h
    → (header_of d.mode bytes ≡ gives h) × (h.body + plane_of h ≤ length bytes)
unfolding read_image test_body
image-parts d bytes h e =
    let g = bind-gives (header_of d.mode bytes) _ h e in
    let l = bind-gives (check_limits d g.0.width g.0.height (plane_of g.0) g.0.body) _ h g.2 in
    let t = unless (ltb (length bytes - g.0.body) (plane_of g.0)) 20 g.0.body _ h l.2 in
    let b = (outline-shape (image_settings d.mode) bytes g.0 g.1).2 in
    let k = ltb-false (length bytes - g.0.body) (plane_of g.0) t.0 in
    let q = t.1 in
    let same : g.0 ≡ h = cc in
    (g.1 ∙ q, subst (λ (g : Outline). g.body + plane_of g ≤ length bytes) same (omega arith))
