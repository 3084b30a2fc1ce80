-- From what the header's reader and the test of the limits answered to what reading an image answers.
use Rattle.std.proofs.Common.{Result}
use Rattle.error.specs.declared.WbmpError.{WbmpError}
use Prim.Native.Nat.{ℕ, ◌-◌, ◌≤◌, ◌<◌}
use mathlib.Core.Path.{◌≡◌, sym, ap, ◌∙◌, subst}
use mathlib.Core.List.{List}
use borrow.Author.Tests.{lt-ltb, le-ltb}
use lib.Dec.{ltb}
use lib.ListN.{length}
use Rattle.error.specs.Choice.{if}
use Rattle.error.specs.Answer.{Answer, gives, refuses, bind, map, checked}
use Rattle.laws.proofs.Tests.{if-true, if-false}
use Rattle.header.specs.Settings.{Settings}
use Rattle.header.specs.Read.{Outline, outline, read_header, parsed, meaning}
use Rattle.header.specs.declared.ParsedHeader.{ParsedHeader}
use Rattle.image.specs.Layout.{layout_of}
use Rattle.image.specs.declared.PlaneLayout.{PlaneLayout}
use Rattle.options.specs.Limits.{Decoding, check_limits}
use Rattle.decoder.specs.Body.{plane_of}
use Rattle.options.proofs.Ceilings.{passes}
use Rattle.decoder.specs.Image.{image_settings, header_of, test_body, read_image, image_read}

-- settings pass their test
pub tested : (d : Decoding) (bytes : List ℕ) → image_read d bytes ≡ read_image d bytes
tested d bytes = ap (λ (a : Answer Decoding). bind a (λ s. read_image s bytes)) (passes d)

-- what is left to test behind the limits
abbrev pub after_limits : ℕ → Outline → Answer Outline
after_limits size h = if (ltb (size - h.body) (plane_of h)) (refuses 20 h.body) (gives h)

module _ (d : Decoding) (size : ℕ) (p : ParsedHeader) (l : PlaneLayout) (r : Result (Unit {0}) WbmpError) where
  pub on-limits : l ≡ layout_of p.width p.height
      → checked r ≡ check_limits d p.width p.height l.total_bytes p.data_offset → (x : Result (Unit {0}) WbmpError) → r ≡ x
      → test_body d size (parsed p) ≡ bind (checked x) (λ _. after_limits size (parsed p))
  unfolding test_body
  on-limits laid q x e =
      let n : l.total_bytes ≡ plane_of (parsed p) = ap (λ (l : PlaneLayout). l.total_bytes) laid in
      let c : checked x ≡ check_limits d p.width p.height (plane_of (parsed p)) p.data_offset =
      sym (ap checked e) ∙ q ∙ ap (λ (k : ℕ). check_limits d p.width p.height k p.data_offset) n in
      ap (λ (a : Answer (Unit {0})). bind a (λ _. after_limits size (parsed p))) (sym c)

module _ (size : ℕ) (p : ParsedHeader) (l : PlaneLayout) (body : ℕ) (laid : l ≡ layout_of p.width p.height)
    (left : body ≡ size - p.data_offset) where
  plane-is : l.total_bytes ≡ plane_of (parsed p)
  plane-is = ap (λ (l : PlaneLayout). l.total_bytes) laid

  pub short : body < l.total_bytes → after_limits size (parsed p) ≡ refuses 20 p.data_offset
  short h =
      if-true _ _ _
      (lt-ltb _ _ (subst (λ (n : ℕ). size - p.data_offset < n) plane-is (subst (λ (n : ℕ). n < l.total_bytes) left h)))

  pub enough : l.total_bytes ≤ body → after_limits size (parsed p) ≡ gives (parsed p)
  enough h =
      if-false _ _ _
      (le-ltb _ _ (subst (λ (n : ℕ). n ≤ size - p.data_offset) plane-is (subst (λ (n : ℕ). l.total_bytes ≤ n) left h)))

-- an image by its header's answer, and by that of the limits
pub image-by : (d : Decoding) (s : List ℕ) (x : Answer Outline) → header_of d.mode s ≡ x → read_image d s ≡ bind x (test_body d (length s))
unfolding read_image
image-by d s x e = ap (λ (a : Answer Outline). bind a (test_body d (length s))) e

pub image-limited : (d : Decoding) (s : List ℕ) (h : Outline) (x : Answer (Unit {0})) → header_of d.mode s ≡ gives h
    → check_limits d h.width h.height (plane_of h) h.body ≡ x → read_image d s ≡ bind x (λ _. after_limits (length s) h)
unfolding test_body
image-limited d s h x e l =
    image-by d s (gives h) e ∙ ap (λ (a : Answer (Unit {0})). bind a (λ _. after_limits (length s) h)) l

pub on-header : (d : Decoding) (s : List ℕ) (o : Settings) (r x : Result ParsedHeader WbmpError) → o ≡ image_settings d.mode
    → meaning r ≡ map outline (read_header o s) → r ≡ x → read_image d s ≡ bind (meaning x) (test_body d (length s))
on-header d s o r x p q e = image-by d s (meaning x) (sym (sym (ap meaning e) ∙ q ∙ ap (λ (o : Settings). map outline (read_header o s)) p))
