-- What a reading puts out begins with the planes of whole reading.
use Prim.Native.Nat.{ℕ, zero, suc, ◌+◌, ◌-◌, ◌*◌, ◌%◌, ◌≤◌, ◌<◌, min}
use mathlib.Core.Path.{◌≡◌, refl, sym, ap, ◌∙◌}
use mathlib.Core.Bool.{Bool, true, false}
use mathlib.Core.List.{List, ◌++◌}
use native.Mathlib.Nat.{mul_comm, zero-add, zero-mul, mul-le-mul_right}
use native.Mathlib.Omega.{arith}
use borrow.Author.Tests.{leb-true, leb-false}
use lib.Dec.{leb}
use lib.ListN.{length, get_or, take, drop, length-drop}
use lib.Seq.{take_all, take-add, take-take, drop-drop, ext_get_or}
use Rattle.error.specs.Answer.{Answer, gives}
use Rattle.laws.proofs.Lists.{length_part}
use Rattle.header.specs.Read.{Outline}
use Rattle.image.specs.Geometry.{row_bytes, plane_bytes}
use Rattle.image.specs.Internal.Parts.{clear_rows}
use Rattle.image.specs.Rows.{clear_low, invert, convert_format}
use Rattle.image.specs.declared.PixelFormat.{PixelFormat}
use Rattle.image.specs.declared.PixelFormat.TheVariants.{MonoBlack, MonoWhite}
use Rattle.image.proofs.PaddingCleared.{padding_at}
use Rattle.image.proofs.InvertedBytes.{invert-length, invert-at}
use Rattle.image.proofs.PlaneSizes.{byte_inside, plane-mod}
use Rattle.image.proofs.PackedAsRows.{row-padded, clear-length, clear_at, rows_same, all-at-once}
use Rattle.options.specs.Limits.{Decoding}
use Rattle.decoder.specs.Body.{plane_of, plane_at, planes}
use Rattle.decoder.specs.Image.{header_of}
use Rattle.decoder.proofs.Planed.{one_less}
use Rattle.body_pieces.specs.InFormat.{padded, body_from}
use Rattle.decode_session.specs.Sequence.{sequence_of, sequence}
use Rattle.body_pieces.proofs.BodyBytes.{body-length, body-append, body_at, body-mod, body-take, body-black}

-- a whole plane
plane-is : (f : PixelFormat) (w h : ℕ) (plane : List ℕ) → length plane ≡ plane_bytes w h
    → convert_format MonoBlack f w h (row_bytes w) plane ≡ body_from f w 0 plane
unfolding convert_format
plane-is MonoBlack w h plane n = body-black w plane 0
plane-is MonoWhite w h plane n =
    sym (all-at-once w h plane (omega arith) n)
    ∙ ext_get_or 0 (clear_rows w h (invert plane)) (body_from MonoWhite w 0 plane)
    (clear-length w h (invert plane) ∙ invert-length plane ∙ sym (body-length MonoWhite w plane 0))
    (λ k l. rows_same w h (clear_rows w h (invert plane)) (body_from MonoWhite w 0 plane) same k
    (omega (arith, clear-length w h (invert plane), invert-length plane, n, mul_comm (row_bytes w) h)))
  where
    inside : (y j : ℕ) → y < h → j < row_bytes w → y * row_bytes w + j < length plane
    inside y j l k = omega (arith, byte_inside w h y j l k, n)

    same : (y j : ℕ) → y < h → j < row_bytes w → 0 < row_bytes w
        → get_or (clear_rows w h (invert plane)) (y * row_bytes w + j) 0 ≡ get_or (body_from MonoWhite w 0 plane) (y * row_bytes w + j) 0
    same y j l k p =
        clear_at w p (invert plane) j k h y (omega (arith, invert-length plane, n, mul_comm (row_bytes w) h)) l
        ∙ ap (clear_low (padding_at w j)) (invert-at plane (y * row_bytes w + j) (inside y j l k))
        ∙ sym (row-padded w y j (255 - get_or plane (y * row_bytes w + j) 0) k)
        ∙ ap (λ (i : ℕ). padded w i (255 - get_or plane (y * row_bytes w + j) 0)) (sym (zero-add (y * row_bytes w + j)))
        ∙ sym (body_at MonoWhite w plane 0 (y * row_bytes w + j) (inside y j l k))

-- so many planes, end to end
pub planes-are : (f : PixelFormat) (bytes : List ℕ) (h : Outline) (k : ℕ) → h.body + k * plane_of h ≤ length bytes
    → planes f bytes h k ≡ body_from f h.width 0 (take (k * plane_of h) (drop h.body bytes))
unfolding planes plane_at body_from
planes-are f bytes h zero l = rw zero-mul
planes-are f bytes h (suc k) l =
    let b = one_less h.body k (plane_of h) (length bytes) l in
    let body = drop h.body bytes in
    let n = k * plane_of h in
    let e : n + plane_of h ≡ suc k * plane_of h = omega arith in
    let size : length (take n body) ≡ n = length_part n h.body bytes b.0 in
    let part : length (take (plane_of h) (drop (h.body + n) bytes)) ≡ plane_of h = length_part (plane_of h) (h.body + n) bytes b.1 in
    ap (λ (l : List ℕ). l ++ plane_at f bytes h k) (planes-are f bytes h k b.0)
    ∙ ap (λ (l : List ℕ). body_from f h.width 0 (take n body) ++ l)
    (plane-is f h.width h.height (take (plane_of h) (drop (h.body + n) bytes)) part
    ∙ ap (λ (l : List ℕ). body_from f h.width 0 (take (plane_of h) l)) (sym (drop-drop n h.body bytes))
    ∙ body-mod f h.width (take (plane_of h) (drop n body)) 0 (0 + length (take n body))
    (sym (ap (λ (i : ℕ). (0 + i) % row_bytes h.width) size ∙ whole-rows k)))
    ∙ sym (body-append f h.width (take n body) (take (plane_of h) (drop n body)) 0)
    ∙ ap (body_from f h.width 0) (sym (take-add n (plane_of h) body) ∙ ap (λ (i : ℕ). take i body) e)
  where
    whole-rows : (k : ℕ) → (0 + k * plane_of h) % row_bytes h.width ≡ 0 % row_bytes h.width
    whole-rows k =
        let e : 0 + k * plane_of h ≡ k * plane_of h + 0 = omega arith in
        ap (λ (i : ℕ). i % row_bytes h.width) e ∙ plane-mod h.width h.height k 0

-- up to the ceiling, the first planes of what is put out are those of the file
pub sequence-planes : (ceiling : ℕ) (d : Decoding) (bytes : List ℕ) (h : Outline) (k : ℕ) → header_of d.mode bytes ≡ gives h → k ≤ ceiling
    → h.body + k * plane_of h ≤ length bytes → take (k * plane_of h) (sequence ceiling d bytes) ≡ planes d.format bytes h k
unfolding sequence
sequence-planes ceiling d bytes h k e l b =
    ap (λ (x : Answer Outline). take (k * plane_of h) (sequence_of ceiling d.format bytes x)) e
    ∙ body-take d.format h.width (k * plane_of h) (take (ceiling * plane_of h) (drop h.body bytes)) 0
    ∙ ap (body_from d.format h.width 0)
    (take-take (k * plane_of h) (ceiling * plane_of h) (drop h.body bytes) (mul-le-mul_right (plane_of h) l))
    ∙ sym (planes-are d.format bytes h k b)

-- the first planes of a body of so many, up to a ceiling
first-planes : (ceiling count plane : ℕ) (body : List ℕ) → length body ≡ count * plane
    → take (ceiling * plane) body ≡ take (min count ceiling * plane) body
first-planes ceiling count plane body n = go (leb count ceiling) refl
  where
    go : (t : Bool) → leb count ceiling ≡ t → take (ceiling * plane) body ≡ take (min count ceiling * plane) body
    go true e =
        let l = leb-true count ceiling e in
        let k : min count ceiling ≡ count = omega arith in
        let m : count * plane ≤ ceiling * plane = mul-le-mul_right plane l in
        take_all (ceiling * plane) body (omega arith) ∙ sym (take_all (count * plane) body (omega arith))
        ∙ ap (λ (i : ℕ). take (i * plane) body) (sym k)
    go false e =
        let l = leb-false count ceiling e in
        let k : min count ceiling ≡ ceiling = omega arith in
        ap (λ (i : ℕ). take (i * plane) body) (sym k)

-- all of what is put out, where the file ends with its planes
pub sequence-whole : (ceiling : ℕ) (d : Decoding) (bytes : List ℕ) (h : Outline) (count : ℕ) → header_of d.mode bytes ≡ gives h
    → length bytes ≡ h.body + count * plane_of h → sequence ceiling d bytes ≡ planes d.format bytes h (min count ceiling)
unfolding sequence
sequence-whole ceiling d bytes h count e size =
    let n : length (drop h.body bytes) ≡ count * plane_of h = length-drop h.body bytes ∙ omega arith in
    let m : min count ceiling * plane_of h ≤ count * plane_of h = mul-le-mul_right (plane_of h) (omega arith) in
    ap (sequence_of ceiling d.format bytes) e
    ∙ ap (body_from d.format h.width 0) (first-planes ceiling count (plane_of h) (drop h.body bytes) n)
    ∙ sym (planes-are d.format bytes h (min count ceiling) (omega arith))
