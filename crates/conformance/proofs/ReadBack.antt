-- A file of a header and so many planes is read back.
use Prim.Native.Nat.{ℕ, zero, suc, ◌+◌, ◌-◌, ◌*◌, ◌/◌, ◌≤◌, ◌<◌, min}
use mathlib.Core.Path.{◌≡◌, refl, sym, ap, ◌∙◌, subst}
use mathlib.Core.Bool.{Bool, true, false}
use mathlib.Core.List.{List, ◌++◌}
use native.Mathlib.Nat.{mul-le-mul_right, mul-div_cancel}
use native.Mathlib.Omega.{arith}
use borrow.Author.Tests.{leb-true, leb-false, le-leb, le-ltb}
use lib.Dec.{leb}
use lib.ListN.{length, take, drop}
use lib.Seq.{drop-drop}
use Rattle.error.specs.Answer.{Answer, gives, bind, map}
use Rattle.laws.proofs.Lists.{length_part}
use Rattle.laws.proofs.Octets.{Octets}
use Rattle.laws.proofs.Tests.{if-true}
use Rattle.laws.proofs.Products.{up_to, one_of}
use Rattle.ext.specs.Kinds.{Fields}
use Rattle.header.specs.Read.{Header, Outline, outline, read_header}
use Rattle.header.proofs.RoundTrip.{Fitting}
use Rattle.image.specs.Geometry.{row_bytes, plane_bytes}
use Rattle.image.specs.Dots.{is_white}
use Rattle.image.specs.Rows.{convert_format}
use Rattle.image.specs.declared.PixelFormat.TheVariants.{MonoBlack}
use Rattle.image.proofs.PlaneSizes.{plane-some}
use Rattle.image.proofs.MaskClears.{bytes-source}
use Rattle.image.proofs.WireRows.{source-there}
use Rattle.options.specs.Limits.{Decoding, check_limits}
use Rattle.decoder.specs.Body.{extra_frames, frames_in, source_plane, plane_at, planes}
use Rattle.decoder.specs.Image.{image_settings, test_body, read_image}
use Rattle.decoder.specs.Frames.{image_of, fitted, decoded, shown}
use Rattle.decoder.proofs.Counted.{few, many}
use Rattle.decoder.proofs.Planed.{planes-length}
use Rattle.conformance.specs.ReadBack.{Admitted, plane_in, ReadsBack}
use Rattle.conformance.proofs.Joined.{piece_back}
use Rattle.conformance.proofs.Files.{Filed, head, header_read, behind, size_is}
use Rattle.conformance.proofs.ReadDots.{read-dots}

-- so many planes are counted, up to a ceiling
pub planes-counted : (most count plane size : ℕ) → 0 < plane → 1 ≤ count → 1 ≤ most → size ≡ count * plane
    → 1 + extra_frames (most - 1) plane size ≡ min count most
planes-counted most zero plane size p c r e = let z : ⊥ = omega arith in absurd z
planes-counted most (suc n) plane size p c r e = go (leb n (most - 1)) refl
  where
    whole : (size - plane) / plane ≡ n
    whole = let m : size - plane ≡ n * plane = omega arith in ap (λ (k : ℕ). k / plane) m ∙ mul-div_cancel n p

    go : (t : Bool) → leb n (most - 1) ≡ t → 1 + extra_frames (most - 1) plane size ≡ min (suc n) most
    go true l =
        let k = leb-true n (most - 1) l in
        ap (λ (k : ℕ). 1 + k) (sym (few (most - 1) plane size (omega (arith, whole))) ∙ whole) ∙ omega arith
    go false l =
        let k = leb-false n (most - 1) l in
        ap (λ (k : ℕ). 1 + k) (sym (many (most - 1) plane size (omega (arith, whole)))) ∙ omega arith

module _ (most : ℕ) (d : Decoding) (strict : Bool) (width height : ℕ) (fields : Fields) (count : ℕ) (body bytes : List ℕ)
    (f : Filed strict width height fields body bytes) (c : 1 ≤ count) (r : 1 ≤ most) (wb : width < 4294967296) (hb : height < 4294967296)
    (fit : Fitting (image_settings d.mode) strict fields) (adm : Admitted d width height)
    (whole : length body ≡ count * plane_bytes width height) where
  abbrev pub header : Header
  header = head strict width height fields body bytes f

  read : read_header (image_settings d.mode) bytes ≡ gives header
  read = header_read strict width height fields body bytes f (image_settings d.mode) wb hb fit

  abbrev plane : ℕ
  plane = plane_bytes width height

  some : 0 < plane
  some = plane-some width height f.wide f.high

  -- all planes stand behind the header
  pub all_there : length bytes ≡ header.body + count * plane
  all_there = size_is strict width height fields body bytes f ∙ ap (λ (n : ℕ). header.body + n) whole

  left : length bytes - header.body ≡ count * plane
  left = omega (arith, all_there)

  one-there : plane ≤ count * plane
  one-there = one_of plane count c

  pub image-read : read_image d bytes ≡ gives (outline header)
  unfolding read_image test_body check_limits
  image-read =
      ap (λ (a : Answer Header). bind (map outline a) (test_body d (length bytes))) read
      ∙ rw (adm.wide, adm.high, adm.pixels, adm.bytes, left, le-ltb (count * plane) plane one-there)

  abbrev frames : ℕ
  frames = min count most

  pub frames-are : frames_in most (length bytes) (outline header) ≡ frames
  frames-are = planes-counted most count plane (length bytes - header.body) some c r left

  -- plane k as the file has it
  source_is : (k : ℕ) → source_plane bytes (outline header) k ≡ plane_in width height body k
  source_is k =
      ap (take plane)
      (sym (drop-drop (k * plane) header.body bytes)
      ∙ ap (drop (k * plane)) (behind strict width height fields body bytes f))

  -- plane k as it is shown
  abbrev shown_planes : ℕ → List ℕ
  shown_planes = planes d.format bytes (outline header)

  long : (k : ℕ) → k ≤ count → length (shown_planes k) ≡ k * plane
  long k l =
      let m : k * plane ≤ count * plane = mul-le-mul_right plane l in
      planes-length d.format bytes (outline header) k (omega (arith, all_there))

  next : (k : ℕ) → k < count → shown_planes (suc k) ≡ shown_planes k ++ plane_at d.format bytes (outline header) k
  unfolding planes
  next k l = refl

  plane-shown : (k : ℕ) → k < frames
      → plane_in width height (shown_planes frames) k
      ≡ convert_format MonoBlack d.format width height (row_bytes width) (plane_in width height body k)
  unfolding plane_at
  plane-shown k l =
      piece_back plane count (plane_at d.format bytes (outline header)) shown_planes long next frames k (omega arith) l
      ∙ ap (convert_format MonoBlack d.format width height (row_bytes width)) (source_is k)

  -- the bytes of plane k
  source-size : (k : ℕ) → k < count → length (plane_in width height body k) ≡ plane
  source-size k l = length_part plane (k * plane) body (omega (arith, up_to plane k count l, whole))

  source-bytes : Octets body → (k : ℕ) → k < count → Octets (plane_in width height body k)
  source-bytes o k l =
      subst Octets (source-there plane plane body k (omega (arith, up_to plane k count l, whole))) (bytes-source plane plane body k o)

  pub file-back : Octets body
      → ReadsBack most d bytes width height fields count (plane_in width height body)
      (λ k. is_white MonoBlack width height (row_bytes width) (plane_in width height body k))
  unfolding decoded shown
  file-back o =
      record {
        image = image_of (outline header) frames;
        output = shown_planes frames;
        answer = λ room l.
            ap (λ (a : Answer Outline). bind a (λ h. fitted room h (frames_in most (length bytes) h))) image-read
            ∙ ap (fitted room (outline header)) frames-are
            ∙ if-true _ _ _ (le-leb (frames * plane) room (omega (arith, long frames (omega arith))));
        shows =
            ap (map (λ h. planes d.format bytes h (frames_in most (length bytes) h))) image-read
            ∙ ap (λ (n : ℕ). gives (shown_planes n)) frames-are;
        width_is = refl;
        height_is = refl;
        frames_are = refl;
        written_is = sym (long frames (omega arith));
        fix_is = refl;
        fields_are = ap (map (λ (h : Header). h.fields)) read;
        body_is = sym all_there;
        size = long frames (omega arith);
        plane_is = plane-shown;
        dots = λ k x y l.
            ap (λ (s : List ℕ). is_white d.format width height (row_bytes width) s x y) (plane-shown k l)
            ∙ read-dots width height f.wide f.high wb hb d.format (plane_in width height body k) (source-size k (omega arith))
            (source-bytes o k (omega arith)) x y;
      }

-- the same by other names of the planes and dots
pub renamed : {most : ℕ} {d : Decoding} {bytes : List ℕ} {width height : ℕ} {fields : Fields} {count : ℕ} {plane plane' : ℕ → List ℕ}
    {white white' : ℕ → ℕ → ℕ → Bool} → ((k : ℕ) → k < count → plane k ≡ plane' k) → ((k x y : ℕ) → k < count → white k x y ≡ white' k x y)
    → ReadsBack most d bytes width height fields count plane white → ReadsBack most d bytes width height fields count plane' white'
renamed {d = d} {width = width} {height = height} p w r =
    record {
      image = r.image;
      output = r.output;
      answer = r.answer;
      shows = r.shows;
      width_is = r.width_is;
      height_is = r.height_is;
      frames_are = r.frames_are;
      written_is = r.written_is;
      fix_is = r.fix_is;
      fields_are = r.fields_are;
      body_is = r.body_is;
      size = r.size;
      plane_is = λ k l. r.plane_is k l ∙ ap (convert_format MonoBlack d.format width height (row_bytes width)) (p k (omega arith));
      dots = λ k x y l. r.dots k x y l ∙ w k x y (omega arith);
    }
