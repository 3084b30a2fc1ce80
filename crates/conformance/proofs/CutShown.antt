-- A card that was made, read under a cut: what is shown.
use Rattle.std.proofs.Common.{Option}
use Rattle.header.specs.declared.ParsedHeader.{ParsedHeader}
use Prim.Native.Nat.{ℕ, ◌+◌, ◌*◌, ◌≤◌, ◌<◌, min}
use mathlib.Core.Path.{◌≡◌, refl, sym, ap, ◌∙◌, subst}
use mathlib.Core.Bool.{Bool, true, false}
use mathlib.Core.List.{List, ◌∷◌, ◌++◌, append_assoc}
use native.Mathlib.Omega.{arith}
use borrow.Author.Tests.{leb-true}
use lib.Dec.{leb}
use lib.ListN.{length, take, drop}
use lib.Seq.{sets, take-length}
use Rattle.error.specs.Choice.{if}
use Rattle.error.specs.Answer.{Answer, gives, refuses, map}
use Rattle.laws.proofs.Answers.{bind-gives, when}
use Rattle.mbi.specs.Bytes.{mbi_bytes, groups}
use Rattle.ext.specs.Kinds.{Fields, none, bitfield, reserved, pairs, span_of}
use Rattle.ext_write.specs.Ceiling.{Readable, OfKind}
use Rattle.ext_write.specs.Write.{fields_bytes}
use Rattle.header.specs.Read.{Outline, outline}
use Rattle.header.specs.Write.{fix_byte, size_bytes, header_bytes, presented}
use Rattle.header.proofs.RoundTrip.{Fitting}
use Rattle.image.specs.Dots.{is_white}
use Rattle.image.specs.Geometry.{row_bytes, plane_bytes}
use Rattle.options.specs.Limits.{Decoding, settled, ceiling_of}
use Rattle.options.proofs.Ceilings.{tested, sixteen}
use Rattle.rules.specs.Rule.{Rule}
use Rattle.quantize.specs.Finished.{setting, finished}
use Rattle.decoder.specs.Body.{frames_in, planes}
use Rattle.decoder.specs.Image.{image_settings, header_of, read_image}
use Rattle.decoder.specs.Frames.{shown}
use Rattle.encoder.specs.Make.{scan_bytes, file_of_scans}
use Rattle.encode_session.specs.Model as Making
use Rattle.header_pieces.specs.Extension.{field_bytes}
use Rattle.decode_session.specs.Model.{nothing, Call, Told, frames, Reply, opening, opened, replies, shut}
use Rattle.decode_session.specs.Session.{Stands, Sees, seen, seen_of, seen_meaning}
use Rattle.decode_session.specs.Trace.{Cut, joined}
use Rattle.decode_session.specs.declared.DecodeSession.{DecodeSession}
use Rattle.decode_session.specs.Sequence.{sequence}
use Rattle.decode_session.proofs.Lists.{lists}
use Rattle.decode_session.proofs.Cuts.{midway, unmet, whole}
use Rattle.decode_session.proofs.CutSequences.{sequence-none}
use Rattle.decode_session.proofs.CutOutputs.{stored_to, outputs}
use Rattle.decode_session.proofs.CutBuffers.{Ended, buffers}
use Rattle.decode_session.proofs.WholeReading.{sequence-whole}
use Rattle.conformance.specs.ReadBack.{Taken, Admitted, plane_in, lent_scan, scan_white, ReadsBack}
use Rattle.conformance.specs.Lists.{ReadingList, fields_shown, Shows}
use Rattle.conformance.proofs.Files.{Filed, filed, head, header_read, fitting}
use Rattle.conformance.proofs.ReadBack.{all_there, image-read, frames-are}
use Rattle.conformance.proofs.Made.{Passed, passed, body-size, made-back}
use Rattle.conformance.proofs.FieldsLeft.{FileHeld, held_none, held_more, held-shows}

-- the settings of an accepted opening passed their test, and it was lent enough
opening-says : (d : Decoding) (n : ℕ) → opening d n ≡ gives tt → (1 ≤ ceiling_of d) × (4118 ≤ n)
opening-says d n e =
    let b = bind-gives (settled d) (λ _. if (leb 4118 n) (gives tt) (refuses 28 0)) tt e in
    ((tested d b.0 b.1).some, leb-true 4118 n (when (leb 4118 n) 28 0 (gives tt) tt b.2).0)

-- the plain machine accepts what is accepted
module _ {d : Decoding} {cs : List Call} {rs : List Reply} {last : DecodeSession} {extension : List ℕ}
    (l : ReadingList d cs rs last extension) where
  pub admitted : opening d (length l.lent) ≡ gives tt
  admitted = sym l.opens.answer ∙ l.accepted

  pub some_read : 1 ≤ ceiling_of d
  some_read = (opening-says d (length l.lent) admitted).0

  begun : Stands l.opened (opened d)
  begun = l.opens.stands admitted

  pub replied : rs ≡ replies (opened d) cs
  replied = (lists (opened d) begun l.trace).0

-- a cut of a file that is read
module _ (d : Decoding) (bytes : List ℕ) (h : Outline) (read : read_image d bytes ≡ gives h)
    {cs : List Call} {rs : List Reply} {last : DecodeSession}
    {extension : List ℕ} {closing : Answer Told} (l : ReadingList d cs rs last extension) (cut : Cut bytes 0 false cs rs closing) where
  module _ (K : ℕ → List ℕ → Type 0)
      (more : (at n : ℕ) (ext : List ℕ) → at + n ≤ length bytes → K at ext → K (at + n) (stored_to d bytes h read at (at + n) ext)) where
    ended : K 0 l.lent → Ended d bytes h read K more last extension
    ended k = buffers d bytes h read K more (omega arith) refl (begun l) k l.trace cut

  header_is : header_of d.mode bytes ≡ gives h → (r : Option ParsedHeader) → Sees last r → seen_meaning r ≡ seen h
  header_is e r s =
      s.does (shut (midway d bytes (length bytes) nothing)) (ended (λ at ext. Unit {0}) (λ at n ext b k. tt) tt).stands
      ∙ ap (λ (b : List ℕ). seen_of (header_of d.mode b) nothing) (take-length bytes)
      ∙ ap (λ (a : Answer Outline). seen_of a nothing) e

  closing-is : closing ≡ gives (frames (frames_in (ceiling_of d) (length bytes) h))
  closing-is =
      whole d bytes nothing unmet (omega arith) cut (replied l)
      ∙ ap (λ (a : Answer Outline). map frames (map (frames_in (ceiling_of d) (length bytes)) a)) read

  pub joined_is : joined rs ≡ sequence (ceiling_of d) d bytes
  joined_is =
      outputs d bytes h read (omega arith) refl cut (replied l)
      ∙ ap (λ (s : List ℕ). drop (length s) (sequence (ceiling_of d) d bytes)) (sequence-none (ceiling_of d) d)

  -- the fields, where the file has some
  module _ (strict : Bool) (fb τ : List ℕ) where
    by-buffer : (f : Fields) → bytes ≡ 0 ∷ fix_byte f ∷ (fb ++ τ) → fields_bytes strict f ≡ gives fb → OfKind f
        → Readable f
        → (image_settings d.mode).fix_zero ≡ false → (image_settings d.mode).honoured ≡ true
        → ((image_settings d.mode).classes ≡ true → strict ≡ true) → fields_shown (span_of 2 (f, 2 + length fb)) extension ≡ gives f
    by-buffer f e g i r p q c =
        let o = image_settings d.mode in
        let K = FileHeld o strict f fb τ i r p q c g in
        let n = ended K (λ at n ext b k.
        subst (λ (s : List ℕ). K (at + n)
        (sets ext (length (field_bytes o (take at s))) (drop (length (field_bytes o (take at s))) (field_bytes o (take (at + n) s)))))
        (sym e) (held_more o strict f fb τ i r p q c g at n ext k))
        (held_none o strict f fb τ i r p q c g l.lent (opening-says d (length l.lent) (admitted l)).1) in
        held-shows o strict f fb τ i r p q c g extension (subst (λ (s : List ℕ). K (length s) extension) e n.holds)

    fields-are : (f : Fields) → bytes ≡ 0 ∷ fix_byte f ∷ (fb ++ τ) → fields_bytes strict f ≡ gives fb
        → Fitting (image_settings d.mode) strict f
        → fields_shown (span_of 2 (f, 2 + length fb)) extension ≡ gives f
    fields-are none e g t = refl
    fields-are (bitfield octets) e g t = by-buffer (bitfield octets) e g tt t.0 t.1 t.2 t.3
    fields-are (reserved kind octet) e g t = by-buffer (reserved kind octet) e g t.0 tt t.1 t.2 t.3
    fields-are (pairs ps) e g t = by-buffer (pairs ps) e g tt t.0 t.1 t.2 t.3

-- the parts of a header's file
at_fields : (fix : ℕ) (fb : List ℕ) (w h : ℕ) (body : List ℕ) → header_bytes fix fb w h ++ body ≡ 0 ∷ fix ∷ (fb ++ (size_bytes w h ++ body))
unfolding mbi_bytes groups
at_fields fix fb w h body = ap (λ (l : List ℕ). 0 ∷ fix ∷ l) (append_assoc fb (size_bytes w h) body)

module _ (d : Decoding) (a : Making.Opening) (fields : Fields) (k : ℕ) (scans bytes : List ℕ) (work : ℕ) (wb : a.width < 4294967296)
    (hb : a.height < 4294967296) (reads : 1 ≤ ceiling_of d) (lent : presented a.options.ext a.text a.lengths ≡ gives fields)
    (taken : Taken d.mode a.options.strict fields) (adm : Admitted d a.width a.height)
    (made : file_of_scans 16 a.options a.width a.height k scans a.text a.lengths work ≡ gives bytes) where
  abbrev w : ℕ
  w = a.width

  abbrev h : ℕ
  h = a.height

  abbrev rule : Rule
  rule = (Making.setting_of a).rule

  abbrev most : ℕ
  most = ceiling_of d

  back : ReadsBack most d bytes w h fields k (λ f. finished (setting rule w h 1) (lent_scan w h scans f))
      (λ f. scan_white rule w h (lent_scan w h scans f))
  back = made-back 16 most d a.options w h k scans a.text a.lengths work bytes fields wb hb reads lent taken adm made

  tests : Passed 16 a.options w h k scans a.text a.lengths work bytes
  tests = passed 16 a.options w h k scans a.text a.lengths work bytes made

  -- a card has 16 scans at most, and so many are read
  every-scan : min k most ≡ k
  every-scan = omega (arith, sixteen d, tests.tests.sized.few)

  abbrev body : List ℕ
  body = scan_bytes rule w h scans k

  parts : Filed a.options.strict w h fields body bytes
  parts = filed a.options w h a.text a.lengths body bytes fields lent tests.file

  fit : Fitting (image_settings d.mode) a.options.strict fields
  fit = fitting d.mode a.options.strict a.options.ext a.text a.lengths fields lent taken

  long : length body ≡ k * plane_bytes w h
  long = body-size rule w h scans parts.wide parts.high k tests.tests.enough k (omega arith)

  abbrev shape : Outline
  shape = outline (head a.options.strict w h fields body bytes parts)

  read : read_image d bytes ≡ gives shape
  read = image-read most d a.options.strict w h fields k body bytes parts tests.tests.sized.some reads wb hb fit adm long

  count-is : frames_in most (length bytes) shape ≡ min k most
  count-is = frames-are most d a.options.strict w h fields k body bytes parts tests.tests.sized.some reads wb hb fit adm long

  headed : header_of d.mode bytes ≡ gives shape
  headed = ap (map outline) (header_read a.options.strict w h fields body bytes parts (image_settings d.mode) wb hb fit)

  output-is : planes d.format bytes shape (min k most) ≡ back.output
  unfolding shown
  output-is =
      let e =
      sym (ap (map (λ h. planes d.format bytes h (frames_in most (length bytes) h))) read
      ∙ ap (λ (n : ℕ). gives (planes d.format bytes shape n)) count-is) ∙ back.shows in
      cc

  sequence-is : sequence most d bytes ≡ back.output
  sequence-is =
      sequence-whole most d bytes shape k headed
      (all_there most d a.options.strict w h fields k body bytes parts tests.tests.sized.some reads wb hb fit adm long)
      ∙ output-is

  pub shows : {cs : List Call} {rs : List Reply} {last : DecodeSession} {extension : List ℕ} {closing : Answer Told}
      → ReadingList d cs rs last extension
      → Cut bytes 0 false cs rs closing → Shows d a fields k scans last extension (joined rs) closing
  shows {rs = rs} l cut =
      let j = joined_is d bytes shape read l cut ∙ sequence-is in
      record {
        header = shape;
        seen = header_is d bytes shape read l cut headed;
        width = refl;
        height = refl;
        fields_are = fields-are d bytes shape read l cut a.options.strict parts.field_bytes (size_bytes w h ++ body) fields
            (parts.bytes_are ∙ at_fields (fix_byte fields) parts.field_bytes w h body) parts.fields_give fit;
        frames = closing-is d bytes shape read l cut ∙ ap (λ (n : ℕ). gives (frames n)) (count-is ∙ every-scan);
        size = ap length j ∙ back.size ∙ ap (λ (n : ℕ). n * plane_bytes w h) every-scan;
        dots = λ f x y b.
            ap (λ (s : List ℕ). is_white d.format w h (row_bytes w) (plane_in w h s f) x y) j
            ∙ back.dots f x y (omega (arith, every-scan));
      }
