-- What a session tells of itself in each stage.
use Rattle.std.proofs.Common.{min}
use Prim.Native.Nat.{ℕ, zero, suc, ◌+◌, ◌-◌, ◌*◌, ◌/◌, ◌≤◌, ◌<◌}
use mathlib.Core.Path.{◌≡◌, refl, sym, ap, ◌∙◌}
use mathlib.Core.Bool.{Bool, true, false}
use mathlib.Core.Logic.{◌⊎◌, inl, inr, ⊎_elim}
use native.Mathlib.Nat.{div-eq_of_lt-le, le-div_iff_mul-le}
use native.Mathlib.Omega.{arith}
use borrow.Author.Tests.{leb-true, leb-false}
use lib.Dec.{leb}
use lib.ListN.{length}
use Rattle.error.specs.Choice.{if}
use Rattle.error.specs.Answer.{gives, refuses}
use Rattle.error.specs.declared.WbmpError.{WbmpError}
use Rattle.header.specs.Read.{Outline, parsed}
use Rattle.header_reader.specs.declared.FieldsSeen.{FieldsSeen}
use Rattle.header.specs.declared.ParsedHeader.{ParsedHeader}
use Rattle.header_pieces.specs.declared.HeadReading.{HeadReading}
use Rattle.header_reader.proofs.EndRefusal.{end_code, end_offset}
use Rattle.header_pieces.proofs.KnownFields.{known-header}
use Rattle.options.specs.Limits.{ceiling_of}
use Rattle.decoder.specs.Body.{plane_of}
use Rattle.decoder.specs.Image.{image_settings}
use Rattle.decoder.proofs.Headed.{image-by}
use Rattle.header_pieces.specs.Internal.Head.{HasRead, TellsFields}
use Rattle.decode_session.specs.Model.{Model, frames, closing}
use Rattle.decode_session.specs.Session.{whole_in, frames_done, InBody, BeforeHeader, StageOf, Stands, TellsFrames}
use Rattle.decode_session.specs.Session.{SeesFields}
use Rattle.decode_session.specs.declared.Stage.{Stage}
use Rattle.decode_session.specs.declared.DecodeSession.{DecodeSession}
use Rattle.decode_session.proofs.Headers.{unread-end}
use Rattle.decode_session.proofs.StageFacts.{staged, in-body}
use Rattle.decode_session.proofs.CloseAnswers.{closes_by, none-whole, all_whole, at_most}

-- no frame is done while a header is read
none_done : (m : Model) (r : HeadReading) → HasRead (image_settings m.options.mode) m.bytes r → frames_done m ≡ 0
none_done m r h =
    ap (whole_in (ceiling_of m.options) (length m.bytes))
    (unread-end (image_settings m.options.mode) m.bytes h.state h.reached)

-- and the reading tells what the bytes do of the fields
pub unread-so : (m : Model) (r : HeadReading) (f : FieldsSeen) → HasRead (image_settings m.options.mode) m.bytes r → TellsFields r f
    → BeforeHeader m f
unread-so m r f h k = record { none = none_done m r h; fields = k (image_settings m.options.mode) m.bytes h }

-- a count up to a ceiling
capped : (n ceiling whole : ℕ) → whole ≤ ceiling → (n ≡ whole) ⊎ ((whole ≡ ceiling) × (whole ≤ n)) → if (leb n ceiling) n ceiling ≡ whole
capped n ceiling whole l h = go (leb n ceiling) refl
  where
    go : (t : Bool) → leb n ceiling ≡ t → if t n ceiling ≡ whole
    go true e =
        let k = leb-true n ceiling e in
        ⊎_elim (λ (p : n ≡ whole). p) (λ (p : (whole ≡ ceiling) × (whole ≤ n)). omega arith) h
    go false e =
        let k = leb-false n ceiling e in
        ⊎_elim (λ (p : n ≡ whole). omega arith) (λ (p : (whole ≡ ceiling) × (whole ≤ n)). omega arith) h

module _ {m : Model} {h : Outline} {whole begun : ℕ} (b : InBody m h whole begun) where
  abbrev size : ℕ
  size = length m.bytes - h.body

  pub done-in : frames_done m ≡ whole
  done-in = ap (whole_in (ceiling_of m.options) (length m.bytes)) b.header_is ∙ ⊎_elim inside behind b.place
    where
      inside : (whole < ceiling_of m.options) × (h.body + (whole * plane_of h + begun) ≡ length m.bytes)
          → if (leb (size / plane_of h) (ceiling_of m.options)) (size / plane_of h) (ceiling_of m.options) ≡ whole
      inside v =
          let q : size / plane_of h ≡ whole = div-eq_of_lt-le (plane_of h) (omega (arith, v.1)) (omega (arith, v.1, b.below)) in
          capped (size / plane_of h) (ceiling_of m.options) whole (omega (arith, v.0)) (inl q)

      behind : (whole ≡ ceiling_of m.options) × ((begun ≡ 0) × (h.body + whole * plane_of h ≤ length m.bytes))
          → if (leb (size / plane_of h) (ceiling_of m.options)) (size / plane_of h) (ceiling_of m.options) ≡ whole
      behind v =
          let l : whole ≤ size / plane_of h = (le-div_iff_mul-le {k = plane_of h} (omega (arith, b.below))).1 (omega (arith, v.1.1)) in
          capped (size / plane_of h) (ceiling_of m.options) whole (omega (arith, v.0)) (inr (v.0, l))

module _ (s : DecodeSession) where
  module _ (r : HeadReading) (g : s.stage ≡ Stage.Header r) where
    pub header-frames : TellsFrames s 0
    header-frames = record { does = λ m st. sym (none_done m r (staged m g st.stage).1) }

  module _ (p : ParsedHeader) (whole begun : ℕ) (g : s.stage ≡ Stage.Body p whole begun) where
    pub body-frames : (n : ℕ) → n ≡ min whole 16 → TellsFrames s n
    body-frames n i =
        record {
          does =
              λ m st.
              let b = in-body m g st.stage in
              omega (arith, at_most b st.tested, done-in b);
        }

    pub body-fields : SeesFields s (FieldsSeen.Seen p.ext_fields)
    body-fields =
        record {
          does = λ m st. sym (known-header (image_settings m.options.mode) m.bytes (parsed p)
              (in-body m g st.stage).header_is);
        }

  module _ (e : WbmpError) (f : FieldsSeen) (g : s.stage ≡ Stage.Refused e f) where
    unread : (m : Model) → Stands s m → BeforeHeader m f
    unread m st = (staged m g st.stage).1

    pub refused-frames : TellsFrames s 0
    refused-frames = record { does = λ m st. sym (unread m st).none }

-- closing counts the frames that are done
pub counted : (s : DecodeSession) (m : Model) (n : ℕ) → Stands s m → closing m m.met ≡ gives (frames n) → frames_done m ≡ n
counted s m n st e = go s.stage st.stage
  where
    body : (p : ParsedHeader) (whole begun : ℕ) → InBody m (parsed p) whole begun → frames_done m ≡ n
    body p zero begun b = let q = none-whole b st.tested refl in cc
    body p (suc k) begun b =
        let q = all_whole b st.tested (omega arith) in
        let same : suc k ≡ n = cc in
        done-in b ∙ same

    go : (x : Stage) → StageOf x m → frames_done m ≡ n
    go (Stage.Header r) u =
        let h = unread-end (image_settings m.options.mode) m.bytes u.1.state u.1.reached in
        let q = closes_by m (refuses (end_code u.1.state) (end_offset u.1.state)) u.0 (image-by m.options m.bytes _ h) in
        cc
    go (Stage.Body p whole begun) b = body p whole begun b
    go (Stage.Refused x f) u = let q = ap (closing m) u.0 in cc
