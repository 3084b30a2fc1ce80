-- A call of `feed`, by the session's stage.
use Rattle.std.proofs.Common.{Result, Ok, Err}
use Rattle.error.specs.Answer.{number}
use Prim.Native.Nat.{ℕ, ◌≤◌}
use mathlib.Core.Path.{◌≡◌, refl, sym, ap, subst, ◌∙◌}
use mathlib.Core.Bool.{Bool, true, false}
use mathlib.Core.List.{List, ◌++◌, append-nil}
use lib.ListN.{length}
use Rattle.error.specs.declared.Refusal.TheVariants.{SessionClosed}
use Rattle.error.specs.declared.WbmpError.{WbmpError}
use Rattle.header.specs.Read.{Outline, parsed}
use Rattle.header_reader.specs.declared.FieldsSeen.{FieldsSeen}
use Rattle.header.specs.declared.ParsedHeader.{ParsedHeader}
use Rattle.header_pieces.specs.Internal.Head.{TellsFields}
use Rattle.header_pieces.specs.declared.HeadReading.{HeadReading}
use Rattle.decoder.specs.Image.{image_settings}
use Rattle.decode_session.specs.Model.{Met, nothing, Model, feed, stored, fed_by, unaltered, outcome}
use Rattle.decode_session.specs.Session.{InBody, Stands, Feeds}
use Rattle.decode_session.specs.Internal.Stages.{ChecksBuffer, in_stage, answer_of, stage_of, FedAs, having, Enters, FeedsPlanes, FeedsHead}
use Rattle.decode_session.specs.declared.Stage.{Stage}
use Rattle.error.specs.declared.Fed.{Fed}
use Rattle.decode_session.specs.declared.DecodeSession.{DecodeSession}
use Rattle.decode_session.proofs.Headers.{header-later}
use Rattle.decode_session.proofs.StageFacts.{staged, in-body}
use Rattle.decode_session.proofs.FieldBytes.{fields-kept}
use Rattle.decode_session.proofs.BodyShown.{shown-length}
use Rattle.decode_session.proofs.RefusalsMet.{admitted}
use Rattle.decode_session.proofs.Replies.{stored-none, reading, closed, met-earlier, short, Fits, agreed}

-- a refusal that alters nothing
unaltered-fits : (s : DecodeSession) (m : Model) (piece out ext : List ℕ) (e : WbmpError) → Stands s m
    → outcome m (feed piece out ext) ≡ unaltered m (number e.kind) e.offset out ext
    → Fits m piece out ext (Err e) s out ext
unaltered-fits s m piece out ext e st x =
    agreed m piece out ext (Err e) s out ext ext _ x refl (record { reply = refl; stands = st })

module _ (s : DecodeSession) (piece out ext : List ℕ) (e : WbmpError) where
  pub feed-closed : s.live ≡ false → e ≡ record { kind = SessionClosed; offset = 0 }
      → Feeds s piece out ext (Err e) s out ext
  feed-closed l n =
      record {
        does =
            λ m st. unaltered-fits s m piece out ext e st
            (closed m piece out ext (sym st.live ∙ l) ∙ ap (λ (e : WbmpError). unaltered m (number e.kind) e.offset out ext) (sym n));
      }

  -- of an open session
  pub feed-met : s.live ≡ true → (f : FieldsSeen) → s.stage ≡ Stage.Refused e f
      → Feeds s piece out ext (Err e) s out ext
  feed-met l f g =
      record {
        does =
            λ m st. unaltered-fits s m piece out ext e st
            (met-earlier m piece out ext (number e.kind) e.offset (sym st.live ∙ l) (staged m g st.stage).0);
      }

  -- that has met none
  feed-short : s.live ≡ true → ChecksBuffer (length ext) (Err e) → ((m : Model) → Stands s m → m.met ≡ nothing)
      → Feeds s piece out ext (Err e) s out ext
  feed-short l h none =
      record {
        does =
            λ m st. unaltered-fits s m piece out ext e st
            (short m piece out ext (sym st.live ∙ l) (none m st) h.0
            ∙ ap (λ (e : WbmpError). unaltered m (number e.kind) e.offset out ext) (sym h.1));
      }

  pub short-in-header : s.live ≡ true → (r : HeadReading) → s.stage ≡ Stage.Header r → ChecksBuffer (length ext) (Err e)
      → Feeds s piece out ext (Err e) s out ext
  short-in-header l r g h = feed-short l h (λ m st. (staged m g st.stage).0)

  pub short-in-body : s.live ≡ true → (p : ParsedHeader) (whole begun : ℕ) → s.stage ≡ Stage.Body p whole begun
      → ChecksBuffer (length ext) (Err e) → Feeds s piece out ext (Err e) s out ext
  short-in-body l p whole begun g h = feed-short l h (λ m st. (in-body m g st.stage).nothing_met)

-- the session stays open
open-still : (s : DecodeSession) (piece out ext out' ext' : List ℕ) (x : Stage) (a : Result Fed WbmpError) → s.live ≡ true
    → Feeds s piece out ext a (in_stage s.options x) out' ext'
    → Feeds s piece out ext a (record s { stage = x }) out' ext'
open-still s piece out ext out' ext' x a l f =
    subst (λ (b : Bool). Feeds s piece out ext a (record { options = s.options; stage = x; live = b })
    out' ext') (sym l) f

module _ (s : DecodeSession) (piece out ext out' ext' : List ℕ) (l : s.live ≡ true) (h : HeadReading) (g : s.stage ≡ Stage.Header h)
    (f : FieldsSeen) (u : TellsFields h f) where
  headed : (r : Result (Stage × Fed) WbmpError) → FeedsHead s.options h piece out ext r out' ext'
      → Feeds s piece out ext (answer_of r) (in_stage s.options (stage_of f r)) out' ext'
  headed r b =
      record {
        does =
            λ m st. (b.does f u).does m
            (record { tested = st.tested; options = st.options; live = sym l ∙ st.live; stage = staged m g st.stage });
      }

  pub feed-header : (x : Stage) (fed : Fed) → FeedsHead s.options h piece out ext (Ok (x, fed)) out' ext'
      → Feeds s piece out ext (Ok fed) (record s { stage = x }) out' ext'
  feed-header x fed b = open-still s piece out ext out' ext' x (Ok fed) l (headed (Ok (x, fed)) b)

  pub feed-refused : (e : WbmpError) → FeedsHead s.options h piece out ext (Err e) out' ext'
      → Feeds s piece out ext (Err e) (record s { stage = Stage.Refused e f }) out' ext'
  feed-refused e b = open-still s piece out ext out' ext' (Stage.Refused e f) (Err e) l (headed (Err e) b)

-- none of the piece is needed to come to the body
enters : (m : Model) (piece : List ℕ) (h : Outline) (whole begun : ℕ) → InBody m h whole begun → Enters m piece 0 h whole begun
enters m piece h whole begun b =
    record {
      in_body =
          subst (λ (l : List ℕ). InBody (having m l) h whole begun) (sym (append-nil m.bytes))
          (record {
            nothing_met = refl;
            header_is = b.header_is;
            admitted = b.admitted;
            start = b.start;
            below = b.below;
            place = b.place;
          });
      earlier = shown-length b;
    }

pub feed-body : (s : DecodeSession) (piece out ext out' : List ℕ) → s.live ≡ true → 4118 ≤ length ext
    → (p : ParsedHeader) (whole begun : ℕ) → s.stage ≡ Stage.Body p whole begun
    → (x : Stage × Fed) → FeedsPlanes s.options p whole begun 0 piece out x.0 x.1 out'
    → Feeds s piece out ext (Ok x.1) (record s { stage = x.0 }) out' ext
feed-body s piece out ext out' l long p whole begun g x f =
    open-still s piece out ext out' ext x.0 (Ok x.1) l (record { does = fits })
  where
    fits : (m : Model) → Stands s m → Fits m piece out ext (Ok x.1) (in_stage s.options x.0) out' ext
    fits m st =
        let b = in-body m g st.stage in
        let o = image_settings m.options.mode in
        let d = in_stage s.options x.0 in
        agreed m piece out ext (Ok x.1) d out' ext _ _ (reading m piece out ext (sym st.live ∙ l) b.nothing_met long)
        (stored-none m ext (m.bytes ++ piece) (fields-kept o m.bytes piece (parsed p) b.header_is))
        (subst (λ (y : Met). FedAs (Ok x.1) d out' (stored m (m.bytes ++ piece) ext) (fed_by m piece out ext y))
        (sym (admitted m piece (parsed p) (header-later o m.bytes (parsed p) b.header_is piece) b.admitted))
        (f.does m ext st.tested st.options (enters m piece (parsed p) whole begun b)))
