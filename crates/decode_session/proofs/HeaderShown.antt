-- The header that a session shows.
use Rattle.std.proofs.Common.{None}
use mathlib.Core.Path.{◌≡◌, refl, sym, ap, ◌∙◌}
use Rattle.error.specs.Answer.{Answer, gives, refuses, number}
use Rattle.error.specs.declared.WbmpError.{WbmpError}
use Rattle.header.specs.Read.{Outline}
use Rattle.header_reader.specs.declared.FieldsSeen.{FieldsSeen}
use Rattle.header_pieces.specs.declared.HeadReading.{HeadReading}
use Rattle.decoder.specs.Image.{image_settings, header_of}
use Rattle.decode_session.specs.Model.{Met, nothing, met_at}
use Rattle.decode_session.specs.Session.{unread, seen_of, Sees}
use Rattle.decode_session.specs.declared.Stage.{Stage}
use Rattle.decode_session.specs.declared.DecodeSession.{DecodeSession}
use Rattle.decode_session.proofs.Headers.{unread-end}
use Rattle.decode_session.proofs.StageFacts.{staged}

module _ (s : DecodeSession) where
  pub sees-none : (r : HeadReading) → s.stage ≡ Stage.Header r → Sees s None
  sees-none r g =
      record {
        does =
            λ m st.
            let u = staged m g st.stage in
            let e = unread-end (image_settings m.options.mode) m.bytes u.1.state u.1.reached in
            sym (ap (λ (x : Met). seen_of (header_of m.options.mode m.bytes) x) u.0
            ∙ ap (λ (a : Answer Outline). seen_of a nothing) e);
      }

  pub sees-refused : (e : WbmpError) (f : FieldsSeen) → s.stage ≡ Stage.Refused e f → Sees s None
  sees-refused e f g =
      record {
        does =
            λ m st. sym
            (ap (λ (x : Met). seen_of (header_of m.options.mode m.bytes) x) (staged m g st.stage).0
            ∙ hidden (header_of m.options.mode m.bytes));
      }
    where
      hidden : (a : Answer Outline) → seen_of a (met_at (number e.kind) e.offset) ≡ unread
      hidden (gives h) = refl
      hidden (refuses code place) = refl
