-- A header that ends in a piece: the limits, and the body from there on.
use Rattle.std.proofs.Common.{Result, Ok, Err}
use Prim.Native.Nat.{ℕ, ◌+◌, ◌<◌}
use mathlib.Core.Path.{◌≡◌, refl, sym, ap, subst, ◌∙◌}
use mathlib.Core.List.{List, ◌++◌}
use mathlib.Core.Logic.{inl}
use native.Mathlib.Omega.{arith}
use lib.ListN.{length, take, drop}
use Rattle.error.specs.Answer.{gives, checked, number}
use Rattle.error.specs.declared.WbmpError.{WbmpError}
use Rattle.laws.proofs.Lists.{length-append-take, append-take-drop}
use Rattle.header.specs.Read.{Outline, parsed}
use Rattle.header_reader.specs.declared.FieldsSeen.{FieldsSeen}
use Rattle.header.specs.declared.ParsedHeader.{ParsedHeader}
use Rattle.image.proofs.PlaneSizes as planes
use Rattle.options.specs.Limits.{Decoding, decoding, check_limits}
use Rattle.options.specs.declared.DecodeOptions.{DecodeOptions}
use Rattle.decoder.specs.Body.{plane_of}
use Rattle.decoder.specs.Image.{image_settings, header_of}
use Rattle.decoder.proofs.Shaped.{outline-shape}
use Rattle.decode_session.specs.Model.{Met, met_at, Model, meets, stored, fed_by}
use Rattle.decode_session.specs.Session.{BeforeHeader, Settled}
use Rattle.decode_session.specs.Internal.Stages.{in_stage, FedAs, Enters, FeedsPlanes, Ended, Begins}
use Rattle.decode_session.specs.declared.Stage.{Stage}
use Rattle.error.specs.declared.Fed.{Fed}
use Rattle.decode_session.proofs.Headers.{header-later}
use Rattle.decode_session.proofs.StageFacts.{ceiling-some}
use Rattle.decode_session.proofs.RefusalsMet.{limit-over, admitted}

-- the session that met a refusal agrees
pub refused-agrees : (o : DecodeOptions) (m : Model) (piece out ext : List ℕ) (e : WbmpError) (f : FieldsSeen)
    → Settled m.options → decoding o ≡ m.options → BeforeHeader m f → meets m piece ≡ met_at (number e.kind) e.offset
    → FedAs (Err e) (in_stage o (Stage.Refused e f)) out (stored m (m.bytes ++ piece) ext) (fed_by m piece out ext (meets m piece))
refused-agrees o m piece out ext e f c q u met =
    subst
    (λ (x : Met). FedAs (Err e) (in_stage o (Stage.Refused e f)) out (stored m (m.bytes ++ piece) ext) (fed_by m piece out ext x))
    (sym met)
    (record {
      reply = refl;
      stands = record { tested = c; options = q; live = refl; stage = (refl, record { none = u.none; fields = u.fields }) };
    })

module _ (m : Model) (piece : List ℕ) (from : ℕ) (h : Outline) (e : Ended m piece from h) where
  pub header-all : header_of m.options.mode (m.bytes ++ piece) ≡ gives h
  header-all =
      ap (header_of m.options.mode) (sym (append-take-drop m.bytes piece from))
      ∙ header-later (image_settings m.options.mode) (m.bytes ++ take from piece) h e.header (drop from piece)

  bytes-length : length (m.bytes ++ take from piece) ≡ length m.bytes + from
  bytes-length = length-append-take m.bytes piece from e.within

  plane-some : 0 < plane_of h
  plane-some =
      let shape = outline-shape (image_settings m.options.mode) (m.bytes ++ take from piece) h e.header in
      planes.plane-some h.width h.height shape.0 shape.1

  enters : Settled m.options → check_limits m.options h.width h.height (plane_of h) h.body ≡ gives tt
      → Enters m piece from h 0 0
  enters c l =
      record {
        in_body =
            record {
              nothing_met = refl;
              header_is = e.header;
              admitted = l;
              start = omega (arith, bytes-length, e.body);
              below = plane-some;
              place = inl (ceiling-some c, omega (arith, bytes-length, e.body));
            };
        earlier = e.none ∙ omega arith;
      }

module _ (o : DecodeOptions) (p : ParsedHeader) (from : ℕ) (piece out : List ℕ) (r x : Result (Unit {0}) WbmpError) (n : ℕ)
    (tested : checked r ≡ check_limits (decoding o) p.width p.height n p.data_offset) (is : r ≡ x)
    (plane : n ≡ plane_of (parsed p)) where
  limits : (m : Model) → decoding o ≡ m.options
      → check_limits m.options p.width p.height (plane_of (parsed p)) p.data_offset ≡ checked x
  limits m q =
      sym
      (sym (ap checked is) ∙ tested
      ∙ ap (λ (k : ℕ). check_limits (decoding o) p.width p.height k p.data_offset) plane
      ∙ ap (λ (d : Decoding). check_limits d p.width p.height (plane_of (parsed p)) p.data_offset) q)

  pub begins : (out' : List ℕ) (t : Stage × Fed) → x ≡ Ok tt → FeedsPlanes o p 0 0 from piece out t.0 t.1 out'
      → Begins o p from piece out (Ok t) out'
  begins out' t a b =
      record {
        does =
            λ f m ext c q u e.
            let l = limits m q ∙ ap checked a in
            subst (λ (x : Met). FedAs (Ok t.1) (in_stage o t.0) out' (stored m (m.bytes ++ piece) ext) (fed_by m piece out ext x))
            (sym (admitted m piece (parsed p) (header-all m piece from (parsed p) e) l))
            (b.does m ext c q (enters m piece from (parsed p) e c l));
      }

  pub over : (e : WbmpError) → x ≡ Err e → Begins o p from piece out (Err e) out
  over e a =
      record {
        does =
            λ f m ext c q u g. refused-agrees o m piece out ext e f c q u
            (limit-over m piece (parsed p) (header-all m piece from (parsed p) g) (number e.kind) e.offset (limits m q ∙ ap checked a));
      }
