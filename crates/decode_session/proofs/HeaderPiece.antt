-- A piece for a session in the header.
use Rattle.std.proofs.Common.{Result, Ok, Err}
use Rattle.error.specs.Answer.{number}
use Prim.Native.Nat.{ℕ, ◌≤◌}
use mathlib.Core.Path.{◌≡◌, refl, sym, ap, subst, ◌∙◌}
use mathlib.Core.List.{List, [], ◌++◌}
use native.Mathlib.Omega.{arith}
use lib.ListN.{length, take, drop}
use lib.Seq.{sets, take-length, drop-nil}
use Rattle.error.specs.declared.WbmpError.{WbmpError}
use Rattle.laws.proofs.Lists.{length-append-take, append-take-drop}
use Rattle.header.specs.Settings.{Settings}
use Rattle.header.specs.Read.{parsed}
use Rattle.header.specs.declared.ParsedHeader.{ParsedHeader}
use Rattle.header_reader.proofs.EndRefusal.{end_code, end_offset, end-code}
use Rattle.options.specs.declared.DecodeOptions.{DecodeOptions}
use Rattle.options.specs.Limits.{ceiling_of}
use Rattle.decoder.specs.Image.{image_settings, header_of}
use Rattle.decode_session.specs.Sequence.{sequence_of, sequence}
use Rattle.header_pieces.specs.Extension.{field_bytes}
use Rattle.decode_session.specs.Model.{Met, nothing, Model, meets, takes, grown, written, stored, fed_by}
use Rattle.header_pieces.specs.Internal.Head.{HeadFed, HasRead, Ends, Heads}
use Rattle.decode_session.specs.Session.{Stands}
use Rattle.decode_session.specs.Internal.Stages.{in_stage, FedAs, Ended, Begins, FeedsHead}
use Rattle.decode_session.specs.declared.Stage.{Stage}
use Rattle.decode_session.specs.declared.DecodeSession.{DecodeSession}
use Rattle.error.specs.declared.Fed.{Fed}
use Rattle.header_pieces.specs.declared.HeadReading.{HeadReading}
use Rattle.std.specs.declared.ops.ControlFlow.TheVariants.{Continue, Break}
use Rattle.decode_session.proofs.Headers.{header-cut, unread-end}
use Rattle.decode_session.proofs.MostTaken.{most-is}
use Rattle.decode_session.proofs.RefusalsMet.{header_refused, header-short}
use Rattle.decode_session.proofs.Replies.{replied, stored-as, reading, agreed}
use Rattle.decode_session.proofs.BodyBegun.{refused-agrees}
use Rattle.decode_session.proofs.Asked.{unread-so}

-- a file whose header goes on shows nothing
pub nothing-shown : (m : Model) (s : List ℕ) (r : HeadReading) → HasRead (image_settings m.options.mode) s r
    → sequence (ceiling_of m.options) m.options s ≡ []
unfolding sequence
nothing-shown m s r h =
    ap (sequence_of (ceiling_of m.options) m.options.format s)
    (unread-end (image_settings m.options.mode) s h.state h.reached)

module _ (o : DecodeOptions) (head : HeadReading) (piece out ext ext' : List ℕ) (f : Result HeadFed WbmpError)
    (heads : Heads head piece ext f ext') (long : 4118 ≤ length ext) where
  abbrev session : DecodeSession
  session = in_stage o (Stage.Header head)

  module _ (m : Model) (st : Stands session m) where
    abbrev settings : Settings
    settings = image_settings m.options.mode

    abbrev file : List ℕ
    file = m.bytes ++ piece

    reached : HasRead settings m.bytes head
    reached = st.stage.1

    ends : (x : Result HeadFed WbmpError) → f ≡ x → Ends settings m.bytes piece x
    ends x e = subst (Ends settings m.bytes piece) e (heads.does long settings m.bytes reached)

    stored_is : stored m file ext ≡ ext'
    stored_is =
        sym
        (heads.stores long settings m.bytes reached
        ∙ ap (λ (k : ℕ). sets ext k (drop k (field_bytes settings file))) reached.kept_is)

    -- all of the piece is the header's
    module _ (next : HeadReading) (e : f ≡ Ok (Continue next)) where
      later : HasRead settings file next
      later = ends (Ok (Continue next)) e

      unmet : meets m piece ≡ nothing
      unmet =
          header-short m piece (end_code later.state) (end_offset later.state)
          (unread-end settings file later.state later.reached)
          (end-code later.state)

      all : m.bytes ++ take (length piece) piece ≡ file
      all = ap (λ (l : List ℕ). m.bytes ++ l) (take-length piece)

      none : sequence (ceiling_of m.options) m.options (m.bytes ++ take (length piece) piece) ≡ []
      none = ap (sequence (ceiling_of m.options) m.options) all ∙ nothing-shown m file next later

      takes_all : takes m piece (length out) ≡ length piece
      takes_all =
          most-is (ceiling_of m.options) m.options m.bytes piece (length out) (length piece) (length piece) (omega arith)
          (omega (arith, ap length none)) (λ j p q. let z : ⊥ = omega arith in absurd z)

      grows : grown m piece (length out) ≡ file
      unfolding grown
      grows = ap (λ (k : ℕ). m.bytes ++ take k piece) takes_all ∙ all

      writes-none : written m piece (length out) ≡ []
      unfolding written grown
      writes-none =
          ap (λ (k : ℕ). drop (length (sequence (ceiling_of m.options) m.options m.bytes))
          (sequence (ceiling_of m.options) m.options (m.bytes ++ take k piece))) takes_all
          ∙ ap (drop (length (sequence (ceiling_of m.options) m.options m.bytes))) none
          ∙ drop-nil (length (sequence (ceiling_of m.options) m.options m.bytes))

      goes_on : FedAs (Ok (record { taken = length piece; written = 0 })) (in_stage o (Stage.Header next)) out ext'
          (fed_by m piece out ext (meets m piece))
      goes_on =
          let count = takes_all in
          let w = writes-none in
          let size = ap length w in
          subst
          (λ (x : Met). FedAs (Ok (record { taken = length piece; written = 0 })) (in_stage o (Stage.Header next)) out ext'
          (fed_by m piece out ext x))
          (sym unmet)
          (record {
            reply =
                replied (cc) (ap (λ (l : List ℕ). l ++ drop (length l) out) w)
                (stored-as m ext (grown m piece (length out)) file (ap (field_bytes settings) grows) ∙ stored_is);
            stands =
                record {
                  tested = st.tested;
                  options = st.options;
                  live = refl;
                  stage = (refl, subst (λ (l : List ℕ). HasRead settings l next) (sym grows) later);
                };
          })

    -- the header ends in the piece
    ended : (h : ParsedHeader) (from : ℕ) → f ≡ Ok (Break (h, from)) → Ended m piece from (parsed h)
    ended h from e =
        let d = ends (Ok (Break (h, from))) e in
        let n = length-append-take m.bytes piece from (heads.within h from e) in
        record {
          within = heads.within h from e;
          header =
              header-cut settings (m.bytes ++ take from piece) (drop from piece) (parsed h)
              (ap (header_of m.options.mode) (append-take-drop m.bytes piece from) ∙ d.0) (d.1 ∙ sym n);
          body = d.1;
          none = ap length (nothing-shown m m.bytes head reached);
        }

  pub more : (next : HeadReading) → f ≡ Ok (Continue next)
      → FeedsHead o head piece out ext (Ok (Stage.Header next, record { taken = length piece; written = 0 })) out ext'
  more next e =
      record {
        does =
            λ k u. record {
              does =
                  λ m st. agreed m piece out ext _ _ out ext' ext' _ (reading m piece out ext (sym st.live) st.stage.0 long) refl
                  (goes_on m st next e);
            };
      }

  pub whole : (h : ParsedHeader) (from : ℕ) (r : Result (Stage × Fed) WbmpError) (out' : List ℕ) → f ≡ Ok (Break (h, from))
      → Begins o h from piece out r out' → FeedsHead o head piece out ext r out' ext'
  whole h from r out' e b =
      record {
        does =
            λ k u. record {
              does =
                  λ m st. agreed m piece out ext _ _ out' ext' _ _ (reading m piece out ext (sym st.live) st.stage.0 long) (stored_is m st)
                  (b.does k m ext st.tested st.options (unread-so m head k st.stage.1 u) (ended m st h from e));
            };
      }

  pub refused : (e : WbmpError) → f ≡ Err e → FeedsHead o head piece out ext (Err e) out ext'
  refused e q =
      record {
        does =
            λ k u. record {
              does =
                  λ m st.
                  let r = ends m st (Err e) q in
                  agreed m piece out ext _ _ out ext' _ _ (reading m piece out ext (sym st.live) st.stage.0 long) (stored_is m st)
                  (refused-agrees o m piece out ext e k st.tested st.options (unread-so m head k st.stage.1 u)
                  (header_refused m piece (number e.kind) e.offset r.0 r.1));
            };
      }
