-- Closing: what the engine's test says of the plain machine.
-- Assumes nothing.
use mathlib.Core.Path.{◌≡◌, refl, sym, ap, ◌∙◌, subst}
use mathlib.Core.Bool.{Bool, true, false}
use mathlib.Core.List.{[]}
use Rattle.std.proofs.Common.{Ok, Err}
use Rattle.error.specs.Answer.{gives, number, refusal}
use Rattle.error.specs.declared.Refusal.{Refusal}
use Rattle.error.specs.declared.Refusal.TheVariants.{GrayTooShort, SessionClosed}
use Rattle.error.specs.declared.WbmpError.{WbmpError}
use lib.ListN.{length}
use Rattle.quantize.specs.Internal.Engine.{behind_frames}
use Rattle.quantize.proofs.FramesDone.{frames-behind}
use Rattle.encode_session.specs.declared.EncodeSession.{EncodeSession}
use Rattle.encode_session.specs.Model.{setting_of, Model, shut, close, Told, is_whole, Outcome, closed_by, unaltered, outcome}
use Rattle.encode_session.specs.Session.{Stands, Holds, Closes}
use Rattle.encode_session.proofs.OutcomeCases.{close-shut, close-early, close-whole}

module _ (s : EncodeSession) where
  -- a call that the machine refuses too
  idle-close : (kind : Refusal) → ((m : Model) → Stands s m → outcome m close ≡ unaltered m (number kind) [])
      → (e : WbmpError) → e ≡ record { kind = kind; offset = 0 } → Closes s (Err e) s
  idle-close kind idle e f =
      record {
        refused = λ code place e. refl;
        counts = λ m t.
            subst (λ (x : Outcome). (refusal e ≡ x.reply.answer) × Stands s x.next) (sym (idle m t)) (ap refusal f, t);
        does = λ m work h. subst (λ (x : Outcome). Holds s work x.next) (sym (idle m h.stands)) h;
      }

  pub closes-shut : (e : WbmpError) → e ≡ record { kind = SessionClosed; offset = 0 } → s.live ≡ false
      → Closes s (Err e) s
  closes-shut e f l = idle-close SessionClosed (λ m t. close-shut m (sym t.live ∙ l)) e f

  module _ (l : s.live ≡ true) (b : Bool) (tells : b ≡ behind_frames s.quantizer 16) where
    whole_is : (m : Model) → Stands s m → is_whole m ≡ b
    whole_is m t = sym (tells ∙ frames-behind s.quantizer (setting_of m.opening) (length m.samples) (t.place (sym t.live ∙ l)))

    pub closes-early : (e : WbmpError) → e ≡ record { kind = GrayTooShort; offset = 0 } → b ≡ false
        → Closes s (Err e) s
    closes-early e f h = idle-close GrayTooShort (λ m t. close-early m (sym t.live ∙ l) (whole_is m t ∙ h)) e f

    abbrev closed-session : EncodeSession
    closed-session = record { quantizer = s.quantizer; live = false }

    pub closes-whole : b ≡ true → Closes s (Ok tt) closed-session
    closes-whole e =
        record {
          refused = λ code place f. cc;
          counts =
              λ m t. subst (λ (x : Outcome). (gives Told.closed ≡ x.reply.answer) × Stands closed-session x.next) (sym (closed-by m t))
              (refl, still m t);
          does = λ m work h.
              let t = h.stands in
              subst (λ (x : Outcome). Holds closed-session work x.next) (sym (closed-by m t))
              (record { stands = still m t; keeps = λ f. cc });
        }
      where
        closed-by : (m : Model) → Stands s m → outcome m close ≡ closed_by m
        closed-by m t = close-whole m (sym t.live ∙ l) (whole_is m t ∙ e)

        still : (m : Model) → Stands s m → Stands closed-session (shut m)
        still m t = record { live = refl; left = t.left; place = λ f. cc }
