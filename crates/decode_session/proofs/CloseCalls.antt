-- A call of `close`.
use Rattle.std.proofs.Common.{Result, Err}
use mathlib.Core.Path.{◌≡◌, refl, sym, ap, subst, ◌∙◌}
use mathlib.Core.Bool.{true, false}
use mathlib.Core.List.{[]}
use Prim.Native.Nat.{ℕ}
use Rattle.error.specs.Answer.{refusal}
use Rattle.error.specs.declared.Refusal.TheVariants.{SessionClosed}
use Rattle.error.specs.declared.WbmpError.{WbmpError}
use Rattle.laws.proofs.Tests.{if-true, if-false}
use Rattle.decode_session.specs.Model.{Model, close, Outcome, closing, shut, unaltered, outcome}
use Rattle.decode_session.specs.Session.{closed_meaning, StageOf, Stands, Closes}
use Rattle.decode_session.specs.Internal.Stages.{Finishes}
use Rattle.decode_session.specs.declared.Stage.{Stage}
use Rattle.decode_session.specs.declared.DecodeSession.{DecodeSession}
use Rattle.decode_session.proofs.Replies.{replied}

module _ (s : DecodeSession) where
  -- what a closing call promises of a plain machine whose outcome is known
  closes : (m : Model) (a : Result ℕ WbmpError) (s' : DecodeSession) (x : Outcome) → outcome m close ≡ x
      → x.reply ≡ record { answer = closed_meaning a; output = []; extension = [] } → Stands s' x.next
      → ((outcome m close).reply ≡ record { answer = closed_meaning a; output = []; extension = [] })
      × Stands s' (outcome m close).next
  closes m a s' x e r st =
      subst (λ (y : Outcome). (y.reply ≡ record { answer = closed_meaning a; output = []; extension = [] })
      × Stands s' y.next) (sym e) (r, st)

  pub close-shut : (e : WbmpError) → s.live ≡ false → e ≡ record { kind = SessionClosed; offset = 0 }
      → Closes s (Err e) s
  unfolding outcome
  close-shut e l n =
      record {
        does =
            λ m st. closes m (Err e) s (unaltered m 30 0 [] [])
            (if-false m.live _ _ (sym st.live ∙ l))
            (replied (sym (ap refusal n)) refl refl) st;
      }

  -- closed, a session stands for the same bytes
  still : (x : Stage) (m : Model) → StageOf x m → StageOf x (shut m)
  still (Stage.Header r) m h = h
  still (Stage.Body p whole begun) m b =
      record {
        nothing_met = b.nothing_met;
        header_is = b.header_is;
        admitted = b.admitted;
        start = b.start;
        below = b.below;
        place = b.place;
      }
  still (Stage.Refused e f) m h = (h.0, record { none = h.1.none; fields = h.1.fields })

  pub close_open : (a : Result ℕ WbmpError) → s.live ≡ true → Finishes s.stage a
      → Closes s a (record s { live = false })
  unfolding outcome
  close_open a l f =
      record {
        does =
            λ m st. closes m a (record s { live = false })
            (record { reply = record { answer = closing m m.met; output = []; extension = [] }; next = shut m })
            (if-true m.live _ _ (sym st.live ∙ l))
            (replied (sym (f.does m st.tested st.stage)) refl refl)
            (record { tested = st.tested; options = st.options; live = refl; stage = still s.stage m st.stage });
      }
