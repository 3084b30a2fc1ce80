-- Feeding: what a session's own numbers say of the plain machine, and what the engine's promises make of them.
-- Assumes nothing.
use Prim.Native.Nat.{ℕ, ◌+◌}
use mathlib.Core.Path.{◌≡◌, refl, sym, ap, ◌∙◌, subst}
use mathlib.Core.Bool.{Bool, true, false}
use mathlib.Core.List.{List, ◌++◌}
use native.Mathlib.Omega.{arith}
use lib.IntN.{ℤ}
use lib.ListN.{length, take, drop, length-append, length-drop}
use lib.Seq.{length-take-le}
use Rattle.std.proofs.Common.{Ok, Err}
use Rattle.error.specs.Answer.{gives, number, refusal}
use Rattle.error.specs.declared.Fed.{Fed}
use Rattle.error.specs.declared.Refusal.{Refusal}
use Rattle.error.specs.declared.Refusal.TheVariants.{BufferTooShort, SessionClosed}
use Rattle.error.specs.declared.WbmpError.{WbmpError}
use Rattle.laws.proofs.Tests.{if-true}
use Rattle.quantize.specs.declared.engine.Quantizer.{Quantizer}
use Rattle.quantize.specs.Internal.Engine.{room_for, Counts, Runs, QuantizerAt, QuantizerAfter}
use Rattle.quantize.specs.Finished.{newly}
use Rattle.quantize.proofs.FramesDone.{frames-done, room-behind}
use Rattle.quantize.proofs.FinishedGrows.{length-finished}
use Rattle.encode_session.specs.declared.EncodeSession.{EncodeSession}
use Rattle.encode_session.specs.Model.{setting_of, serves, Model, feed, took, taken, written, Outcome, unaltered, outcome}
use Rattle.encode_session.specs.Session.{Stands, Holds, Feeds}
use Rattle.encode_session.proofs.OutcomeCases.{feed-shut, feed-short, feed-busy}

-- the engine tests what the machine does
pub served-is : (s : EncodeSession) (m : Model) (work : ℕ) (b : Bool) → Stands s m → m.live ≡ true → b ≡ room_for s.quantizer work
    → serves m.opening work ≡ b
served-is s m work b t l tells = sym (tells ∙ room-behind s.quantizer (setting_of m.opening) (length m.samples) work (t.place l))

module _ (s : EncodeSession) (xs out : List ℕ) (work : List ℤ) where
  -- a call that the machine refuses too
  idle-feed : (kind : Refusal) → ((m : Model) → Stands s m → outcome m (feed xs out (length work)) ≡ unaltered m (number kind) out)
      → (e : WbmpError) → e ≡ record { kind = kind; offset = 0 } → Feeds s xs out work (Err e) s out work
  idle-feed kind idle e f =
      record {
        refused = λ code place e. (refl, (refl, refl));
        runs = λ n b e. cc;
        counts = λ m t.
            subst (λ (x : Outcome). (refusal e ≡ x.reply.answer) × Stands s x.next) (sym (idle m t)) (ap refusal f, t);
        does = λ m h. subst (λ (x : Outcome). (out ≡ x.reply.output) × Holds s work x.next) (sym (idle m h.stands)) (refl, h);
      }

  pub feeds-shut : (e : WbmpError) → e ≡ record { kind = SessionClosed; offset = 0 } → s.live ≡ false
      → Feeds s xs out work (Err e) s out work
  feeds-shut e f l = idle-feed SessionClosed (λ m t. feed-shut m xs out (length work) (sym t.live ∙ l)) e f

  pub feeds-short : (e : WbmpError) → e ≡ record { kind = BufferTooShort; offset = 0 } → s.live ≡ true
      → (b : Bool) → b ≡ room_for s.quantizer (length work) → b ≡ false
      → Feeds s xs out work (Err e) s out work
  feeds-short e f l b tells h =
      idle-feed BufferTooShort
      (λ m t. let o = sym t.live ∙ l in feed-short m xs out (length work) o (served-is s m (length work) b t o tells ∙ h)) e f

-- ---- the engine ran

module _ (s : EncodeSession) (xs out : List ℕ) (work : List ℤ) (l : s.live ≡ true) (b : Bool)
    (tells : b ≡ room_for s.quantizer (length work)) (e : b ≡ true)
    (q' : Quantizer) (r : Fed) (out' : List ℕ) (work' : List ℤ) (R : Runs s.quantizer xs out work q' r out' work') where
  abbrev next : EncodeSession
  next = record s { quantizer = q' }

  module _ (m : Model) (t : Stands s m) where
    abbrev n : ℕ
    n = length m.samples

    open_is : m.live ≡ true
    open_is = sym t.live ∙ l

    C : Counts (setting_of m.opening) n (length xs) (length out) (length work) q' r
    C = R.counts (setting_of m.opening) n (t.place open_is)

    served : serves m.opening (length work) ≡ true
    served = served-is s m (length work) b t open_is tells ∙ e

    taken_is : taken m xs (length out) ≡ take r.taken xs
    unfolding taken
    taken_is = ap (λ (k : ℕ). take k xs) (sym (C.taken ∙ if-true _ _ _ served))

    taken-long : length (taken m xs (length out)) ≡ r.taken
    taken-long = ap length taken_is ∙ length-take-le r.taken xs R.taken

    joined-long : length (m.samples ++ taken m xs (length out)) ≡ n + r.taken
    joined-long = length-append m.samples (taken m xs (length out)) ∙ ap (λ (k : ℕ). n + k) taken-long

    written_is : written m xs (length out) ≡ newly (setting_of m.opening) m.samples (m.samples ++ taken m xs (length out))
    unfolding written
    written_is = refl

    written-long : length (written m xs (length out)) ≡ r.written
    written-long =
        let S = setting_of m.opening in
        rw (written_is, length-drop, length-finished S m.samples, length-finished S (m.samples ++ taken m xs (length out)), joined-long)
        (omega (arith, C.written))

    stands : Stands next (record { opening = m.opening; live = true; samples = m.samples ++ taken m xs (length out) })
    stands =
        let a : QuantizerAt q' (setting_of m.opening) (length (m.samples ++ taken m xs (length out))) =
        rw joined-long C.stands in
        record { live = l; left = frames-done _ _ _ _ _ a.at; place = λ _. a }

  pub feeds-ran : Feeds s xs out work (Ok r) next out' work'
  feeds-ran =
      record {
        refused = λ code place f. cc;
        runs = λ n k f.
            let e : ◌≡◌ {A = Fed} r (record { taken = n; written = k }) = cc in
            subst (λ (x : Fed). Runs s.quantizer xs out work q' x out' work') e R;
        counts = λ m t.
            subst (λ (x : Outcome). (gives (took r.taken r.written) ≡ x.reply.answer) × Stands next x.next)
            (sym (feed-busy m xs out (length work) (open_is m t) (served m t)))
            (told m t, stands m t);
        does = λ m h.
            let t = h.stands in
            let D = R.defined (setting_of m.opening) m.samples (h.keeps (open_is m t)) in
            subst (λ (x : Outcome). (out' ≡ x.reply.output) × Holds next work' x.next)
            (sym (feed-busy m xs out (length work) (open_is m t) (served m t)))
            (D.bytes ∙ bytes-are m t, record { stands = stands m t; keeps = λ _. kept m t D.holds });
      }
    where
      told : (m : Model) (t : Stands s m)
          → gives (took r.taken r.written) ≡ gives (took (length (taken m xs (length out))) (length (written m xs (length out))))
      told m t = rw (taken-long m t, written-long m t)

      kept : (m : Model) (t : Stands s m) → QuantizerAfter q' work' (setting_of m.opening) (m.samples ++ take r.taken xs)
          → QuantizerAfter q' work' (setting_of m.opening) (m.samples ++ taken m xs (length out))
      kept m t k = subst (λ (y : List ℕ). QuantizerAfter q' work' (setting_of m.opening) (m.samples ++ y))
          (sym (taken_is m t)) k

      bytes-are : (m : Model) (t : Stands s m)
          → newly (setting_of m.opening) m.samples (m.samples ++ take r.taken xs) ++ drop r.written out
          ≡ written m xs (length out) ++ drop (length (written m xs (length out))) out
      bytes-are m t =
          ap (λ (y : List ℕ). newly (setting_of m.opening) m.samples (m.samples ++ y) ++ drop r.written out) (sym (taken_is m t))
          ∙ ap (λ (k : ℕ). newly (setting_of m.opening) m.samples (m.samples ++ taken m xs (length out)) ++ drop k out)
          (sym (written-long m t))
          ∙ ap (λ (y : List ℕ). y ++ drop (length (written m xs (length out))) out) (sym (written_is m t))

-- the three ways that a call ends
pub ruleset feed_steps = (feeds-shut, feeds-short, feeds-ran)
