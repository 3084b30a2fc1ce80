-- The samples that a maker's answers say were taken are the plain machine's, and an accepted closing closed it.
use Prim.Native.Nat.{ℕ}
use mathlib.Core.Path.{◌≡◌, refl, sym, ap, ◌∙◌}
use mathlib.Core.Bool.{Bool, true, false, ◌||◌}
use mathlib.Core.List.{List, [], ◌∷◌, ◌++◌, append_assoc, append-nil}
use lib.ListN.{length}
use Rattle.laws.proofs.Lists.{take-length-take}
use Rattle.laws.proofs.Tests.{zero_one}
use Rattle.quantize.specs.Finished.{takes}
use Rattle.encode_session.specs.Model.{setting_of, Model, Call, feed, close, taken, Outcome, fed_by, outcome, replies, finally}
use Rattle.encode_session.proofs.OutcomeCases.{feed-shut, close-shut, by-feed, by-close}
use Rattle.conformance.specs.Lists.{taken_by, samples_of, is_closing, was_closed}

-- ---- one call

abbrev Adds : Model → Call → Outcome → Type 0
Adds m c x = m.samples ++ taken_by c x.reply.answer ≡ x.next.samples

adds-feed : (m : Model) (xs out : List ℕ) (work : ℕ) → Adds m (feed xs out work) (fed_by m xs out)
unfolding taken
adds-feed m xs out work =
    ap (λ (s : List ℕ). m.samples ++ s)
    (take-length-take (takes (setting_of m.opening) (length m.samples) (length xs) (length out)) xs)

adds : (m : Model) (c : Call) → Adds m c (outcome m c)
adds m (feed xs out work) =
    by-feed m xs out work (Adds m (feed xs out work)) (append-nil m.samples) (append-nil m.samples) (adds-feed m xs out work)
adds m close = let none = append-nil m.samples in by-close m (Adds m close) none none (λ _. none)

-- an accepted closing closes, and what is closed stays closed
closes : (m : Model) (c : Call) → is_closing (outcome m c).reply.answer ≡ true → (outcome m c).next.live ≡ false
closes m (feed xs out work) =
    by-feed m xs out work (λ (x : Outcome). is_closing x.reply.answer ≡ true → x.next.live ≡ false)
    (λ e. zero_one (cc)) (λ e. zero_one (cc)) (λ e. zero_one (cc))
closes m close =
    by-close m (λ (x : Outcome). is_closing x.reply.answer ≡ true → x.next.live ≡ false)
    (λ e. zero_one (cc)) (λ e. zero_one (cc)) (λ k e. refl)

stays : (m : Model) (c : Call) → m.live ≡ false → (outcome m c).next.live ≡ false
stays m (feed xs out work) l = ap (λ (x : Outcome). x.next.live) (feed-shut m xs out work l) ∙ l
stays m close l = ap (λ (x : Outcome). x.next.live) (close-shut m l) ∙ l

-- ---- lists

pub samples-taken : (m : Model) (cs : List Call) → m.samples ++ samples_of cs (replies m cs) ≡ (finally m cs).samples
unfolding samples_of replies finally
samples-taken m [] = append-nil m.samples
samples-taken m (c ∷ cs) =
    sym (append_assoc m.samples (taken_by c (outcome m c).reply.answer) (samples_of cs (replies (outcome m c).next cs)))
    ∙ ap (λ (l : List ℕ). l ++ samples_of cs (replies (outcome m c).next cs)) (adds m c)
    ∙ samples-taken (outcome m c).next cs

finally-stays : (m : Model) (cs : List Call) → m.live ≡ false → (finally m cs).live ≡ false
unfolding finally
finally-stays m [] l = l
finally-stays m (c ∷ cs) l = finally-stays (outcome m c).next cs (stays m c l)

pub closed-machine : (m : Model) (cs : List Call) → was_closed (replies m cs) ≡ true → (finally m cs).live ≡ false
unfolding was_closed replies finally
closed-machine m [] e = zero_one (cc)
closed-machine m (c ∷ cs) e = go (is_closing (outcome m c).reply.answer) refl e (closed-machine (outcome m c).next cs)
  where
    go : (t : Bool) → is_closing (outcome m c).reply.answer ≡ t → (t || was_closed (replies (outcome m c).next cs)) ≡ true
        → (was_closed (replies (outcome m c).next cs) ≡ true → (finally (outcome m c).next cs).live ≡ false)
        → (finally (outcome m c).next cs).live ≡ false
    go true p q ih = finally-stays (outcome m c).next cs (closes m c p)
    go false p q ih = ih q
