-- What calls leave of the work buffer.
use Prim.Native.Nat.{ℕ, zero, suc, ◌+◌, ◌≤◌}
use mathlib.Core.Path.{◌≡◌, refl, sym, ap, subst, ◌∙◌}
use mathlib.Core.Bool.{Bool, true, false}
use mathlib.Core.List.{List, [], ◌∷◌, ◌++◌}
use native.Mathlib.Omega.{arith}
use lib.IntN.{ℤ}
use lib.ListN.{length, drop, length-append}
use Rattle.error.specs.Answer.{gives}
use Rattle.error.specs.declared.Fed.{Fed}
use Rattle.error.specs.Choice.{if}
use Rattle.laws.proofs.Tests.{zero_one}
use Rattle.quantize.specs.declared.engine.Quantizer.{Quantizer}
use Rattle.rules.specs.Rule.{carries}
use Rattle.quantize.specs.Internal.Engine.{Machines}
use Rattle.quantize.specs.Finished.{Setting}
use Rattle.quantize.specs.Internal.Machine.{MachineState, carried}
use Rattle.quantize.specs.Internal.Turn.{state_of}
use Rattle.encode_session.specs.Model.{Opening, setting_of, serves, Model, Call, feed, close, Outcome, taken, fed_by, unaltered, outcome}
use Rattle.encode_session.specs.Model as Machine
use Rattle.encode_session.proofs.OutcomeCases.{by-feed, by-close}
use Rattle.replay.specs.Encode.{Leaves}

-- lists that are alike from an index on, with the same behind them
pub drop-front : {A : Type 0} (k : ℕ) (a b c : List A) → length a ≡ length b → drop k a ≡ drop k b → drop k (a ++ c) ≡ drop k (b ++ c)
drop-front zero a b c l e = ap (λ (x : List _). x ++ c) e
drop-front (suc k) [] [] c l e = refl
drop-front (suc k) [] (y ∷ b) c l e = absurd (omega arith)
drop-front (suc k) (x ∷ a) [] c l e = absurd (omega arith)
drop-front (suc k) (x ∷ a) (y ∷ b) c l e = drop-front k a b c (omega arith) e

-- where the engine takes no sample, it keeps what it found
pub none-taken : (q : Quantizer) (s : Setting) (n : ℕ) (xs out : List ℕ) (work : List ℤ) (q' : Quantizer) (r : Fed) (out' : List ℕ)
    (work' : List ℤ) → Machines q s n xs out work q' r out' work' → r.taken ≡ 0 → work' ≡ work
unfolding carried
none-taken q s n xs out work q' r out' work' M z =
    sym (ap (λ (st : MachineState). st.carry.kept)
    (subst (λ (k : ℕ). carried s n (state_of q.place work) xs k ≡ state_of q'.place work') z M.keeps))

-- ---- the model's samples

-- an accepted feeding call finds the session open, and has taken as many samples as it answers
pub took : (m : Model) (xs out : List ℕ) (k n b : ℕ) → (outcome m (feed xs out k)).reply.answer ≡ gives (Machine.took n b)
    → (m.live ≡ true) × (length (outcome m (feed xs out k)).next.samples ≡ length m.samples + n)
unfolding outcome
took m xs out k n b = go m.live (serves m.opening k) refl
  where
    go : (l s : Bool) → m.live ≡ l
        → (if l (if s (fed_by m xs out) (unaltered m 28 out)) (unaltered m 30 out)).reply.answer ≡ gives (Machine.took n b)
        → (m.live ≡ true)
        × (length (if l (if s (fed_by m xs out) (unaltered m 28 out)) (unaltered m 30 out)).next.samples ≡ length m.samples + n)
    go false s e f = zero_one (cc)
    go true false e f = zero_one (cc)
    go true true e f =
        let i : length (taken m xs (length out)) ≡ n = cc in
        (e, length-append m.samples (taken m xs (length out)) ∙ ap (λ (j : ℕ). length m.samples + j) i)

pub next-same : (m : Model) (c : Call) → (outcome m c).next.opening ≡ m.opening
next-same m (feed xs out k) = by-feed m xs out k (λ (x : Outcome). x.next.opening ≡ m.opening) refl refl refl
next-same m close = by-close m (λ (x : Outcome). x.next.opening ≡ m.opening) refl refl (λ _. refl)

pub next-longer : (m : Model) (c : Call) → length m.samples ≤ length (outcome m c).next.samples
next-longer m (feed xs out k) =
    by-feed m xs out k (λ (x : Outcome). length m.samples ≤ length x.next.samples) (omega arith) (omega arith)
    (let e = length-append m.samples (taken m xs (length out)) in omega arith)
next-longer m close =
    by-close m (λ (x : Outcome). length m.samples ≤ length x.next.samples) (omega arith) (omega arith) (λ _. omega arith)

-- ---- calls one after the other

pub same-leaves : (m n : Model) (work work' : List ℤ) → work' ≡ work → Leaves m n work work'
same-leaves m n work work' e = record { quiet = λ _. e; spared = λ _. e; beyond = ap (drop m.opening.width) e }

pub leaves-on : (m n k : Model) (work work' work'' : List ℤ) → n.opening ≡ m.opening → length m.samples ≤ length n.samples
    → length n.samples ≤ length k.samples → Leaves m n work work' → Leaves n k work' work'' → Leaves m k work work''
leaves-on m n k work work' work'' o l h L N =
    record {
      quiet = λ e. N.quiet (omega arith) ∙ L.quiet (omega arith);
      spared = λ e. N.spared (ap (λ (a : Opening). carries (setting_of a).rule) o ∙ e) ∙ L.spared e;
      beyond = subst (λ (a : Opening). drop a.width work'' ≡ drop a.width work') o N.beyond ∙ L.beyond;
    }
