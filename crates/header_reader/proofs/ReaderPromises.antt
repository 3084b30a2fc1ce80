-- From what a phase does to what its reader promises.
use Rattle.std.proofs.Common.{Ok}
use Prim.Native.Nat.{ℕ}
use mathlib.Core.Path.{◌≡◌, ◌∙◌, refl, ap, subst, subst⁻¹}
use Rattle.header.specs.Settings.{Settings, settings}
use Rattle.header.specs.Read.{parsed}
use Rattle.header.specs.declared.ParsedHeader.{ParsedHeader}
use Rattle.header_reader.specs.Internal.Machine.{State, Step, more, done, step_of}
use Rattle.header_reader.specs.Internal.Standing.{state, Reachable}
use Rattle.header_reader.specs.Internal.Represents.{Represents, Answers, ReaderStepped}
use Rattle.header_reader.specs.declared.reader.HeaderReader.{HeaderReader}
use Rattle.std.specs.declared.ops.ControlFlow.TheVariants.{Continue, Break}
use Rattle.header_reader.proofs.StepReachable.{ReachableStep, reachable-step}

module _ (r : HeaderReader) (b : ℕ) where
  -- what its phase's step is for whatever it stands for
  step-is : (x : Step) → x ≡ step_of (settings r.mode) (state r.phase) b → (o : Settings) (st : State) → Represents r o st → x ≡ step_of o st b
  step-is x e o st h =
      e ∙ ap (λ (k : Settings). step_of k (state r.phase) b) h.mode_is ∙ ap (λ (k : State). step_of o k b) h.phase_is

  -- a reading that goes on stands where one can
  pub next-reachable : (st : State) → more st ≡ step_of (settings r.mode) (state r.phase) b → Reachable st
  next-reachable st e = subst⁻¹ ReachableStep e (reachable-step (settings r.mode) (state r.phase) b r.reachable)

  pub goes-on : (next : HeaderReader) → next.mode ≡ r.mode → more (state next.phase) ≡ step_of (settings r.mode) (state r.phase) b
      → ReaderStepped r b (Ok (Continue next))
  goes-on next m e =
      record {
        does = λ o st h. subst (λ (k : Step). Answers o (Ok (Continue next)) k) (step-is _ e o st h)
            (record { mode_is = ap settings m ∙ h.mode_is; phase_is = refl; reachable = next.reachable });
      }

  pub is-done : (p : ParsedHeader) → done (parsed p) ≡ step_of (settings r.mode) (state r.phase) b
      → ReaderStepped r b (Ok (Break p))
  is-done p e =
      record { does = λ o st h. subst (λ (k : Step). Answers o (Ok (Break p)) k) (step-is _ e o st h) refl }
