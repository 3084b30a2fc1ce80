-- The running machine over the front of a work buffer: what stands behind the front is left as it is.
use Prim.Native.Nat.{ℕ, zero, suc, ◌+◌, ◌-◌, ◌*◌, ◌/◌, ◌%◌, ◌^◌, ◌≤◌, ◌<◌}
use mathlib.Core.Path.{◌≡◌, refl, ap, ◌∙◌}
use mathlib.Core.Bool.{Bool, true, false, ◌&&◌}
use mathlib.Core.List.{List, [], ◌∷◌, ◌++◌}
use native.Mathlib.Nat.{mod-lt}
use native.Mathlib.Omega.{arith}
use borrow.Author.Tests.{ltb-true}
use lib.Dec.{ltb}
use lib.IntN.{ℤ, pos}
use lib.ListN.{length, get_or, set, get_or-append}
use lib.Seq.{set-append_left}
use Rattle.error.specs.Choice.{if}
use Rattle.rules.specs.Bits.{bit}
use Rattle.dither.specs.Internal.Carry.{clamp, Carry, left_of, over_of, value_of, diffused, machine_dot, next}
use Rattle.rules.specs.Diffusion.{to_right, white, residual}
use Rattle.rules.specs.Rule.{Rule, threshold, dither, ordered, carries}
use Rattle.quantize.specs.Finished.{Setting}
use Rattle.quantize.specs.Internal.Machine.{MachineState, MachineStep, last_of, byte_step, machine_step, carried}
use Rattle.quantize.proofs.MachineSteps.{carried-long}

-- numbers behind those that are kept
abbrev with_rest : List ℤ → Carry → Carry
with_rest rest c = record { corner = c.corner; kept = c.kept ++ rest }

abbrev pub behind : List ℤ → MachineState → MachineState
behind rest st = record { begun = st.begun; carry = with_rest rest st.carry }

-- ---- one dot

module _ (w y x g : ℕ) (c : Carry) (rest : List ℤ) (in_row : x < w) (room : w ≤ length c.kept) where
  over-same : (k : ℕ) → over_of w y (c.kept ++ rest) k ≡ over_of w y c.kept k
  unfolding over_of
  over-same k = go (ltb 0 y) (ltb k w) refl
    where
      go : (a b : Bool) → ltb k w ≡ b
          → if (a && b) (clamp (get_or (c.kept ++ rest) k (pos 0))) (pos 0) ≡ if (a && b) (clamp (get_or c.kept k (pos 0))) (pos 0)
      go false b e = refl
      go true false e = refl
      go true true e = ap clamp (get_or-append c.kept rest (pos 0) k (let h = ltb-true k w e in omega arith))

  left-same : (k : ℕ) → k < w → left_of (c.kept ++ rest) k ≡ left_of c.kept k
  left-same zero h = refl
  left-same (suc k) h = ap clamp (get_or-append c.kept rest (pos 0) k (omega arith))

  value_same : value_of to_right w y x g (with_rest rest c) ≡ value_of to_right w y x g c
  unfolding value_of
  value_same = rw (left-same x in_row, over-same x, over-same (x + 1)) refl

  diffused-front : diffused to_right w y x g (with_rest rest c) ≡ with_rest rest (diffused to_right w y x g c)
  unfolding diffused
  diffused-front =
      let v = residual (value_of to_right w y x g c) in
      ap (λ (o : ℤ). record { corner = o; kept = set (c.kept ++ rest) x (residual (value_of to_right w y x g (with_rest rest c))) })
      (over-same x)
      ∙ ap (λ (z : ℤ). record { corner = over_of w y c.kept x; kept = set (c.kept ++ rest) x (residual z) }) value_same
      ∙ ap (λ (l : List ℤ). record { corner = over_of w y c.kept x; kept = l }) (set-append_left c.kept rest x v (omega arith))

-- the buffer has room where the rule keeps carries
abbrev Room : Rule → ℕ → ℕ → Type 0
Room rule w n = carries rule ≡ true → w ≤ n

module _ (w y x g : ℕ) (c : Carry) (rest : List ℤ) (in_row : x < w) where
  dot-same : (rule : Rule) → Room rule w (length c.kept) → machine_dot rule w y x g (with_rest rest c) ≡ machine_dot rule w y x g c
  unfolding machine_dot
  dot-same (threshold t) room = refl
  dot-same dither room = ap white (value_same w y x g c rest in_row (room refl))
  dot-same (ordered side table) room = refl

  next-front : (rule : Rule) → Room rule w (length c.kept) → next rule w y x g (with_rest rest c) ≡ with_rest rest (next rule w y x g c)
  unfolding next
  next-front (threshold t) room = refl
  next-front dither room = diffused-front w y x g c rest in_row (room refl)
  next-front (ordered side table) room = refl

-- ---- one sample, and samples one after the other

module _ (w y x g : ℕ) (st : MachineState) (rest : List ℤ) (in_row : x < w) where
  byte-front : (rule : Rule) → Room rule w (length st.carry.kept)
      → (byte_step rule w y x g (behind rest st)).state ≡ behind rest (byte_step rule w y x g st).state
  unfolding byte_step
  byte-front rule room = go (last_of w x)
    where
      after : (st : MachineState) → Bool → MachineStep
      after st b =
          let dots = st.begun * 2 + bit (machine_dot rule w y x g st.carry) in
          if b
          (record { bytes = dots * 2 ^ (7 - x % 8) ∷ []; state = record { begun = 0; carry = next rule w y x g st.carry } })
          (record { bytes = []; state = record { begun = dots; carry = next rule w y x g st.carry } })

      e : next rule w y x g (with_rest rest st.carry) ≡ with_rest rest (next rule w y x g st.carry)
      e = next-front w y x g st.carry rest in_row rule room

      go : (b : Bool) → (after (behind rest st) b).state ≡ behind rest (after st b).state
      go true = ap (λ (c : Carry). record { begun = 0; carry = c }) e
      go false =
          ap (λ (d : Bool). record { begun = st.begun * 2 + bit d; carry = next rule w y x g (with_rest rest st.carry) })
          (dot-same w y x g st.carry rest in_row rule room)
          ∙ ap (λ (c : Carry). record { begun = st.begun * 2 + bit (machine_dot rule w y x g st.carry); carry = c }) e

  step-front : (rule : Rule) → Room rule w (length st.carry.kept)
      → (machine_step rule w y x g (behind rest st)).state ≡ behind rest (machine_step rule w y x g st).state
  unfolding machine_step
  step-front (threshold t) = byte-front (threshold t)
  step-front dither = byte-front dither
  step-front (ordered side table) = byte-front (ordered side table)

pub carried-front : (s : Setting) (n : ℕ) (st : MachineState) (xs : List ℕ) (rest : List ℤ) → 0 < s.width
    → Room s.rule s.width (length st.carry.kept) → (i : ℕ) → carried s n (behind rest st) xs i ≡ behind rest (carried s n st xs i)
unfolding carried
carried-front s n st xs rest wide room zero = refl
carried-front s n st xs rest wide room (suc i) =
    let y = (n + i) / s.width % s.height in
    let x = (n + i) % s.width in
    ap (λ (q : MachineState). (machine_step s.rule s.width y x (get_or xs i 0) q).state) (carried-front s n st xs rest wide room i)
    ∙ step-front s.width y x (get_or xs i 0) (carried s n st xs i) rest (mod-lt (n + i) wide) s.rule
    (λ c. let h = room c in let l = carried-long s n st xs i in omega arith)
