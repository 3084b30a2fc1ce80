-- The running machine: it goes from sample to sample, emits the bytes that each one finishes, and keeps, beside its place, the begun byte's
-- dots and the rule's carry.
use Rattle.std.specs.Prelude.{ℕ, zero, suc, ◌+◌, ◌-◌, ◌*◌, ◌/◌, ◌%◌, ◌^◌, Bool, ◌||◌, List, [], ◌∷◌, ◌++◌, leb, get_or}
use Rattle.error.specs.Choice.{if}
use Rattle.rules.specs.Bits.{bit}
use Rattle.rules.specs.Rule.{Rule, threshold, dither, ordered}
use Rattle.quantize.specs.Finished.{Setting}
use Rattle.dither.specs.Internal.Carry.{Carry, machine_dot, next}

-- what is kept beside the place: the dots of the begun byte, as binary digits, and the residuals
pub record MachineState : Type 0 where
  pub begun : ℕ
  pub carry : Carry

-- the bytes that the next sample finishes, and what is kept after it
pub record MachineStep : Type 0 where
  pub bytes : List ℕ
  pub state : MachineState

-- column x is the last one of its byte, in rows of w
abbrev pub last_of : ℕ → ℕ → Bool
last_of w x = leb w (x + 1) || leb 7 (x % 8)

-- a row that is finished byte after byte: behind the row's last dot stand zeros
unfoldable pub byte_step : Rule → ℕ → ℕ → ℕ → ℕ → MachineState → MachineStep
byte_step rule w y x gray st =
    let dots = st.begun * 2 + bit (machine_dot rule w y x gray st.carry) in
    let c = next rule w y x gray st.carry in
    if (last_of w x)
    (record { bytes = dots * 2 ^ (7 - x % 8) ∷ []; state = record { begun = 0; carry = c } })
    (record { bytes = []; state = record { begun = dots; carry = c } })

-- the sample at column x of row y: the rule's say
unfoldable pub machine_step : Rule → ℕ → ℕ → ℕ → ℕ → MachineState → MachineStep
machine_step (threshold t) w y x gray st = byte_step (threshold t) w y x gray st
machine_step dither w y x gray st = byte_step dither w y x gray st
machine_step (ordered side table) w y x gray st = byte_step (ordered side table) w y x gray st

-- what is kept after i of the samples xs, where n were taken before and st was kept, and the bytes that they finish
unfoldable pub carried : Setting → ℕ → MachineState → List ℕ → ℕ → MachineState
carried s n st xs zero = st
carried s n st xs (suc i) =
    (machine_step s.rule s.width ((n + i) / s.width % s.height) ((n + i) % s.width) (get_or xs i 0) (carried s n st xs i)).state

unfoldable pub machine_bytes : Setting → ℕ → MachineState → List ℕ → ℕ → List ℕ
machine_bytes s n st xs zero = []
machine_bytes s n st xs (suc i) =
    machine_bytes s n st xs i ++ (machine_step s.rule s.width ((n + i) / s.width % s.height) ((n + i) % s.width) (get_or xs i 0)
    (carried s n st xs i)).bytes
