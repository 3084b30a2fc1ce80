-- What the code's reader stands for, and what its calls promise.
use Rattle.std.specs.Prelude.{ℕ, ◌≡◌, [], Result, Ok, Err}
use Rattle.error.specs.Answer.{refusal, number}
use Rattle.error.specs.declared.WbmpError.{WbmpError}
use Rattle.header.specs.Settings.{Settings, settings}
use Rattle.header.specs.Read.{parsed}
use Rattle.header_reader.specs.Internal.Machine.{State, Step, more, done, refused, step_of, resume}
pub use Rattle.header_reader.specs.Internal.Standing.{fields_state, state, Reachable}
use Rattle.header_reader.specs.declared.reader.HeaderReader.{HeaderReader}
use Rattle.header.specs.declared.ParsedHeader.{ParsedHeader}
use Rattle.std.specs.declared.ops.ControlFlow.{ControlFlow}
use Rattle.std.specs.declared.ops.ControlFlow.TheVariants.{Continue, Break}

pub record Represents (r : HeaderReader) (o : Settings) (st : State) : Type 0 where
  pub mode_is : settings r.mode ≡ o
  pub phase_is : state r.phase ≡ st
  pub reachable : Reachable st

abbrev pub HeaderStep : Type 0
HeaderStep = ControlFlow ParsedHeader HeaderReader

-- the code's step answers as a step of the definitions
abbrev pub Answers : Settings → Result HeaderStep WbmpError → Step → Type 0
Answers o (Ok (Continue r)) (more st) = Represents r o st
Answers o (Ok (Continue r)) (done h) = ⊥
Answers o (Ok (Continue r)) (refused code offset) = ⊥
Answers o (Ok (Break p)) (more st) = ⊥
Answers o (Ok (Break p)) (done h) = parsed p ≡ h
Answers o (Ok (Break p)) (refused code offset) = ⊥
Answers o (Err e) (more st) = ⊥
Answers o (Err e) (done h) = ⊥
Answers o (Err e) (refused code offset) = (number e.kind ≡ code) × (e.offset ≡ offset)

-- `step`: for whatever the reader stands for
pub record ReaderStepped (r : HeaderReader) (b : ℕ) (x : Result HeaderStep WbmpError) : Type 0 where
  pub does : (o : Settings) (st : State) → Represents r o st → Answers o x (step_of o st b)

-- `ended`: the reading of an input that ends here
pub record ReaderEnded (r : HeaderReader) (e : WbmpError) : Type 0 where
  pub does : (o : Settings) (st : State) → Represents r o st → refusal e ≡ resume o st []
