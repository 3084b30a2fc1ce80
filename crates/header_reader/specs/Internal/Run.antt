-- Many bytes of extension fields at once.
use Rattle.std.specs.Prelude.{ℕ, ◌+◌, ◌/◌, ◌%◌, ◌≤◌, ◌<◌, ◌≡◌, true, false, List, [], ◌⊎◌, length, take}
use Rattle.header.specs.Settings.{Settings}
use Rattle.header_reader.specs.Internal.Machine.{State, in_type, at_fix, in_octets, at_octet, at_pair, in_identifier, in_value, in_width}
use Rattle.header_reader.specs.Internal.Machine.{in_height, in_fields, more, steps}
use Rattle.header_reader.specs.Internal.Standing.{fields_state}
use Rattle.header_reader.specs.Internal.Represents.{Represents}
use Rattle.header_reader.specs.declared.run.PairsRun.{PairsRun}
use Rattle.header_reader.specs.declared.run.Ran.{Ran}
use Rattle.header_reader.specs.declared.phase.FieldsPhase.{FieldsPhase}
use Rattle.header_reader.specs.declared.reader.HeaderReader.{HeaderReader}

-- where the fields start, for a state in them
abbrev pub fields_start : State → ℕ
fields_start (in_type at v n) = 0
fields_start (at_fix at) = 0
fields_start (in_octets fix start at) = start
fields_start (at_octet fix at) = at
fields_start (at_pair fix start at pairs) = start
fields_start (in_identifier fix start at pairs begun left size again fault) = start
fields_start (in_value fix start at pairs begun left again fault) = start
fields_start (in_width fix f at v n) = 0
fields_start (in_height fix f w at v n) = 0

-- two states in the same fields
pub record Inside (st next : State) : Type 0 where
  pub here : in_fields st ≡ true
  pub there : in_fields next ≡ true
  pub same : fields_start next ≡ fields_start st

-- a reading over the bytes ρ, which are none or all the fields', and behind which the fields go on
pub record RunReached (o : Settings) (st : State) (ρ : List ℕ) (r : HeaderReader) : Type 0 where
  pub next : State
  pub represents : Represents r o next
  pub reached : steps o st ρ ≡ more next
  pub inside : (ρ ≡ []) ⊎ Inside st next

-- `run`: for whatever the reader stands for
pub record ReaderRuns (r : HeaderReader) (piece : List ℕ) (x : Ran HeaderReader) : Type 0 where
  pub within : x.taken ≤ length piece
  pub does : (o : Settings) (st : State) → Represents r o st → RunReached o st (take x.taken piece) x.next

-- the same for where in the fields a reading stands
pub record FieldsRuns (o : Settings) (st : State) (piece : List ℕ) (r : Ran FieldsPhase) : Type 0 where
  pub within : r.taken ≤ length piece
  pub reached : steps o st (take r.taken piece) ≡ more (fields_state r.next)
  pub inside : (r.taken ≡ 0) ⊎ Inside st (fields_state r.next)

-- the first byte of a pair that another follows, and the size of that pair
pub record Continued (b size : ℕ) : Type 0 where
  pub again : 128 ≤ b
  pub identifier : 0 < b / 16 % 8
  pub value : 0 < b % 16
  pub is : size ≡ 1 + b / 16 % 8 + b % 16

-- whole pairs behind which others come, where classes are not tested
pub record PairsAhead (most : ℕ) (piece : List ℕ) (r : PairsRun) : Type 0 where
  pub within : r.taken ≤ length piece
  pub counted : r.pairs ≤ r.taken
  pub reached : (o : Settings) (fix start at pairs : ℕ) → o.classes ≡ false → at + most ≤ start + 4096
      → steps o (at_pair fix start at pairs) (take r.taken piece) ≡ more (at_pair fix start (at + r.taken) (pairs + r.pairs))
