-- What a run of bytes of extension fields, taken at once, comes to.
use Rattle.std.specs.Prelude.{◌≡◌, ℕ, ◌+◌, ◌-◌, ◌≤◌, List, [], length, take, drop}
use Rattle.std.proofs.lemmas.List.Edits.{sets}
use Rattle.header.specs.Settings.{Settings}
use Rattle.header_reader.specs.Internal.Machine.{State}
use Rattle.header_reader.specs.Internal.Represents.{Represents}
use Rattle.header_reader.specs.Internal.Run.{RunReached}
use Rattle.header_reader.specs.declared.reader.HeaderReader.{HeaderReader}
use Rattle.header_pieces.specs.declared.HeadRun.{HeadRun}

-- a run is stored behind the bytes kept, where it has room
pub record KeepsRun (kept : ℕ) (run ext : List ℕ) (r : ℕ) (ext' : List ℕ) : Type 0 where
  pub stored : kept + length run ≤ length ext → (r ≡ kept + length run) × (ext' ≡ sets ext kept run)
  pub none : run ≡ [] → (r ≡ kept) × (ext' ≡ ext)

-- the run from byte i of a piece on
abbrev pub run_of : List ℕ → ℕ → HeadRun → List ℕ
run_of piece i r = take (r.taken - i) (drop i piece)

pub record RunsOn (r₀ : HeaderReader) (kept i : ℕ) (piece ext : List ℕ) (r : HeadRun) (ext' : List ℕ) : Type 0 where
  pub later : i ≤ r.taken
  pub within : r.taken ≤ length piece
  pub ran : (o : Settings) (st : State) → Represents r₀ o st → RunReached o st (run_of piece i r) r.reader
  pub keeps : KeepsRun kept (run_of piece i r) ext r.kept ext'
