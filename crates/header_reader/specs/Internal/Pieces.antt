-- Readings in pieces.
use Rattle.std.specs.Prelude.{ℕ, List, [], ◌∷◌, ◌++◌, Result, Ok, Err}
use Rattle.error.specs.Answer.{Answer, gives, refusal}
use Rattle.error.specs.declared.WbmpError.{WbmpError}
use Rattle.header.specs.Settings.{Settings}
use Rattle.header.specs.Read.{Outline, parsed}
use Rattle.header_reader.specs.Internal.Machine.{Step, more, done, refused, steps}
use Rattle.header_reader.specs.Internal.Represents.{HeaderStep, ReaderStepped, ReaderEnded}
use Rattle.header.specs.declared.ParsedHeader.{ParsedHeader}
use Rattle.header_reader.specs.declared.reader.HeaderReader.{HeaderReader}
use Rattle.std.specs.declared.ops.ControlFlow.TheVariants.{Continue, Break}

abbrev pub join : List (List ℕ) → List ℕ
join [] = []
join (σ ∷ σs) = σ ++ join σs

-- a piece more
abbrev pub onward : Settings → Step → List ℕ → Step
onward o (more st) σ = steps o st σ
onward o (done h) σ = done h
onward o (refused code offset) σ = refused code offset

-- A reader that is fed a piece: each byte goes to what the one before it left, by a `step` that meets its contract, and none is looked at
-- after the header's end or a refusal.
pub data Fed : HeaderReader → List ℕ → Result HeaderStep WbmpError → Type 0 where
  nothing : {r : HeaderReader} → Fed r [] (Ok (Continue r))
  byte : {r r' : HeaderReader} {b : ℕ} {σ : List ℕ} {x : Result HeaderStep WbmpError}
      → ReaderStepped r b (Ok (Continue r')) → Fed r' σ x → Fed r (b ∷ σ) x
  last : {r : HeaderReader} {b : ℕ} {σ : List ℕ} {p : ParsedHeader}
      → ReaderStepped r b (Ok (Break p)) → Fed r (b ∷ σ) (Ok (Break p))
  bad : {r : HeaderReader} {b : ℕ} {σ : List ℕ} {e : WbmpError}
      → ReaderStepped r b (Err e) → Fed r (b ∷ σ) (Err e)

-- A reader that is fed pieces, and what the reading answers: the header, the refusal that was met, or, where it is still open after the
-- last piece, that of `ended`.
pub data Run : HeaderReader → List (List ℕ) → Answer Outline → Type 0 where
  closed : {r : HeaderReader} {e : WbmpError} → ReaderEnded r e → Run r [] (refusal e)
  piece : {r r' : HeaderReader} {σ : List ℕ} {σs : List (List ℕ)} {a : Answer Outline}
      → Fed r σ (Ok (Continue r')) → Run r' σs a → Run r (σ ∷ σs) a
  whole : {r : HeaderReader} {σ : List ℕ} {σs : List (List ℕ)} {p : ParsedHeader}
      → Fed r σ (Ok (Break p)) → Run r (σ ∷ σs) (gives (parsed p))
  met : {r : HeaderReader} {σ : List ℕ} {σs : List (List ℕ)} {e : WbmpError}
      → Fed r σ (Err e) → Run r (σ ∷ σs) (refusal e)
