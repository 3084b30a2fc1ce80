-- Reading in pieces answers as reading the whole does, however the bytes are cut.
use Rattle.std.proofs.Common.{◌≡◌, ℕ, false, List, [], ◌∷◌, sym, refl, ap, ◌∙◌, None, Result, Ok, Err, arith}
use mathlib.Core.Path.{subst⁻¹}
use Rattle.error.specs.Answer.{Answer, gives, map, number}
use Rattle.error.specs.declared.WbmpError.{WbmpError}
use Rattle.mbi.specs.Read.{read_byte}
use Rattle.header.specs.Settings.{Settings, settings}
use Rattle.header.specs.Read.{Outline, outline, parsed, read_header}
use Rattle.header_reader.specs.Internal.Machine.{State, start, Step, more, done, refused, step_of, steps, after, resume}
use Rattle.header_reader.specs.Internal.Represents.{HeaderStep, Represents, Answers, ReaderStepped}
use Rattle.header_reader.specs.Internal.Pieces.{join, onward, Fed, nothing, byte, last, bad, Run, closed, piece, whole, met}
use Rattle.header.specs.declared.HeaderMode.{HeaderMode}
use Rattle.header.specs.declared.ParsedHeader.{ParsedHeader}
use Rattle.header_reader.specs.declared.phase.PartialInteger.{PartialInteger}
use Rattle.header_reader.specs.declared.phase.Phase.{Phase}
use Rattle.header_reader.specs.declared.reader.HeaderReader.{HeaderReader}
use Rattle.std.specs.declared.ops.ControlFlow.TheVariants.{Continue, Break}
use Rattle.header_reader.proofs.Machine.{steps-cons, steps-law}
use Rattle.header_reader.proofs.StepReachable.{reachable-start}
use Rattle.header_reader.proofs.ReaderPromises.{goes-on, is-done}
use Rattle.header_pieces.proofs.Direct.{direct}

module _ (o : Settings) where
  -- what a case of the code's step says of the definitions' step
  open_is : {r : HeaderReader} (x : Step) → Answers o (Ok (Continue r)) x → (st : State) × ((x ≡ more st) × Represents r o st)
  open_is (more st) h = (st, (refl, h))
  open_is (done g) h = absurd h
  open_is (refused code offset) h = absurd h

  done-is : (p : ParsedHeader) (x : Step) → Answers o (Ok (Break p)) x → x ≡ done (parsed p)
  done-is p (more st) h = absurd h
  done-is p (done g) h = ap done (sym h)
  done-is p (refused code offset) h = absurd h

  refused-is : (e : WbmpError) (x : Step) → Answers o (Err e) x → x ≡ refused (number e.kind) e.offset
  refused-is e (more st) h = absurd h
  refused-is e (done g) h = absurd h
  refused-is e (refused code offset) h = cc (h.0, h.1)

  -- a piece that is fed
  pub fed : {r : HeaderReader} {st : State} {σ : List ℕ} {x : Result HeaderStep WbmpError} → Represents r o st → Fed r σ x → Answers o x (steps o st σ)
  unfolding steps
  fed h nothing = h
  fed {st = st} {x = x} h (byte {b = b} {σ = σ} s f) =
      let q = open_is (step_of o st b) (s.does o st h) in
      let e : steps o st (b ∷ σ) ≡ steps o q.0 σ = steps-cons o st b σ ∙ ap (λ (k : Step). onward o k σ) q.1.0 in
      subst⁻¹ (Answers o x) e (fed q.1.1 f)
  fed {st = st} {x = x} h (last {b = b} {σ = σ} {p = p} s) =
      let e = steps-cons o st b σ ∙ ap (λ (k : Step). onward o k σ) (done-is p (step_of o st b) (s.does o st h)) in
      subst⁻¹ (Answers o x) e refl
  fed {st = st} {x = x} h (bad {b = b} {σ = σ} s) =
      let e = steps-cons o st b σ ∙ ap (λ (k : Step). onward o k σ) (refused-is _ (step_of o st b) (s.does o st h)) in
      subst⁻¹ (Answers o x) e (refl, refl)

  -- pieces that are fed to a reader at any state
  pub run-from : {r : HeaderReader} {st : State} {σs : List (List ℕ)} {a : Answer Outline} → Represents r o st → Run r σs a
      → a ≡ resume o st (join σs)
  run-from {st = st} h (closed e) = e.does o st h
  run-from {st = st} h (piece {σ = σ} {σs = σs} f u) =
      let q = open_is (steps o st σ) (fed h f) in
      run-from q.1.1 u ∙ sym (steps-law o σ (join σs) st ∙ ap (λ (k : Step). after o k (join σs)) q.1.0)
  run-from {st = st} h (whole {σ = σ} {σs = σs} {p = p} f) =
      sym (steps-law o σ (join σs) st ∙ ap (λ (k : Step). after o k (join σs)) (done-is p (steps o st σ) (fed h f)))
  run-from {st = st} h (met {σ = σ} {σs = σs} f) =
      sym (steps-law o σ (join σs) st ∙ ap (λ (k : Step). after o k (join σs)) (refused-is _ (steps o st σ) (fed h f)))

  -- a reading in pieces is the reading of their join: outline, refusal and offset
  pub pieces : {r : HeaderReader} {σs : List (List ℕ)} {a : Answer Outline} → Represents r o start → Run r σs a
      → a ≡ map outline (read_header o (join σs))
  pieces {σs = σs} h u = run-from h u ∙ sym (direct o (join σs))

  -- two cuts of the same bytes answer the same
  pub two-cuts : {r₁ r₂ : HeaderReader} {σs₁ σs₂ : List (List ℕ)} {a₁ a₂ : Answer Outline}
      → Represents r₁ o start → Represents r₂ o start → join σs₁ ≡ join σs₂ → Run r₁ σs₁ a₁ → Run r₂ σs₂ a₂ → a₁ ≡ a₂
  two-cuts h₁ h₂ e u v = run-from h₁ u ∙ ap (resume o start) e ∙ sym (run-from h₂ v)

-- the card 00 00 09 02, cut as 00, nothing, 00 09, 02, and in one piece
abbrev lenient : HeaderMode
lenient = record { shortest = false; fix_zero = false; fields = false; classes = false }

abbrev sized : ParsedHeader
sized = record { width = 9; height = 2; data_offset = 4; fix_header = 0; ext_fields = None }

abbrev begun : ℕ → PartialInteger
begun at = record { at = at; value = 0; count = 0 }

-- before each of its bytes
abbrev first : HeaderReader
first = record { mode = lenient; phase = Phase.InType (begun 0); reachable = omega arith }

abbrev second : HeaderReader
second = record { mode = lenient; phase = Phase.AtFix 1; reachable = omega arith }

abbrev third : HeaderReader
third = record { mode = lenient; phase = Phase.InWidth 0 None (begun 2); reachable = omega arith }

abbrev fourth : HeaderReader
fourth = record { mode = lenient; phase = Phase.InHeight 0 None 9 (begun 3); reachable = omega arith }

type : ReaderStepped first 0 (Ok (Continue second))
unfolding step_of read_byte
type = goes-on first 0 second refl refl

fix : ReaderStepped second 0 (Ok (Continue third))
unfolding step_of
fix = goes-on second 0 third refl refl

width : ReaderStepped third 9 (Ok (Continue fourth))
unfolding step_of read_byte
width = goes-on third 9 fourth refl refl

height : ReaderStepped fourth 2 (Ok (Break sized))
unfolding step_of read_byte
height = is-done fourth 2 sized refl

opened : Represents first (settings lenient) start
opened = record { mode_is = refl; phase_is = refl; reachable = reachable-start }

cut : Run first ((0 ∷ []) ∷ [] ∷ (0 ∷ 9 ∷ []) ∷ (2 ∷ []) ∷ []) (gives (parsed sized))
cut = piece (byte type nothing) (piece nothing (piece (byte fix (byte width nothing)) (whole (last height))))

uncut : Run first ((0 ∷ 0 ∷ 9 ∷ 2 ∷ []) ∷ []) (gives (parsed sized))
uncut = whole (byte type (byte fix (byte width (last height))))

card : gives (parsed sized) ≡ map outline (read_header (settings lenient) (0 ∷ 0 ∷ 9 ∷ 2 ∷ []))
card = pieces (settings lenient) opened cut

same : gives (parsed sized) ≡ gives (parsed sized)
same = two-cuts (settings lenient) opened opened refl cut uncut
