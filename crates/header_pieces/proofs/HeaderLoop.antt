-- A piece that is fed: what holds before each of its bytes, and what one byte more comes to.
use Rattle.std.proofs.Common.{◌≡◌, ℕ, ◌+◌, ◌%◌, ◌^◌, ◌<◌, ◌≤◌, Bool, ◌&&◌, ltb, List, [], ◌∷◌, ◌++◌, length, get_or, take, drop, sym, refl, ap, ◌∙◌, subst, append_assoc, append-nil, mod-eq_of_lt, add-one, arith, length-append, take_all, take-suc, Result, Ok, Err}
use mathlib.Core.Path.{subst⁻¹}
use lib.Seq.{sets, split_at, drop-length}
use Rattle.error.specs.Answer.{gives, map}
use Rattle.error.specs.declared.WbmpError.{WbmpError}
use Rattle.laws.proofs.Lists.{length-append-take}
use Rattle.laws.proofs.Tests.{zero_one}
use Rattle.header.specs.Settings.{Settings}
use Rattle.header.specs.Read.{Outline, outline, read_header}
use Rattle.header_reader.specs.Internal.Machine.{State, start, in_fields, Step, more, done, refused, step_of, steps, after, resume}
use Rattle.header_reader.specs.Internal.Represents.{HeaderStep, Represents, Answers, ReaderStepped}
use Rattle.header_reader.specs.Internal.Pieces.{onward}
use Rattle.header.specs.declared.ParsedHeader.{ParsedHeader}
use Rattle.header_reader.specs.declared.reader.HeaderReader.{HeaderReader}
use Rattle.std.specs.declared.ops.ControlFlow.TheVariants.{Continue, Break}
use Rattle.header_reader.proofs.Machine.{one-step, steps-cons, steps-law, steps-append}
use Rattle.header_pieces.proofs.Direct.{direct}
use Rattle.header_reader.proofs.StepReachable.{ReachableStep, reachable-step}
use Rattle.header_pieces.proofs.BytesTaken.{Moves, taken, moves-step}
use Rattle.header_pieces.specs.Extension.{field_bytes}
use Rattle.header_pieces.specs.Internal.Head.{HeadFed, Reached, HasRead, Ends, Heads, is_kept, Keeps}
use Rattle.header_pieces.specs.declared.HeadReading.{HeadReading}
use Rattle.header_pieces.proofs.Readings.{reached-bound}
use Rattle.header_pieces.proofs.FieldsGrown.{stores, Follow, grown, taken-so}
use Rattle.header_pieces.proofs.FieldsStored.{Stored, stored_more}

-- before byte i of a piece
pub record Going (o : Settings) (bytes piece ext₀ : List ℕ) (at kept i : ℕ) (r : HeaderReader) (count : ℕ) (ext : List ℕ) : Type 0 where
  pub reached : Reached o (bytes ++ take i piece) r (at + i) count
  pub stored : Stored ext₀ kept (field_bytes o (bytes ++ take i piece)) count ext

-- what the code does with byte i
pub record Turn (piece : List ℕ) (at i : ℕ) (r : HeaderReader) (count : ℕ) (ext : List ℕ) (x : Result HeaderStep WbmpError) (count' : ℕ)
    (ext' : List ℕ) : Type 0 where
  pub within : i < length piece
  pub big : 4118 ≤ length ext
  pub inside : Bool
  pub wanted : Bool
  pub tells : (o : Settings) (st : State) → Represents r o st → inside ≡ in_fields st
  pub stepped : ReaderStepped r (get_or piece i 0) x
  pub wants : wanted ≡ is_kept inside (at + i) x
  pub keeps : Keeps count (get_or piece i 0) wanted ext count' ext'

-- what `Heads` promises of one reading
abbrev pub Headed : Settings → List ℕ → List ℕ → List ℕ → ℕ → Result HeadFed WbmpError → List ℕ → Type 0
Headed o bytes piece ext kept r ext' =
    Ends o bytes piece r × (ext' ≡ sets ext kept (drop kept (field_bytes o (bytes ++ piece))))

-- the code's test and the law's agree
kept-as : (o : Settings) (st : State) (at : ℕ) (x : Result HeaderStep WbmpError) (y : Step) → Answers o x y → is_kept (in_fields st) at x ≡ stores st at y
kept-as o st at (Ok (Continue r)) (more s) h = refl
kept-as o st at (Ok (Continue r)) (done g) h = absurd h
kept-as o st at (Ok (Continue r)) (refused code place) h = absurd h
kept-as o st at (Ok (Break p)) (more s) h = absurd h
kept-as o st at (Ok (Break p)) (done g) h = refl
kept-as o st at (Ok (Break p)) (refused code place) h = absurd h
kept-as o st at (Err e) (more s) h = absurd h
kept-as o st at (Err e) (done g) h = absurd h
kept-as o st at (Err e) (refused code place) h = ap (λ (n : ℕ). in_fields st && ltb at n) h.1

module _ (o : Settings) (bytes piece ext₀ : List ℕ) (at kept i : ℕ) (r : HeaderReader) (count : ℕ) (ext : List ℕ) (x : Result HeaderStep WbmpError)
    (count' : ℕ) (ext' : List ℕ)
    (g : Going o bytes piece ext₀ at kept i r count ext) (t : Turn piece at i r count ext x count' ext') where
  abbrev b : ℕ
  b = get_or piece i 0

  abbrev σ : List ℕ
  σ = bytes ++ take i piece

  abbrev st : State
  st = g.reached.state

  next-list : bytes ++ take (i + 1) piece ≡ σ ++ b ∷ []
  next-list = rw (add-one, take-suc piece i 0 t.within) (sym (append_assoc bytes (take i piece) (b ∷ [])))

  whole-list : bytes ++ piece ≡ σ ++ b ∷ drop (i + 1) piece
  whole-list =
      ap (λ (l : List ℕ). bytes ++ l) (split_at piece i 0 t.within) ∙ rw add-one (sym (append_assoc bytes (take i piece) _))

  answers : Answers o x (step_of o st b)
  answers = t.stepped.does o st g.reached.represents

  -- the extension bytes behind it
  behind : (τ : List ℕ) (y : Step) → step_of o st b ≡ y → Answers o x y → Follow y τ
      → Stored ext₀ kept (field_bytes o (σ ++ b ∷ τ)) count' ext'
  behind τ y e a f =
      let n = grown o σ st g.reached.reached b τ y e f in
      let w : t.wanted ≡ stores st (length σ) y =
      t.wants ∙ ap (λ (v : Bool). is_kept v (at + i) x) (t.tells o st g.reached.represents)
      ∙ ap (λ (m : ℕ). is_kept (in_fields st) m x) g.reached.at_is ∙ kept-as o st (length σ) x y a in
      subst⁻¹ (λ (l : List ℕ). Stored ext₀ kept l count' ext') n.bytes
      (stored_more ext₀ (field_bytes o σ) ext ext' kept count count' b _ g.stored
      (λ q. omega (arith, n.room q, g.reached.kept_is, t.big))
      (subst (λ (v : Bool). Keeps count b v ext count' ext') w t.keeps))

  -- reading the whole file from here
  reads : (y : Step) → step_of o st b ≡ y → map outline (read_header o (bytes ++ piece)) ≡ after o y (drop (i + 1) piece)
  reads y e =
      direct o (bytes ++ piece) ∙ ap (resume o start) whole-list ∙ steps-law o σ (b ∷ drop (i + 1) piece) start
      ∙ ap (λ (k : Step). after o k (b ∷ drop (i + 1) piece)) g.reached.reached
      ∙ one-step o (drop (i + 1) piece) st b
      ∙ ap (λ (k : Step). after o k (drop (i + 1) piece)) e

  -- it goes on
  pub turn_more : (next : HeaderReader) → x ≡ Ok (Continue next) → Going o bytes piece ext₀ at kept (i + 1) next count' ext'
  unfolding steps
  turn_more next e = go (step_of o st b) refl (subst (λ (k : Result HeaderStep WbmpError). Answers o k (step_of o st b)) e answers)
    where
      go : (y : Step) → step_of o st b ≡ y → Answers o (Ok (Continue next)) y → Going o bytes piece ext₀ at kept (i + 1) next count' ext'
      go (more s) q a =
          let m = behind [] (more s) q (subst⁻¹ (λ (k : Result HeaderStep WbmpError). Answers o k (more s)) e a) refl in
          record {
            reached = subst⁻¹ (λ (l : List ℕ). Reached o l next (at + (i + 1)) count') next-list
                (record {
                  state = s;
                  represents = a;
                  reached = steps-append o σ (b ∷ []) start ∙ ap (λ (k : Step). onward o k (b ∷ [])) g.reached.reached
                      ∙ steps-cons o st b [] ∙ ap (λ (k : Step). onward o k []) q;
                  at_is = omega (arith, g.reached.at_is, length-append σ (b ∷ []));
                  kept_is = m.all;
                });
            stored = subst⁻¹ (λ (l : List ℕ). Stored ext₀ kept (field_bytes o l) count' ext') next-list m;
          }
      go (done h) q a = absurd a
      go (refused code place) q a = absurd a

  -- it has ended with the header
  pub turn-done : (h : ParsedHeader) → x ≡ Ok (Break h)
      → Headed o bytes piece ext₀ kept (Ok (Break (h, i + 1))) ext'
  turn-done h e = go (step_of o st b) refl (subst (λ (k : Result HeaderStep WbmpError). Answers o k (step_of o st b)) e answers) (moves-step o st b)
    where
      go : (y : Step) → step_of o st b ≡ y → Answers o (Ok (Break h)) y → Moves (taken st) y
          → Headed o bytes piece ext₀ kept (Ok (Break (h, i + 1))) ext'
      go (more s) q a m = absurd a
      go (done y) q a m =
          let body : h.data_offset ≡ y.body = ap (λ (k : Outline). k.body) a in
          let size = length-append-take bytes piece i (omega (arith, t.within)) in (
            (reads (done y) q ∙ ap gives (sym a), omega (arith, body, m, taken-so o σ st g.reached.reached)),
            rw whole-list (behind (drop (i + 1) piece) (done y) q (subst⁻¹ (λ (k : Result HeaderStep WbmpError). Answers o k (done y)) e a) tt).buffer,
          )
      go (refused code place) q a m = absurd a

  -- it is refused
  pub turn-refused : (f : WbmpError) → x ≡ Err f
      → Headed o bytes piece ext₀ kept (Err f) ext'
  turn-refused f e =
      go (step_of o st b) refl (subst (λ (k : Result HeaderStep WbmpError). Answers o k (step_of o st b)) e answers)
      (reachable-step o st b g.reached.represents.reachable)
    where
      go : (y : Step) → step_of o st b ≡ y → Answers o (Err f) y → ReachableStep y
          → Headed o bytes piece ext₀ kept (Err f) ext'
      go (more s) q a m = absurd a
      go (done y) q a m = absurd a
      go (refused code place) q a m = (
        (reads (refused code place) q ∙ cc (a.0, a.1), rw a.0 m),
        rw whole-list (behind (drop (i + 1) piece) (refused code place) q
            (subst⁻¹ (λ (k : Result HeaderStep WbmpError). Answers o k (refused code place)) e a) tt).buffer,
      )

-- before the first byte
pub going-first : (o : Settings) (bytes piece ext : List ℕ) (at kept : ℕ) (r : HeaderReader) → Reached o bytes r at kept
    → Going o bytes piece ext at kept 0 r kept ext
going-first o bytes piece ext at kept r h =
    let n : at ≡ at + 0 = omega arith in
    let d : drop kept (field_bytes o bytes) ≡ [] = rw h.kept_is (drop-length (field_bytes o bytes)) in
    record {
      reached = subst⁻¹ (λ (l : List ℕ). Reached o l r (at + 0) kept) (append-nil bytes) (subst (λ (m : ℕ). Reached o bytes r m kept) n h);
      stored =
          subst⁻¹ (λ (l : List ℕ). Stored ext kept (field_bytes o l) kept ext) (append-nil bytes)
          (record { buffer = ap (sets ext kept) (sym d); all = h.kept_is; begun = omega arith });
    }

-- behind the last byte
pub going-last : (o : Settings) (bytes piece ext₀ : List ℕ) (at kept i : ℕ) (r : HeaderReader) (count : ℕ) (ext : List ℕ) (now : ℕ)
    → Going o bytes piece ext₀ at kept i r count ext → length piece ≤ i → now ≡ (at + i) % 2 ^ 64
    → Headed o bytes piece ext₀ kept (Ok (Continue (record { reader = r; at = now; kept = count }))) ext
going-last o bytes piece ext₀ at kept i r count ext now g l n =
    let e : take i piece ≡ piece = take_all i piece l in
    let b = reached-bound o (bytes ++ take i piece) r (at + i) count g.reached in
    let same : at + i ≡ now = sym (n ∙ mod-eq_of_lt (omega arith)) in (
      subst (λ (p : List ℕ). Reached o (bytes ++ p) r now count) e
          (subst (λ (k : ℕ). Reached o (bytes ++ take i piece) r k count) same g.reached),
      subst (λ (p : List ℕ). ext ≡ sets ext₀ kept (drop kept (field_bytes o (bytes ++ p)))) e g.stored.buffer,
    )

-- how many bytes of a piece a header that ended in it took
abbrev pub took : Result HeadFed WbmpError → ℕ
took (Ok (Continue next)) = 0
took (Ok (Break (h, taken))) = taken
took (Err e) = 0

-- for every reading
pub ends : {h₀ : HeadReading} {piece ext : List ℕ} {r : Result HeadFed WbmpError} {ext' : List ℕ}
    → 4118 ≤ length ext → ((h : ParsedHeader) (taken : ℕ) → r ≡ Ok (Break (h, taken)) → taken ≤ length piece)
    → ((o : Settings) (bytes : List ℕ) → HasRead o bytes h₀ → Headed o bytes piece ext h₀.kept r ext')
    → Heads h₀ piece ext r ext'
ends big n h =
    record { within = n; short = λ l. absurd (omega arith); does = λ b o bytes p. (h o bytes p).0; stores = λ b o bytes p. (h o bytes p).1 }

-- over a short buffer
pub untaken : (h₀ : HeadReading) (piece ext : List ℕ) → length ext < 4118 → Heads h₀ piece ext (Ok (Continue h₀)) ext
untaken h₀ piece ext l =
    record {
      within = λ h n e. zero_one (cc);
      short = λ h. (refl, refl);
      does = λ b. absurd (omega arith);
      stores = λ b. absurd (omega arith);
    }
