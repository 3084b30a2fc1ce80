-- A run of bytes of extension fields that is taken and stored at once.
use Rattle.std.proofs.Common.{◌≡◌, ℕ, ◌+◌, ◌-◌, ◌<◌, ◌≤◌, true, ◌⊎◌, List, [], ◌∷◌, ◌++◌, length, get_or, take, drop, set, sym, refl, ap, ◌∙◌, subst, inl, inr, append_assoc, append-nil, add-one, arith, length-append, length-drop, length-set, length-take-le, take_all, take-suc, take-add}
use mathlib.Core.Path.{subst⁻¹}
use lib.Seq.{sets, drop-append-le}
use Rattle.laws.proofs.Tests.{zero_one}
use Rattle.laws.proofs.Runs.{sets-append}
use Rattle.header.specs.Settings.{Settings}
use Rattle.header_reader.specs.Internal.Machine.{State, start, in_type, at_fix, in_octets, at_octet, at_pair}
use Rattle.header_reader.specs.Internal.Machine.{in_identifier, in_value, in_width, in_height, in_fields, Step, more, steps}
use Rattle.header_reader.specs.Internal.Standing.{Reachable}
use Rattle.header_reader.specs.Internal.Pieces.{onward}
use Rattle.header_reader.specs.Internal.Run.{fields_start, Inside, RunReached, ReaderRuns}
use Rattle.header_reader.specs.declared.reader.HeaderReader.{HeaderReader}
use Rattle.header_reader.specs.declared.run.Ran.{Ran}
use Rattle.header_reader.proofs.Machine.{steps-append}
use Rattle.header_pieces.proofs.BytesTaken.{taken}
use Rattle.header_pieces.specs.Extension.{field_bytes}
use Rattle.header_pieces.specs.Internal.Head.{Reached}
use Rattle.header_pieces.specs.Internal.HeadRun.{KeepsRun, RunsOn}
use Rattle.header_pieces.specs.declared.HeadRun.{HeadRun}
use Rattle.header_pieces.proofs.Zones.{Zone, inside, zone}
use Rattle.header_pieces.proofs.FieldsBytewise.{zone_bytes}
use Rattle.header_pieces.proofs.FieldsGrown.{taken-so, bytes-so}
use Rattle.header_pieces.proofs.FieldsStored.{Stored}
use Rattle.header_pieces.proofs.HeaderLoop.{Going}

-- the first i bytes of a run are stored behind those kept
pub record KeptSo (ext₀ run : List ℕ) (kept : ℕ) (ext : List ℕ) (i : ℕ) : Type 0 where
  pub room : kept + length run ≤ length ext₀
  pub within : i ≤ length run
  pub same : length ext ≡ length ext₀
  pub stored : ext ≡ sets ext₀ kept (take i run)

pub kept-first : {ext run : List ℕ} {kept : ℕ} → kept + length run ≤ length ext → KeptSo ext run kept ext 0
kept-first h = record { room = h; within = omega arith; same = refl; stored = refl }

sets_more : (ext run : List ℕ) (kept i : ℕ) → i < length run
    → set (sets ext kept (take i run)) (kept + i) (get_or run i 0) ≡ sets ext kept (take (i + 1) run)
sets_more ext run kept i h =
    let n : length (take i run) ≡ i = length-take-le i run (omega arith) in
    ap (λ (k : ℕ). set (sets ext kept (take i run)) (kept + k) (get_or run i 0)) (sym n)
    ∙ sets-append ext kept (take i run) (get_or run i 0 ∷ [])
    ∙ ap (sets ext kept) (sym (ap (λ (k : ℕ). take k run) (add-one i) ∙ take-suc run i 0 h))

pub kept_next : {ext₀ run : List ℕ} {kept : ℕ} {ext : List ℕ} {i : ℕ} → KeptSo ext₀ run kept ext i → i < length run
    → KeptSo ext₀ run kept (set ext (kept + i) (get_or run i 0)) (i + 1)
kept_next {ext₀} {run} {kept} {ext} {i} k h =
    record {
      room = k.room;
      within = omega arith;
      same = length-set ext (kept + i) (get_or run i 0) ∙ k.same;
      stored = ap (λ (l : List ℕ). set l (kept + i) (get_or run i 0)) k.stored ∙ sets_more ext₀ run kept i h;
    }

pub kept-last : {ext₀ run : List ℕ} {kept end : ℕ} {ext : List ℕ} {i : ℕ} → KeptSo ext₀ run kept ext i → length run ≤ i
    → end ≡ kept + length run → KeepsRun kept run ext₀ end ext
kept-last {ext₀} {run} {kept} {end} {ext} {i} k h e =
    let q : ext ≡ sets ext₀ kept run = k.stored ∙ ap (sets ext₀ kept) (take_all i run h) in
    record { stored = λ r. (e, q); none = λ z. (omega (arith, ap length z), q ∙ ap (sets ext₀ kept) z) }

-- a state in the fields
in-zone : (st : State) → in_fields st ≡ true → zone st ≡ inside (fields_start st)
in-zone (in_type at v n) e = zero_one (cc)
in-zone (at_fix at) e = zero_one (cc)
in-zone (in_octets fix from at) e = refl
in-zone (at_octet fix at) e = refl
in-zone (at_pair fix from at pairs) e = refl
in-zone (in_identifier fix from at pairs begun left size again fault) e = refl
in-zone (in_value fix from at pairs begun left again fault) e = refl
in-zone (in_width fix f at v n) e = zero_one (cc)
in-zone (in_height fix f w at v n) e = zero_one (cc)

in_bounds : (st : State) → in_fields st ≡ true → Reachable st → (fields_start st ≤ taken st) × (taken st ≤ fields_start st + 4118)
in_bounds (in_type at v n) e s = zero_one (cc)
in_bounds (at_fix at) e s = zero_one (cc)
in_bounds (in_octets fix from at) e s = (s.2, omega arith)
in_bounds (at_octet fix at) e s = (omega arith, omega arith)
in_bounds (at_pair fix from at pairs) e s = (s.3, s.1)
in_bounds (in_identifier fix from at pairs begun left size again fault) e s = (s.5, omega arith)
in_bounds (in_value fix from at pairs begun left again fault) e s = (s.4, omega arith)
in_bounds (in_width fix f at v n) e s = zero_one (cc)
in_bounds (in_height fix f w at v n) e s = zero_one (cc)

-- what the code does from byte i on
pub runs_on : (r₀ : HeaderReader) (kept i : ℕ) (piece ext : List ℕ) (x : Ran HeaderReader) (count : ℕ) (ext' : List ℕ) → i ≤ length piece
    → ReaderRuns r₀ (take (length piece - i) (drop i piece)) x → KeepsRun kept (take (i + x.taken - i) (drop i piece)) ext count ext'
    → RunsOn r₀ kept i piece ext (record { taken = i + x.taken; kept = count; reader = x.next }) ext'
runs_on r₀ kept i piece ext x count ext' h a k =
    let rest : take (length piece - i) (drop i piece) ≡ drop i piece =
    take_all (length piece - i) (drop i piece) (rw length-drop (omega arith)) in
    let b = subst (λ (l : List ℕ). ReaderRuns r₀ l x) rest a in
    let n : i + x.taken - i ≡ x.taken = omega arith in
    record {
      later = omega arith;
      within = omega (arith, b.within, length-drop i piece);
      ran = λ o st p. subst⁻¹ (λ (m : ℕ). RunReached o st (take m (drop i piece)) x.next) n (b.does o st p);
      keeps = k;
    }

module _ (o : Settings) (σ ρ : List ℕ) (st next : State) (e : steps o start σ ≡ more st) (f : steps o start (σ ++ ρ) ≡ more next)
    (reachable : Reachable st) (later : Reachable next) (i : Inside st next) where
  from-there : field_bytes o (σ ++ ρ) ≡ drop (fields_start st) (σ ++ ρ)
  from-there =
      bytes-so o (σ ++ ρ) next f
      ∙ ap (λ (z : Zone). zone_bytes z (σ ++ ρ)) (in-zone next i.there ∙ ap inside i.same)

  pub inside-bytes : field_bytes o (σ ++ ρ) ≡ field_bytes o σ ++ ρ
  inside-bytes =
      let n : fields_start st ≤ length σ = omega (arith, (in_bounds st i.here reachable).0, taken-so o σ st e) in
      from-there ∙ drop-append-le (fields_start st) σ ρ n
      ∙ ap (λ (l : List ℕ). l ++ ρ) (sym (bytes-so o σ st e ∙ ap (λ (z : Zone). zone_bytes z σ) (in-zone st i.here)))

  pub inside-room : length (field_bytes o (σ ++ ρ)) ≤ 4118
  inside-room =
      rw (from-there, length-drop (fields_start st) (σ ++ ρ))
      (omega (arith, (in_bounds next i.there later).1, taken-so o (σ ++ ρ) next f, i.same))

module _ (o : Settings) (bytes piece ext₀ : List ℕ) (at kept i : ℕ) (r : HeaderReader) (count : ℕ) (ext : List ℕ) (h : HeadRun)
    (ext' : List ℕ)
    (g : Going o bytes piece ext₀ at kept i r count ext) (a : RunsOn r count i piece ext h ext') (big : 4118 ≤ length ext) where
  abbrev σ : List ℕ
  σ = bytes ++ take i piece

  abbrev ρ : List ℕ
  ρ = take (h.taken - i) (drop i piece)

  ran : RunReached o g.reached.state ρ h.reader
  ran = a.ran o g.reached.state g.reached.represents

  there : steps o start (σ ++ ρ) ≡ more ran.next
  there = steps-append o σ ρ start ∙ ap (λ (x : Step). onward o x ρ) g.reached.reached ∙ ran.reached

  run-list : bytes ++ take h.taken piece ≡ σ ++ ρ
  run-list =
      let n : h.taken ≡ i + (h.taken - i) = omega (arith, a.later) in
      ap (λ (k : ℕ). bytes ++ take k piece) n ∙ ap (λ (l : List ℕ). bytes ++ l) (take-add i (h.taken - i) piece)
      ∙ sym (append_assoc bytes (take i piece) ρ)

  run_length : length ρ ≡ h.taken - i
  run_length = length-take-le (h.taken - i) (drop i piece) (omega (arith, length-drop i piece, a.within, a.later))

  -- its bytes are extension bytes, and they are stored
  abbrev Stores : Type 0
  Stores = (field_bytes o (σ ++ ρ) ≡ field_bytes o σ ++ ρ) × ((h.kept ≡ count + length ρ) × (ext' ≡ sets ext count ρ))

  stores : (ρ ≡ []) ⊎ Inside g.reached.state ran.next → Stores
  stores (inl e) =
      let k = a.keeps.none e in
      let n : length ρ ≡ 0 = ap length e in (
        ap (λ (l : List ℕ). field_bytes o (σ ++ l)) e ∙ ap (field_bytes o) (append-nil σ) ∙ sym (append-nil (field_bytes o σ))
            ∙ ap (λ (l : List ℕ). field_bytes o σ ++ l) (sym e),
        (omega (arith, k.0), k.1 ∙ ap (sets ext count) (sym e)),
      )
  stores (inr n) =
      let b =
      inside-bytes o σ ρ g.reached.state ran.next g.reached.reached there g.reached.represents.reachable
      ran.represents.reachable n in
      let m =
      inside-room o σ ρ g.reached.state ran.next g.reached.reached there g.reached.represents.reachable
      ran.represents.reachable
      n in
      let s : length (field_bytes o (σ ++ ρ)) ≡ length (field_bytes o σ) + length ρ = ap length b ∙ length-append (field_bytes o σ) ρ in
      (b, a.keeps.stored (omega (arith, g.reached.kept_is)))

  stored-run : Stores → Stored ext₀ kept (field_bytes o (σ ++ ρ)) h.kept ext'
  stored-run s =
      let b = g.stored in
      let n : kept + length (drop kept (field_bytes o σ)) ≡ count = omega (arith, length-drop kept (field_bytes o σ), b.all, b.begun) in
      subst⁻¹ (λ (l : List ℕ). Stored ext₀ kept l h.kept ext') s.0
      (record {
        buffer =
            s.1.1
            ∙ ap (λ (l : List ℕ). sets l count ρ) b.buffer
            ∙ ap (λ (m : ℕ). sets (sets ext₀ kept (drop kept (field_bytes o σ))) m ρ) (sym n)
            ∙ sets-append ext₀ kept (drop kept (field_bytes o σ)) ρ
            ∙ ap (sets ext₀ kept) (sym (drop-append-le kept (field_bytes o σ) ρ (omega (arith, b.all, b.begun))));
        all = omega (arith, s.1.0, b.all, length-append (field_bytes o σ) ρ);
        begun = omega (arith, s.1.0, b.begun);
      })

  -- before the byte behind the run
  pub going-run : Going o bytes piece ext₀ at kept h.taken h.reader h.kept ext'
  going-run =
      let s = stored-run (stores ran.inside) in
      record {
        reached = subst⁻¹ (λ (l : List ℕ). Reached o l h.reader (at + h.taken) h.kept) run-list
            (record {
              state = ran.next;
              represents = ran.represents;
              reached = there;
              at_is = omega (arith, g.reached.at_is, length-append σ ρ, run_length, a.later);
              kept_is = s.all;
            });
        stored = subst⁻¹ (λ (l : List ℕ). Stored ext₀ kept (field_bytes o l) h.kept ext') run-list s;
      }
