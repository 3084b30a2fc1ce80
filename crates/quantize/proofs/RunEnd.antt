-- What `run` promises, from its loop's invariant where the loop ends, and where nothing can be taken.
-- Assumes nothing.
use Prim.Native.Nat.{ℕ, ◌+◌, ◌-◌, ◌≤◌, ◌<◌}
use mathlib.Core.Path.{◌≡◌, refl, sym, ap, ◌∙◌, subst}
use mathlib.Core.Bool.{Bool, true, false}
use mathlib.Core.Logic.{◌⊎◌, inl, inr, ⊎_elim}
use mathlib.Core.List.{List, ◌++◌, append-nil}
use native.Mathlib.Nat.{add-zero}
use native.Mathlib.Omega.{arith}
use lib.IntN.{ℤ}
use lib.ListN.{length, get_or, take, drop, length-append, take-append-drop}
use lib.Seq.{length-take-le, drop-append_seam}
use Rattle.laws.proofs.Tests.{lt-or-le, if-true, if-false}
use Rattle.error.specs.declared.Fed.{Fed}
use Rattle.options.specs.declared.Quantize.{Quantize}
use Rattle.quantize.specs.declared.engine.Quantizer.{Quantizer}
use Rattle.quantize.specs.declared.turn.Place.{Place}
use Rattle.rules.specs.Rule.{Rule, known_rule, enough_work, rule_named, rule_given}
use Rattle.quantize.specs.Finished.{Setting, Bytewise, count, finished, takes}
use Rattle.quantize.specs.Internal.Machine.{MachineState, carried, machine_bytes}
use Rattle.quantize.specs.Internal.Turn.{state_of, rule_of, Sound, SamplesForByte, Served}
use Rattle.quantize.specs.Internal.Engine.{QuantizerAt, KeptAfter, QuantizerAfter, Counts, Machines, Defined, Ready, Runs}
use Rattle.dither.proofs.HeldRange.{Held}
use Rattle.quantize.proofs.DotsByRule.{enough-work-same}
use Rattle.quantize.proofs.TakenMost.{takes_all, next-byte}
use Rattle.quantize.proofs.MachineSteps.{emitted-count}
use Rattle.quantize.proofs.TurnMoves.{Moved}
use Rattle.quantize.proofs.EmittedFinished.{kept}
use Rattle.quantize.proofs.RunLoop.{Loop}

-- ---- the work buffer

not-enough-work : (rule : Quantize) (table : List ℕ) (w work : ℕ) → known_rule rule ≡ true → (Served rule w work → ⊥)
    → enough_work (rule_of rule table) w work ≡ false
not-enough-work rule table w work k h = enough-work-same rule table w work ∙ go (enough_work (rule_given (rule_named rule)) w work) refl
  where
    go : (b : Bool) → enough_work (rule_given (rule_named rule)) w work ≡ b → b ≡ false
    go true e = absurd (h (record { known = k; room = e }))
    go false e = refl

-- ---- the definition's bytes, from the machine's

module _ (q : Quantizer) (samples out : List ℕ) (work : List ℤ) (q' : Quantizer) (r : Fed) (out' : List ℕ) (work' : List ℤ)
    (fits : r.taken ≤ length samples) (octets : (i : ℕ) → get_or samples i 0 < 256)
    (counts : (s : Setting) (n : ℕ) → QuantizerAt q s n → Counts s n (length samples) (length out) (length work) q' r)
    (machine : (s : Setting) (n : ℕ) → QuantizerAt q s n → Machines q s n samples out work q' r out' work')
    (room : (s : Setting) (n : ℕ) → QuantizerAt q s n → 0 < r.taken → enough_work s.rule s.width (length work) ≡ true) where
  module _ (s : Setting) (xs : List ℕ) (H : QuantizerAfter q work s xs) where
    abbrev n : ℕ
    n = length xs

    abbrev joined : List ℕ
    joined = xs ++ take r.taken samples

    abbrev st : MachineState
    st = state_of q.place work

    M : Machines q s n samples out work q' r out' work'
    M = machine s n H.stands

    wide : 0 < s.width
    wide = let a = H.stands.at.in_row in omega arith

    high : 0 < s.height
    high = let a = H.stands.at.in_frame in omega arith

    corner-held : Held st.carry.corner
    corner-held = record { n = q.place.corner; holds = record { is = refl; small = H.stands.corner_small } }

    long : length joined ≡ n + r.taken
    long = length-append xs (take r.taken samples) ∙ ap (λ (t : ℕ). n + t) (length-take-le r.taken samples fits)

    -- what t samples leave and finish
    record Follows (t : ℕ) : Type 0 where
      keeps : KeptAfter s.rule s (xs ++ take t samples) (carried s n st samples t)
      bytes_are : finished s (xs ++ take t samples) ≡ finished s xs ++ machine_bytes s n st samples t

    none : Follows 0
    unfolding carried machine_bytes
    none = record { keeps = rw append-nil H.keeps; bytes_are = ap (finished s) (append-nil xs) ∙ sym (append-nil (finished s xs)) }

    follows : Follows r.taken
    follows =
        ⊎_elim
        (λ (some : 0 < r.taken).
        let K = kept s xs samples st wide high octets (room s n H.stands some) corner-held H.keeps r.taken fits in
        record { keeps = K.keeps; bytes_are = K.bytes_are })
        (λ (h : r.taken ≤ 0). let e : 0 ≡ r.taken = omega arith in subst Follows e none)
        (lt-or-le 0 r.taken)

    pub defined-is : Defined s xs samples out q' r out' work'
    defined-is =
        record {
          bytes =
              M.bytes ∙ ap (λ (l : List ℕ). l ++ drop r.written out)
              (sym (ap (drop (length (finished s xs))) follows.bytes_are
              ∙ drop-append_seam (finished s xs) (machine_bytes s n st samples r.taken)));
          holds =
              record {
                stands = rw long (counts s n H.stands).stands;
                keeps = subst (λ (t : MachineState). KeptAfter s.rule s joined t) M.keeps follows.keeps;
              };
        }

-- ---- nothing can be taken

pub runs_none : (q : Quantizer) (samples out : List ℕ) (work : List ℤ) → ((i : ℕ) → get_or samples i 0 < 256)
    → (Sound q.rule q.width q.height q.place.row q.place.column q.place.begun q.place.corner (length work) → ⊥)
    → Runs q samples out work q (record { taken = 0; written = 0 }) out work
unfolding carried machine_bytes
runs_none q samples out work octets h =
    record {
      taken = omega arith;
      written = omega arith;
      past = refl;
      beyond = refl;
      spared = λ _. refl;
      idle = λ _. record { same = refl; taken = refl; written = refl; out_same = refl; work_same = refl };
      counts = counts;
      machine = machine;
      defined =
          defined-is q samples out work q (record { taken = 0; written = 0 }) out work (omega arith) octets counts machine
          (λ s n t l. let f : ⊥ = omega arith in absurd f);
    }
  where
    unserved : (s : Setting) (n : ℕ) → QuantizerAt q s n → Served q.rule q.width (length work) → ⊥
    unserved s n t k =
        let a = t.at.in_row in
        let b = t.at.in_frame in
        let e = t.width in
        let g = t.height in
        h (record { in_row = omega arith; in_frame = omega arith; corner_small = t.corner_small; begun_small = t.begun_small; served = k })

    counts : (s : Setting) (n : ℕ) → QuantizerAt q s n
        → Counts s n (length samples) (length out) (length work) q (record { taken = 0; written = 0 })
    counts s n t =
        record {
          taken =
              sym (if-false (enough_work s.rule s.width (length work)) (takes s n (length samples) (length out)) 0
              (rw (t.rule, t.width) (not-enough-work q.rule q.table q.width (length work) t.knows (unserved s n t))));
          written = rw (add-zero, add-zero);
          stands = rw add-zero t;
        }

    machine : (s : Setting) (n : ℕ) → QuantizerAt q s n
        → Machines q s n samples out work q (record { taken = 0; written = 0 }) out work
    machine s n t = record { bytes = refl; keeps = refl }

-- ---- the loop's end

-- no frame is left, no sample is left, or what the next one finishes does not fit
abbrev pub Full : Quantizer → List ℕ → List ℕ → Place → ℕ → Type 0
Full q samples out p taken =
    (s : Setting) (n : ℕ) → QuantizerAt q s n
    → (p.frames ≤ 0) ⊎ ((length samples ≤ taken) ⊎ (count s n + length out < count s (n + taken + 1)))

module _ (q : Quantizer) (samples out : List ℕ) (work : List ℤ) (out' : List ℕ) (work' : List ℤ) (p : Place) (taken written : ℕ)
    (L : Loop q samples out work out' work' p taken written) (octets : (i : ℕ) → get_or samples i 0 < 256) where
  abbrev q' : Quantizer
  q' = record { rule = q.rule; table = q.table; width = q.width; height = q.height; place = p }

  abbrev ran : Fed
  ran = record { taken = taken; written = written }

  module _ (s : Setting) (n : ℕ) (t : QuantizerAt q s n) where
    P : Moved s n q.place samples work taken (take written out') p work'
    P = L.turn.moves s n (record { rule = t.rule; width = t.width; height = t.height }) t.at

    counted : count s (n + taken) ≡ count s n + written
    counted =
        emitted-count s n (state_of q.place work) samples (let i = t.at.in_row in omega arith) taken
        ∙ ap (λ (k : ℕ). count s n + k) (ap length P.emits ∙ length-take-le written out' (omega (arith, L.written_fits, L.out_long)))

    served : enough_work s.rule s.width (length work) ≡ true
    served =
        rw (t.rule, t.width, ← L.turn.long) (enough-work-same q.rule q.table q.width (length work')
        ∙ L.turn.sound.served.room)

    machine-are : Machines q s n samples out work q' ran out' work'
    machine-are = record { bytes = sym (take-append-drop written out') ∙ rw (← P.emits, L.past); keeps = P.keeps }

  -- no sample goes into the begun byte, in a row that is finished byte after byte
  pub full-byte : (m : ℕ) → 0 < p.frames → Bytewise (rule_of q.rule q.table) p.row
      → SamplesForByte q.width p.column (length samples - taken) (length out' - written) m → m ≡ 0 → Full q samples out p taken
  full-byte m left b sh z s n t =
      let f = L.taken_fits in
      let o = L.out_long in
      let g = L.written_fits in
      inr (⊎_elim
      (λ e. inl (omega (arith, e)))
      (λ e. inr
      (let c = next-byte s (n + taken) p.frames p.row p.column (P s n t).at
      (subst (λ (x : Rule). Bytewise x p.row) (sym t.rule) b) (⊎_elim (λ c. inl (c ∙ sym t.width)) (λ c. inr c) e.1) in
      omega (arith, c, counted s n t, e.0)))
      (sh.all z))

  module _ (full : Full q samples out p taken) where
    counts-is : (s : Setting) (n : ℕ) → QuantizerAt q s n → Counts s n (length samples) (length out) (length work) q' ran
    counts-is s n t =
        record {
          taken = sym (if-true _ _ _ (served s n t)
              ∙ takes_all s n (length samples) (length out) taken p.frames p.row p.column (P s n t).at L.taken_fits
              (omega (arith, counted s n t, L.written_fits)) (full s n t));
          written = counted s n t;
          stands = record {
            rule = t.rule;
            knows = t.knows;
            width = t.width;
            height = t.height;
            at = (P s n t).at;
            corner_small = L.turn.sound.corner_small;
            begun_small = L.turn.sound.begun_small;
          };
        }

    ready-is : Ready q.rule q.width q.height (length work)
    ready-is =
        let a = L.turn.sound.in_row in
        let b = L.turn.sound.in_frame in
        record {
          wide = omega arith;
          high = omega arith;
          served = subst (λ (n : ℕ). Served q.rule q.width n) L.turn.long L.turn.sound.served;
        }

    pub runs-end : Runs q samples out work q' ran out' work'
    runs-end =
        record {
          taken = L.taken_fits;
          written = L.written_fits;
          past = L.past;
          beyond = L.turn.beyond;
          spared = L.turn.spared;
          idle = λ no. absurd (no ready-is);
          counts = counts-is;
          machine = machine-are;
          defined = defined-is q samples out work q' ran out' work' L.taken_fits octets counts-is machine-are (λ s n t l. served s n t);
        }
