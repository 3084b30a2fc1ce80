-- The running machine: sample by sample, along a part of a byte, and what it leaves alone.
-- Assumes nothing.
use Prim.Native.Nat.{ℕ, zero, suc, ◌+◌, ◌-◌, ◌*◌, ◌/◌, ◌%◌, ◌^◌, ◌≤◌, ◌<◌}
use mathlib.Core.Path.{◌≡◌, refl, sym, ap, ◌∙◌}
use mathlib.Core.Bool.{Bool, true, false, ◌||◌}
use mathlib.Core.Logic.{◌⊎◌, inl, inr, ⊎_elim}
use mathlib.Core.List.{List, [], ◌∷◌, ◌++◌, append_assoc, append-nil}
use native.Mathlib.Nat.{add-zero, add-suc, add_assoc}
use native.Mathlib.Omega.{arith}
use borrow.Author.Tests.{le-leb, lt-leb}
use lib.Dec.{leb}
use lib.ListN.{length, get_or, drop, length-append}
use lib.Seq.{get_or-drop}
use Rattle.laws.proofs.Tests.{lt-or-le, if-true, if-false}
use Rattle.rules.specs.Bits.{bit, appended}
use Rattle.rules.specs.Rule.{Rule, threshold, dither, ordered}
use Rattle.quantize.specs.Finished.{Setting, Bytewise, count}
use Rattle.dither.specs.Internal.Carry.{Carry, machine_dot, next}
use Rattle.quantize.specs.Internal.Machine.{MachineState, MachineStep, last_of, byte_step, machine_step, carried, machine_bytes}
use Rattle.quantize.specs.Internal.Place.{At}
use Rattle.dither.specs.Internal.Kernels.{row_carry, row_bit}
use Rattle.quantize.proofs.Places.{bytewise, count-last, count-open, column-is, frame-row-is, at-inside}
use Rattle.dither.proofs.RowKept.{next-long}

or-true : (a : Bool) → (a || true) ≡ true
or-true true = refl
or-true false = refl

-- ---- a sample of a row that is finished byte after byte

-- it is the last of its byte or not
pub last_or : (w x : ℕ) → ((w ≤ x + 1) ⊎ (7 ≤ x % 8)) ⊎ ((x + 1 < w) × (x % 8 < 7))
last_or w x =
    ⊎_elim
    (λ (h : x + 1 < w). ⊎_elim (λ (k : x % 8 < 7). inr (h, k)) (λ (k : 7 ≤ x % 8). inl (inr k)) (lt-or-le (x % 8) 7))
    (λ (h : w ≤ x + 1). inl (inl h))
    (lt-or-le (x + 1) w)

module _ (rule : Rule) (w y x g : ℕ) (st : MachineState) where
  abbrev dots : ℕ
  dots = st.begun * 2 + bit (machine_dot rule w y x g st.carry)

  abbrev shut : MachineStep
  shut = record { bytes = dots * 2 ^ (7 - x % 8) ∷ []; state = record { begun = 0; carry = next rule w y x g st.carry } }

  abbrev more : MachineStep
  more = record { bytes = []; state = record { begun = dots; carry = next rule w y x g st.carry } }

  pub byte-shut : (w ≤ x + 1) ⊎ (7 ≤ x % 8) → byte_step rule w y x g st ≡ shut
  unfolding byte_step
  byte-shut h =
      if-true (last_of w x) shut more (⊎_elim (λ (k : w ≤ x + 1). rw (le-leb w (x + 1) k))
      (λ (k : 7 ≤ x % 8). rw (le-leb 7 (x % 8) k) (or-true (leb w (x + 1)))) h)

  pub byte-open : x + 1 < w → x % 8 < 7 → byte_step rule w y x g st ≡ more
  unfolding byte_step
  byte-open h k = if-false (last_of w x) shut more (rw (lt-leb w (x + 1) h, lt-leb 7 (x % 8) k))

  pub carry-after : (byte_step rule w y x g st).state.carry ≡ next rule w y x g st.carry
  carry-after =
      ⊎_elim
      (λ (h : (w ≤ x + 1) ⊎ (7 ≤ x % 8)). ap (λ (p : MachineStep). p.state.carry) (byte-shut h))
      (λ (h : (x + 1 < w) × (x % 8 < 7)). ap (λ (p : MachineStep). p.state.carry) (byte-open h.0 h.1))
      (last_or w x)

pub byte_step-is : (rule : Rule) (w y x g : ℕ) (st : MachineState) → Bytewise rule y → machine_step rule w y x g st ≡ byte_step rule w y x g st
unfolding machine_step
byte_step-is (threshold t) w y x g st b = refl
byte_step-is dither w y x g st b = refl
byte_step-is (ordered side table) w y x g st b = refl

byte-long : (rule : Rule) (w y x g : ℕ) (st : MachineState)
    → length (byte_step rule w y x g st).state.carry.kept ≡ length st.carry.kept
byte-long rule w y x g st = ap (λ (c : Carry). length c.kept) (carry-after rule w y x g st) ∙ next-long rule w y x g st.carry

-- it finishes as many bytes as are counted
byte-count : (s : Setting) (n : ℕ) → 0 < s.width → Bytewise s.rule (n / s.width % s.height) → (g : ℕ) (st : MachineState)
    → count s (n + 1) ≡ count s n + length (byte_step s.rule s.width (n / s.width % s.height) (n % s.width) g st).bytes
byte-count s n wide b g st =
    ⊎_elim
    (λ (h : (s.width ≤ n % s.width + 1) ⊎ (7 ≤ n % s.width % 8)).
    count-last s n wide b h
    ∙ ap (λ (p : MachineStep). count s n + length p.bytes)
    (sym (byte-shut s.rule s.width (n / s.width % s.height) (n % s.width) g st h)))
    (λ (h : (n % s.width + 1 < s.width) × (n % s.width % 8 < 7)).
    count-open s n wide b h.0 h.1 ∙ sym (add-zero (count s n))
    ∙ ap (λ (p : MachineStep). count s n + length p.bytes)
    (sym (byte-open s.rule s.width (n / s.width % s.height) (n % s.width) g st h.0 h.1)))
    (last_or s.width (n % s.width))

-- ---- a sample under every rule

step-long : (rule : Rule) (w y x g : ℕ) (st : MachineState)
    → length (machine_step rule w y x g st).state.carry.kept ≡ length st.carry.kept
unfolding machine_step
step-long (threshold t) w y x g st = byte-long (threshold t) w y x g st
step-long dither w y x g st = byte-long dither w y x g st
step-long (ordered side table) w y x g st = byte-long (ordered side table) w y x g st

step_count : (rule : Rule) (w h frames n : ℕ) → 0 < w → (g : ℕ) (st : MachineState)
    → count (record { rule = rule; width = w; height = h; frames = frames }) (n + 1)
    ≡ count (record { rule = rule; width = w; height = h; frames = frames }) n + length (machine_step rule w (n / w % h) (n % w) g st).bytes
unfolding machine_step
step_count (threshold t) w h frames n wide g st =
    byte-count (record { rule = threshold t; width = w; height = h; frames = frames }) n wide (bytewise (threshold t) (n / w % h)) g st
step_count dither w h frames n wide g st =
    byte-count (record { rule = dither; width = w; height = h; frames = frames }) n wide (bytewise dither (n / w % h)) g st
step_count (ordered side table) w h frames n wide g st =
    byte-count (record { rule = ordered side table; width = w; height = h; frames = frames }) n wide
    (bytewise (ordered side table) (n / w % h)) g st

-- ---- samples one after the other

module _ (s : Setting) (n : ℕ) (st : MachineState) (xs : List ℕ) where
  pub carried-long : (i : ℕ) → length (carried s n st xs i).carry.kept ≡ length st.carry.kept
  unfolding carried
  carried-long zero = refl
  carried-long (suc i) =
      step-long s.rule s.width ((n + i) / s.width % s.height) ((n + i) % s.width) (get_or xs i 0) (carried s n st xs i)
      ∙ carried-long i

  -- THE COUNT: as many bytes are emitted as are counted
  pub emitted-count : 0 < s.width → (i : ℕ) → count s (n + i) ≡ count s n + length (machine_bytes s n st xs i)
  unfolding machine_bytes
  emitted-count wide zero = rw (add-zero, add-zero)
  emitted-count wide (suc i) =
      let I = emitted-count wide i in
      let e : n + suc i ≡ n + i + 1 = omega arith in
      ap (count s) e ∙ step_count s.rule s.width s.height s.frames (n + i) wide (get_or xs i 0) (carried s n st xs i)
      ∙ rw (I, length-append) (add_assoc (count s n) (length (machine_bytes s n st xs i))
      (length (machine_step s.rule s.width ((n + i) / s.width % s.height) ((n + i) % s.width) (get_or xs i 0)
      (carried s n st xs i)).bytes))

  -- first t of them, then m
  module _ (t : ℕ) where
    -- the sample after t + m
    step_by : (m : ℕ) → carried s n st xs (t + m) ≡ carried s (n + t) (carried s n st xs t) (drop t xs) m
        → machine_step s.rule s.width ((n + (t + m)) / s.width % s.height) ((n + (t + m)) % s.width) (get_or xs (t + m) 0)
        (carried s n st xs (t + m))
        ≡ machine_step s.rule s.width ((n + t + m) / s.width % s.height) ((n + t + m) % s.width) (get_or (drop t xs) m 0)
        (carried s (n + t) (carried s n st xs t) (drop t xs) m)
    step_by m e = rw (add_assoc n t m, get_or-drop t xs m 0, e)

    pub carried-add : (m : ℕ) → carried s n st xs (t + m) ≡ carried s (n + t) (carried s n st xs t) (drop t xs) m
    unfolding carried
    carried-add zero = ap (carried s n st xs) (add-zero t)
    carried-add (suc m) = ap (carried s n st xs) (add-suc t m) ∙ ap (λ (p : MachineStep). p.state) (step_by m (carried-add m))

    pub emitted-add : (m : ℕ) → machine_bytes s n st xs (t + m) ≡ machine_bytes s n st xs t ++ machine_bytes s (n + t) (carried s n st xs t)
        (drop t xs) m
    unfolding machine_bytes
    emitted-add zero = ap (machine_bytes s n st xs) (add-zero t) ∙ sym (append-nil (machine_bytes s n st xs t))
    emitted-add (suc m) =
        ap (machine_bytes s n st xs) (add-suc t m)
        ∙ ap (λ (l : List ℕ). l ++ (machine_step s.rule s.width ((n + (t + m)) / s.width % s.height) ((n + (t + m)) % s.width)
        (get_or xs (t + m) 0) (carried s n st xs (t + m))).bytes) (emitted-add m)
        ∙ ap (λ (p : MachineStep). (machine_bytes s n st xs t ++ machine_bytes s (n + t) (carried s n st xs t) (drop t xs) m) ++ p.bytes)
        (step_by m (carried-add m))
        ∙ append_assoc (machine_bytes s n st xs t) (machine_bytes s (n + t) (carried s n st xs t) (drop t xs) m) _

-- ---- a part of a byte, in a row that is finished byte after byte: the samples of a list, which a piece of a slice has too

module _ (s : Setting) (n : ℕ) (st : MachineState) (xs gray : List ℕ) (frames row column : ℕ) (a : At s n frames row column)
    (left : 0 < frames)
    (m : ℕ)
    (in_row : column + m ≤ s.width) (in_byte : column % 8 + m ≤ 8) (same : (i : ℕ) → i < m → get_or xs i 0 ≡ get_or gray i 0)
    (b : Bytewise s.rule row) where
  column-at : (i : ℕ) → i < m → (n + i) % s.width ≡ column + i
  column-at i h = column-is s (n + i) frames row (column + i) (at-inside s n frames row column a i left (omega arith))

  row_at : (i : ℕ) → i < m → (n + i) / s.width % s.height ≡ row
  row_at i h = frame-row-is s (n + i) frames row (column + i) (at-inside s n frames row column a i left (omega arith))

  abbrev bits : ℕ → ℕ
  bits = row_bit s.rule s.width row column gray st.carry

  abbrev carry : ℕ → Carry
  carry = row_carry s.rule s.width row column gray st.carry

  -- after i of them, where the byte goes on
  abbrev mid : ℕ → MachineState
  mid i = record { begun = appended st.begun bits i; carry = carry i }

  one : (i : ℕ) → i < m → carried s n st xs i ≡ mid i
      → machine_step s.rule s.width ((n + i) / s.width % s.height) ((n + i) % s.width) (get_or xs i 0) (carried s n st xs i)
      ≡ byte_step s.rule s.width row (column + i) (get_or gray i 0) (mid i)
  one i h e = rw (row_at i h, column-at i h, same i h, e) (byte_step-is s.rule s.width row (column + i) (get_or gray i 0) (mid i) b)

  pub record Along (i : ℕ) (st' : MachineState) (bytes : List ℕ) : Type 0 where
    pub keeps : carried s n st xs i ≡ st'
    pub emits : machine_bytes s n st xs i ≡ bytes

  pub part-on : (i : ℕ) → i ≤ m → column + i < s.width → column % 8 + i < 8 → Along i (mid i) []
  unfolding carried machine_bytes appended row_bit row_carry
  part-on zero h k l = record { keeps = refl; emits = refl }
  part-on (suc i) h k l =
      let I = part-on i (omega arith) (omega arith) (omega arith) in
      let c : (column + i) % 8 ≡ column % 8 + i = omega arith in
      let e = one i h I.keeps ∙ byte-open s.rule s.width row (column + i) (get_or gray i 0) (mid i) (omega arith) (omega arith) in
      record { keeps = ap (λ (p : MachineStep). p.state) e; emits = rw I.emits (ap (λ (p : MachineStep). p.bytes) e) }

  pub part-last : 0 < m → (s.width ≤ column + m) ⊎ (8 ≤ column % 8 + m)
      → Along m (record { begun = 0; carry = carry m }) (appended st.begun bits m * 2 ^ (8 - (column % 8 + m)) ∷ [])
  unfolding carried machine_bytes appended row_bit row_carry
  part-last p h = go m refl p h
    where
      go : (k : ℕ) → k ≡ m → 0 < k → (s.width ≤ column + k) ⊎ (8 ≤ column % 8 + k)
          → Along k (record { begun = 0; carry = carry k }) (appended st.begun bits k * 2 ^ (8 - (column % 8 + k)) ∷ [])
      go zero e p h = let f : ⊥ = omega arith in absurd f
      go (suc i) e p h =
          let I = part-on i (omega arith) (omega arith) (omega arith) in
          let c : (column + i) % 8 ≡ column % 8 + i = omega arith in
          let z : 8 - (column % 8 + suc i) ≡ 7 - (column + i) % 8 = omega arith in
          let t = one i (omega arith) I.keeps
          ∙ byte-shut s.rule s.width row (column + i) (get_or gray i 0) (mid i)
          (⊎_elim (λ (l : s.width ≤ column + suc i). inl (omega arith)) (λ (l : 8 ≤ column % 8 + suc i). inr (omega arith)) h) in
          record { keeps = ap (λ (p : MachineStep). p.state) t; emits = rw (I.emits, z) (ap (λ (p : MachineStep). p.bytes) t) }
