-- Bytes of extension fields that are taken at once come to what they come to one by one.
use Prim.Native.Nat.{ℕ, suc, ◌+◌, ◌-◌, ◌/◌, ◌%◌, ◌<◌, ◌≤◌}
use mathlib.Core.Path.{◌≡◌, ◌∙◌, refl, sym, ap, subst, subst⁻¹}
use Rattle.std.proofs.Common.{zero, nat_le, cond}
use Rattle.std.specs.List.{prefix_len}
use mathlib.Core.Bool.{Bool, true, false}
use mathlib.Core.List.{List, [], ◌∷◌}
use mathlib.Core.Logic.{inl, inr}
use native.Mathlib.Numerals.{add-one, one-add}
use native.Mathlib.Omega.{arith}
use borrow.Author.Tests.{lt-ltb, le-ltb, le-leb, lt-leb, ne_eqb, leb-true}
use lib.ListN.{length, take, drop, get_or, length-take, length-drop, take-append-drop}
use lib.Seq.{take-add, drop-cons}
use Rattle.ext.specs.Internal.Bytewise.{identifier_fault, value_fault}
use Rattle.header.specs.Settings.{Settings, settings}
use Rattle.header_reader.specs.Internal.Machine.{in_octets, at_pair, in_identifier, in_value, Step, more, step_of, steps}
use Rattle.header_reader.specs.Internal.Standing.{fields_state, state, Reachable}
use Rattle.header_reader.specs.Internal.Pieces.{onward}
use Rattle.header_reader.specs.Internal.Run.{ReaderRuns, FieldsRuns, Continued}
use Rattle.header_reader.specs.Internal.Run.{PairsAhead}
use Rattle.header_reader.specs.declared.phase.FieldsPhase.{FieldsPhase}
use Rattle.header_reader.specs.declared.phase.PairChain.{PairChain}
use Rattle.header_reader.specs.declared.phase.Phase.{Phase}
use Rattle.header_reader.specs.declared.run.PairsRun.{PairsRun}
use Rattle.header_reader.specs.declared.run.Ran.{Ran}
use Rattle.header_reader.specs.declared.reader.HeaderReader.{HeaderReader}
use Rattle.header_reader.proofs.Machine.{steps-cons, steps-append}
use Rattle.header_reader.proofs.StepReachable.{ReachableStep, reachable-steps}

-- ---- octets

-- octets behind which others come, from any place that is `most` bytes or more before the ceiling
pub record OctetsAhead (most : ℕ) (piece : List ℕ) (n : ℕ) : Type 0 where
  pub within : n ≤ length piece
  pub reached : (o : Settings) (fix start at : ℕ) → at + most ≤ start + 4096
      → steps o (in_octets fix start at) (take n piece) ≡ more (in_octets fix start (at + n))

octet-step : (o : Settings) (fix start at b : ℕ) → at < start + 4096 → 128 ≤ b
    → step_of o (in_octets fix start at) b ≡ more (in_octets fix start (at + 1))
unfolding step_of
octet-step o fix start at b n h = simp (lt-leb (start + 4096) at n, le-ltb b 128 h)

pub octets-none : (most : ℕ) (piece : List ℕ) → OctetsAhead most piece 0
unfolding steps
octets-none most piece =
    record {
      within = omega arith;
      reached = λ o fix start at h. let e : at ≡ at + 0 = omega arith in ap (λ (k : ℕ). more (in_octets fix start k)) e;
    }

octets-cons : (most b n : ℕ) (piece : List ℕ) → OctetsAhead most piece n → 128 ≤ b → OctetsAhead (suc most) (b ∷ piece) (1 + n)
octets-cons most b n piece a q =
    record {
      within = omega (arith, a.within);
      reached = λ o fix start at h.
          let e : at + 1 + n ≡ at + (1 + n) = omega arith in
          ap (λ (k : ℕ). steps o (in_octets fix start at) (take k (b ∷ piece))) (one-add n)
          ∙ steps-cons o (in_octets fix start at) b (take n piece)
          ∙ ap (λ (x : Step). onward o x (take n piece)) (octet-step o fix start at b (omega arith) q)
          ∙ a.reached o fix start (at + 1) (omega arith)
          ∙ ap (λ (k : ℕ). more (in_octets fix start k)) e;
    }

-- all that have bit 7
octets-all : (most : ℕ) (piece : List ℕ) → OctetsAhead most piece (prefix_len (nat_le 128) (take most piece))
octets-all zero piece = octets-none zero piece
octets-all (suc m) [] = octets-none (suc m) []
octets-all (suc m) (b ∷ τ) = go (nat_le 128 b) refl (octets-all m τ)
  where
    go : (t : Bool) → nat_le 128 b ≡ t → OctetsAhead m τ (prefix_len (nat_le 128) (take m τ))
        → OctetsAhead (suc m) (b ∷ τ) (cond t (1 + prefix_len (nat_le 128) (take m τ)) 0)
    go true e a = octets-cons m b _ τ a (leb-true 128 b e)
    go false e a = octets-none (suc m) (b ∷ τ)

pub octets-ahead : (most : ℕ) (piece : List ℕ) (n : ℕ) → n ≡ prefix_len (nat_le 128) (take most piece) → OctetsAhead most piece n
octets-ahead most piece n e = subst⁻¹ (OctetsAhead most piece) e (octets-all most piece)

-- ---- pairs

module _ (o : Settings) (off : o.classes ≡ false) (fix start pairs : ℕ) where
  value-step : (at begun left b : ℕ) → 1 < left
      → step_of o (in_value fix start at pairs begun left true 0) b ≡ more (in_value fix start (at + 1) pairs begun (left - 1) true 0)
  unfolding step_of value_fault
  value-step at begun left b h = simp (lt-ltb 1 left h, off)

  -- the bytes of a value
  value : (ρ : List ℕ) (at begun left : ℕ) → length ρ ≡ left → 0 < left
      → steps o (in_value fix start at pairs begun left true 0) ρ ≡ more (at_pair fix start (at + left) (pairs + 1))
  unfolding steps step_of value_fault
  value [] at begun left n h = absurd (omega arith)
  value (b ∷ []) at begun left n h =
      let e : left ≡ 1 = omega arith in
      rw (e, off) refl
  value (b ∷ c ∷ ρ) at begun left n h =
      let k : at + 1 + (left - 1) ≡ at + left = omega arith in
      steps-cons o (in_value fix start at pairs begun left true 0) b (c ∷ ρ)
      ∙ ap (λ (x : Step). onward o x (c ∷ ρ)) (value-step at begun left b (omega arith))
      ∙ value (c ∷ ρ) (at + 1) begun (left - 1) (omega arith) (omega arith)
      ∙ ap (λ (m : ℕ). more (at_pair fix start m (pairs + 1))) k

  identifier-step : (at begun left size b : ℕ) → 1 < left
      → step_of o (in_identifier fix start at pairs begun left size true 0) b
      ≡ more (in_identifier fix start (at + 1) pairs begun (left - 1) size true 0)
  unfolding step_of identifier_fault
  identifier-step at begun left size b h = simp (lt-ltb 1 left h, off)

  -- the bytes of an identifier
  identifier : (ρ : List ℕ) (at begun left size : ℕ) → length ρ ≡ left → 0 < left
      → steps o (in_identifier fix start at pairs begun left size true 0) ρ
      ≡ more (in_value fix start (at + left) pairs (at + left) size true 0)
  unfolding steps step_of identifier_fault
  identifier [] at begun left size n h = absurd (omega arith)
  identifier (b ∷ []) at begun left size n h =
      let e : left ≡ 1 = omega arith in
      rw (e, off) refl
  identifier (b ∷ c ∷ ρ) at begun left size n h =
      let k : at + 1 + (left - 1) ≡ at + left = omega arith in
      steps-cons o (in_identifier fix start at pairs begun left size true 0) b (c ∷ ρ)
      ∙ ap (λ (x : Step). onward o x (c ∷ ρ)) (identifier-step at begun left size b (omega arith))
      ∙ identifier (c ∷ ρ) (at + 1) begun (left - 1) size (omega arith) (omega arith)
      ∙ ap (λ (m : ℕ). more (in_value fix start m pairs m size true 0)) k

  pair_step : (at b size : ℕ) → Continued b size → at < start + 4096
      → step_of o (at_pair fix start at pairs) b ≡ more (in_identifier fix start (at + 1) pairs (at + 1) (b / 16 % 8) (b % 16) true 0)
  unfolding step_of
  pair_step at b size k h =
      simp (
        lt-leb (start + 4096) at h,
        ne_eqb (b / 16 % 8) 0 (λ e. omega (arith, k.identifier)),
        ne_eqb (b % 16) 0
            (λ e. omega (arith, k.value)),
        le-leb 128 b k.again,
      )

  -- a pair: its first byte, its identifier and its value
  pair : (at b size : ℕ) (ρ : List ℕ) → Continued b size → at < start + 4096 → length ρ + 1 ≡ size
      → steps o (at_pair fix start at pairs) (b ∷ ρ) ≡ more (at_pair fix start (at + size) (pairs + 1))
  pair at b size ρ k h n =
      let l = b / 16 % 8 in
      let v = b % 16 in
      let s : size ≡ 1 + b / 16 % 8 + b % 16 = k.is in
      let e : at + 1 + b / 16 % 8 + b % 16 ≡ at + size = omega arith in
      let front : length (take (b / 16 % 8) ρ) ≡ b / 16 % 8 = simp length-take (omega arith) in
      let back : length (drop (b / 16 % 8) ρ) ≡ b % 16 = simp length-drop (omega arith) in
      steps-cons o (at_pair fix start at pairs) b ρ
      ∙ ap (λ (x : Step). onward o x ρ) (pair_step at b size k h)
      ∙ ap (steps o (in_identifier fix start (at + 1) pairs (at + 1) l v true 0)) (sym (take-append-drop l ρ))
      ∙ steps-append o (take l ρ) (drop l ρ) (in_identifier fix start (at + 1) pairs (at + 1) l v true 0)
      ∙ ap (λ (x : Step). onward o x (drop l ρ)) (identifier (take l ρ) (at + 1) (at + 1) l v front k.identifier)
      ∙ value (drop l ρ) (at + 1 + l) (at + 1 + l) v back k.value
      ∙ ap (λ (m : ℕ). more (at_pair fix start m (pairs + 1))) e

module _ (most : ℕ) (piece : List ℕ) where
  pub pairs-none : PairsAhead most piece (record { taken = 0; pairs = 0 })
  unfolding steps
  pairs-none =
      record {
        within = omega arith;
        counted = omega arith;
        reached = λ o fix start at pairs off h.
            let e : at ≡ at + 0 = omega arith in
            let f : pairs ≡ pairs + 0 = omega arith in
            ap (λ (k : ℕ). more (at_pair fix start k pairs)) e ∙ ap (λ (k : ℕ). more (at_pair fix start (at + 0) k)) f;
      }

  -- a pair's bytes, at their place in the piece
  pair-bytes : (i m : ℕ) → i < length piece → take (m + 1) (drop i piece) ≡ get_or piece i 0 ∷ take m (drop (suc i) piece)
  pair-bytes i m h = ap (λ (k : ℕ). take k (drop i piece)) (add-one m) ∙ ap (take (suc m)) (drop-cons piece i 0 h)

  pub pairs-more : (i n size : ℕ) → PairsAhead most piece (record { taken = i; pairs = n }) → i < length piece → i < most
      → Continued (get_or piece i 0) size → i + size ≤ length piece → PairsAhead most piece (record { taken = i + size; pairs = n + 1 })
  pairs-more i n size a h m k fits =
      let s : size ≡ 1 + get_or piece i 0 / 16 % 8 + get_or piece i 0 % 16 = k.is in
      let ρ = take (size - 1) (drop (suc i) piece) in
      let le : length ρ + 1 ≡ size = simp (length-take, length-drop) (omega (arith, add-one i)) in
      let one : size ≡ size - 1 + 1 = omega arith in
      let c : n ≤ i = a.counted in
      record {
        within = fits;
        counted = omega arith;
        reached = λ o fix start at pairs off q.
            let e : at + i + size ≡ at + (i + size) = omega arith in
            let f : pairs + n + 1 ≡ pairs + (n + 1) = omega arith in
            ap (steps o (at_pair fix start at pairs)) (take-add i size piece)
            ∙ steps-append o (take i piece) (take size (drop i piece)) (at_pair fix start at pairs)
            ∙ ap (λ (x : Step). onward o x (take size (drop i piece))) (a.reached o fix start at pairs off q)
            ∙ ap (λ (l : List ℕ). steps o (at_pair fix start (at + i) (pairs + n)) l)
            (ap (λ (k : ℕ). take k (drop i piece)) one ∙ pair-bytes i (size - 1) h)
            ∙ pair o off fix start (pairs + n) (at + i) (get_or piece i 0) size ρ k (omega arith) le
            ∙ ap (λ (k : ℕ). more (at_pair fix start k (pairs + n + 1))) e
            ∙ ap (λ (k : ℕ). more (at_pair fix start (at + (i + size)) k)) f;
      }

-- ---- where a reading stands

-- the same under an equation
pub phased : {p q : FieldsPhase} {o : Settings} {piece : List ℕ} {r : Ran FieldsPhase} → p ≡ q → FieldsRuns o (fields_state q) piece r
    → FieldsRuns o (fields_state p) piece r
phased {o = o} {piece = piece} {r = r} e a = subst⁻¹ (λ (x : FieldsPhase). FieldsRuns o (fields_state x) piece r) e a

pub stayed : {p : FieldsPhase} {piece : List ℕ} {r : Ran FieldsPhase} → r ≡ record { taken = 0; next = p } → (o : Settings)
    → FieldsRuns o (fields_state p) piece r
unfolding steps
stayed {p} {piece} e o =
    subst⁻¹ (λ (x : Ran FieldsPhase). FieldsRuns o (fields_state p) piece x) e (record { within = omega arith; reached = refl; inside = inl refl })

pub octets-run : (most : ℕ) {fix start at n : ℕ} {piece : List ℕ} → n ≡ prefix_len (nat_le 128) (take most piece) → at + most ≤ start + 4096
    → (o : Settings) → FieldsRuns o (in_octets fix start at) piece (record { taken = n; next = FieldsPhase.InOctets fix start (at + n) })
octets-run most {piece = piece} e h o =
    let a = octets-ahead most piece _ e in
    record { within = a.within; reached = a.reached o _ _ _ h; inside = inr (record { here = refl; there = refl; same = refl }) }

-- pairs and r of them more
abbrev pub further : PairChain → PairsRun → PairChain
further c r = record { fix = c.fix; start = c.start; at = c.at + r.taken; pairs = c.pairs + r.pairs }

pub pairs-run : {c : PairChain} {most : ℕ} {piece : List ℕ} {r : PairsRun} → PairsAhead most piece r → c.at + most ≤ c.start + 4096
    → (o : Settings) → o.classes ≡ false
    → FieldsRuns o (fields_state (FieldsPhase.AtPair c)) piece (record { taken = r.taken; next = FieldsPhase.AtPair (further c r) })
pairs-run a h o off =
    record { within = a.within; reached = a.reached o _ _ _ _ off h; inside = inr (record { here = refl; there = refl; same = refl }) }

-- ---- the reader

module _ (r : HeaderReader) (piece : List ℕ) where
  -- behind a run it stands where a reading can
  pub run-reachable : {p : FieldsPhase} {x : Ran FieldsPhase} → r.phase ≡ Phase.InFields p → FieldsRuns (settings r.mode) (fields_state p) piece x
      → Reachable (fields_state x.next)
  run-reachable {p} {x} e a =
      subst ReachableStep a.reached
      (reachable-steps (settings r.mode) (take x.taken piece) (fields_state p) (subst (λ (k : Phase). Reachable (state k)) e r.reachable))

  -- none taken
  pub unmoved : ReaderRuns r piece (record { taken = 0; next = r })
  unfolding steps
  unmoved = record { within = omega arith; does = λ o st h. record { next = st; represents = h; reached = refl; inside = inl refl } }
