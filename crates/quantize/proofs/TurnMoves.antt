-- A turn of `run`'s loop: from a place some samples are taken and some bytes written, which are those that the machine emits. Turns one
-- after the other are a turn.
-- Assumes nothing.
use Prim.Native.Nat.{ℕ, ◌+◌, ◌%◌, ◌≤◌, ◌<◌}
use mathlib.Core.Path.{◌≡◌, refl, sym, ap, ◌∙◌, subst}
use Rattle.std.proofs.Common.{Option, Some, None}
use mathlib.Core.Bool.{false}
use mathlib.Core.List.{List, [], ◌∷◌, ◌++◌}
use native.Mathlib.Nat.{add-zero, add_assoc}
use native.Mathlib.Omega.{arith}
use lib.IntN.{ℤ}
use lib.ListN.{length, get_or, drop}
use Rattle.quantize.specs.declared.engine.Quantizer.{Quantizer}
use Rattle.quantize.specs.declared.turn.Place.{Place}
use Rattle.rules.specs.Bits.{appended}
use Rattle.rules.specs.Rule.{Rule, carries, rule_named, rule_given}
use Rattle.quantize.specs.Internal.Turn.{Served, state_of, rule_of, Sound, Dotted, AdvancesPlace}
use Rattle.quantize.specs.Finished.{Setting, Bytewise}
use Rattle.dither.specs.Internal.Carry.{Carry}
use Rattle.quantize.specs.Internal.Machine.{MachineState, carried, machine_bytes}
use Rattle.quantize.specs.Internal.Place.{At}
use Rattle.dither.specs.Internal.Kernels.{row_carry, row_bit, carry_of}
use Rattle.quantize.proofs.DotsByRule.{carries_same}
use Rattle.dither.proofs.RowKept.{row-beyond, row-long, row-spared}
use Rattle.quantize.proofs.MachineSteps.{carried-add, emitted-add, part-on, part-last}

-- a quantizer's setting, wherever it stands
pub record Suits (q : Quantizer) (s : Setting) : Type 0 where
  pub rule : s.rule ≡ rule_of q.rule q.table
  pub width : s.width ≡ q.width
  pub height : s.height ≡ q.height

-- m of the samples xs are taken, where n were taken before: where the next one goes, what is written and what is kept
pub record Moved (s : Setting) (n : ℕ) (p : Place) (xs : List ℕ) (work : List ℤ) (m : ℕ) (bytes : List ℕ) (p' : Place)
    (work' : List ℤ) : Type 0 where
  pub at : At s (n + m) p'.frames p'.row p'.column
  pub emits : machine_bytes s n (state_of p work) xs m ≡ bytes
  pub keeps : carried s n (state_of p work) xs m ≡ state_of p' work'

pub record Turn (q : Quantizer) (p : Place) (xs : List ℕ) (work : List ℤ) (m : ℕ) (bytes : List ℕ) (p' : Place)
    (work' : List ℤ) : Type 0 where
  pub sound : Sound q.rule q.width q.height p'.row p'.column p'.begun p'.corner (length work')
  pub long : length work' ≡ length work
  pub beyond : drop q.width work' ≡ drop q.width work
  pub spared : carries (rule_given (rule_named q.rule)) ≡ false → work' ≡ work
  pub moves : (s : Setting) (n : ℕ) → Suits q s → At s n p.frames p.row p.column → Moved s n p xs work m bytes p' work'

-- nothing is taken
pub turn-none : (q : Quantizer) (p : Place) (xs : List ℕ) (work : List ℤ)
    → Sound q.rule q.width q.height p.row p.column p.begun p.corner (length work) → Turn q p xs work 0 [] p work
unfolding carried machine_bytes
turn-none q p xs work h =
    record {
      sound = h;
      long = refl;
      beyond = refl;
      spared = λ _. refl;
      moves = λ s n t a. record { at = rw add-zero a; emits = refl; keeps = refl };
    }

-- a turn after a turn
pub turn-turn : (q : Quantizer) (p p' p'' : Place) (xs : List ℕ) (work work' work'' : List ℤ) (m k : ℕ) (bytes more : List ℕ)
    → Turn q p xs work m bytes p' work' → Turn q p' (drop m xs) work' k more p'' work'' → Turn q p xs work (m + k) (bytes ++ more) p'' work''
turn-turn q p p' p'' xs work work' work'' m k bytes more T U =
    record {
      sound = U.sound;
      long = U.long ∙ T.long;
      beyond = U.beyond ∙ T.beyond;
      spared = λ h. U.spared h ∙ T.spared h;
      moves = λ s n t a.
          let M = T.moves s n t a in
          let N = U.moves s (n + m) t M.at in
          record {
            at = rw (← add_assoc) N.at;
            emits = emitted-add s n (state_of p work) xs m k ∙ rw (M.emits, M.keeps, N.emits);
            keeps = carried-add s n (state_of p work) xs m k ∙ rw M.keeps N.keeps;
          };
    }

-- ---- a part of a byte, in a row that is finished byte after byte

module _ (q : Quantizer) (p : Place) (xs gray : List ℕ) (work : List ℤ)
    (so : Sound q.rule q.width q.height p.row p.column p.begun p.corner (length work))
    (left : 0 < p.frames) (m : ℕ) (some : 0 < m) (in_row : p.column + m ≤ q.width) (in_byte : p.column % 8 + m ≤ 8)
    (graylong : length gray ≡ m)
    (same : (i : ℕ) → i < m → get_or xs i 0 ≡ get_or gray i 0) (b : Bytewise (rule_of q.rule q.table) p.row)
    (digits : ℕ) (work' : List ℤ) (byte : Option ℕ) (p' : Place)
    (dt : Dotted q.rule q.table q.width p.row p.column gray p.begun p.corner work
    (record { digits = digits; corner = p'.corner }) work')
    (ad : AdvancesPlace q.width q.height p.frames p.row p.column m digits byte p') where
  abbrev rule : Rule
  rule = rule_of q.rule q.table

  kept-is : (row_carry rule q.width p.row p.column gray (carry_of p.corner work) (length gray)).kept ≡ work'
  kept-is = ap (λ (c : Carry). c.kept) dt.carry

  long-is : length work' ≡ length work
  long-is = sym (ap length kept-is) ∙ row-long rule q.width p.row p.column gray (carry_of p.corner work) (length gray)

  turned : (bytes : List ℕ)
      → ((s : Setting) (n : ℕ) → Suits q s → At s n p.frames p.row p.column → Moved s n p xs work m bytes p' work')
      → Turn q p xs work m bytes p' work'
  turned bytes moves =
      record {
        sound = record {
          in_row = ad.in_row;
          in_frame = ad.in_frame;
          corner_small = dt.small;
          begun_small = ad.begun_small;
          served = subst (λ (k : ℕ). Served q.rule q.width k) (sym long-is) so.served;
        };
        long = long-is;
        beyond =
            sym (ap (drop q.width) kept-is)
            ∙ row-beyond rule q.width p.row p.column gray (carry_of p.corner work) q.width (length gray) (omega arith);
        spared =
            λ h. sym kept-is ∙ row-spared rule q.width p.row p.column gray (carry_of p.corner work)
            (carries_same q.rule q.table ∙ h) (length gray);
        moves = moves;
      }

  module _ (s : Setting) (n : ℕ) (t : Suits q s) (a : At s n p.frames p.row p.column) where
    abbrev st : MachineState
    st = state_of p work

    in-row : p.column + m ≤ s.width
    in-row = omega (arith, t.width)

    by : Bytewise s.rule p.row
    by = subst (λ (x : Rule). Bytewise x p.row) (sym t.rule) b

    carry-is : row_carry s.rule s.width p.row p.column gray (carry_of p.corner work) m ≡ carry_of p'.corner work'
    carry-is = rw (t.rule, t.width, ← graylong) dt.carry

    digits_are : appended p.begun (row_bit s.rule s.width p.row p.column gray (carry_of p.corner work)) m ≡ digits
    digits_are = sym (rw (t.rule, t.width, ← graylong) dt.digits)

    state-is : (x y : ℕ) → x ≡ y
        → ◌≡◌ {A = MachineState} (record {
          begun = x;
          carry = row_carry s.rule s.width p.row p.column gray (carry_of p.corner work) m;
        }) (record {
          begun = y;
          carry = carry_of p'.corner work';
        })
    state-is x y e = let c = carry-is in cc

    moved_on : byte ≡ None → Moved s n p xs work m [] p' work'
    moved_on h =
        let g = ad.goes h in
        let P =
        part-on s n st xs gray p.frames p.row p.column a left m in-row in_byte same by m (omega arith)
        (omega (arith, t.width, g.in_row)) g.in_byte in
        record {
          at = ad.moves s n t.width t.height a;
          emits = P.emits;
          keeps = P.keeps ∙ state-is _ _ (digits_are ∙ sym g.begun_is);
        }

    moved-byte : (x : ℕ) → byte ≡ Some x → Moved s n p xs work m (x ∷ []) p' work'
    moved-byte x h =
        let g = ad.ended x h in
        let P = part-last s n st xs gray p.frames p.row p.column a left m in-row in_byte same by some (rw t.width g.ends) in
        record {
          at = ad.moves s n t.width t.height a;
          emits = P.emits ∙ ap (λ (x : ℕ). x ∷ []) (rw digits_are (sym g.byte_is));
          keeps = P.keeps ∙ state-is 0 p'.begun (sym g.begun_is);
        }

  -- no byte is finished
  pub turn_on : byte ≡ None → Turn q p xs work m [] p' work'
  turn_on h = turned [] (λ s n t a. moved_on s n t a h)

  -- a byte is finished
  pub turn_byte : (x : ℕ) → byte ≡ Some x → Turn q p xs work m (x ∷ []) p' work'
  turn_byte x h = turned (x ∷ []) (λ s n t a. moved-byte s n t a x h)
