-- A turn of `run`'s loop: the samples of one byte are taken.
-- Assumes nothing.
use Prim.Native.Nat.{ℕ, ◌+◌, ◌-◌, ◌^◌, ◌≤◌, ◌<◌}
use mathlib.Core.Path.{◌≡◌, ◌∙◌, subst}
use Rattle.std.proofs.Common.{Option, Some, None}
use mathlib.Core.List.{List}
use mathlib.Core.Logic.{⊎_elim}
use native.Mathlib.Omega.{arith}
use lib.IntN.{ℤ}
use lib.ListN.{length, get_or, drop, set}
use lib.Seq.{get_or-drop}
use Rattle.quantize.specs.declared.engine.Quantizer.{Quantizer}
use Rattle.quantize.specs.declared.turn.Place.{Place}
use Rattle.quantize.specs.Finished.{Bytewise}
use Rattle.quantize.specs.Internal.Turn.{rule_of, SamplesForByte, AdvancesPlace, Taking, Takes}
use Rattle.laws.proofs.Tests.{lt-or-le}
use Rattle.rules.proofs.ListPiece.{piece, piece-at, piece-length}
use Rattle.quantize.proofs.TurnMoves.{turn_on, turn_byte}
use Rattle.quantize.proofs.RunLoop.{Loop, begun-small, loop-on, loop-byte}

-- a piece has the samples from its start on
pub piece-same : (samples : List ℕ) (taken m i : ℕ) → i < m → get_or (drop taken samples) i 0 ≡ get_or (piece samples taken m) i 0
piece-same samples taken m i h = get_or-drop taken samples i 0 ∙ piece-at samples taken m i h

module _ (q : Quantizer) (samples out₀ : List ℕ) (work₀ : List ℤ) (out : List ℕ) (work : List ℤ) (p : Place) (taken written : ℕ)
    (L : Loop q samples out₀ work₀ out work p taken written) (left : 0 < p.frames) (m : ℕ)
    (sh : SamplesForByte q.width p.column (length samples - taken) (length out - written) m) (some : m ≡ 0 → ⊥) where
  abbrev samples-for-byte : List ℕ
  samples-for-byte = piece samples taken m

  pub end_fits : taken + m ≤ length samples
  end_fits = let a = sh.there in let b = L.taken_fits in omega arith

  long : length samples-for-byte ≡ m
  long = piece-length samples taken m end_fits

  pub taking : q.width < 2 ^ 64 → q.height < 2 ^ 64 → Taking q.rule q.width q.height p (length samples-for-byte) (length work)
  taking h k =
      let e = long in
      let so = L.turn.sound in
      record {
        dotting = record {
          some = omega (arith, some);
          within = omega (arith, sh.in_row);
          packs = (omega (arith, sh.in_byte), begun-small q samples out₀ work₀ out work p taken written L);
          small = so.corner_small;
          fits = h;
          served = so.served;
        };
        left = left;
        in_byte = omega (arith, sh.in_byte);
        in_frame = so.in_frame;
        high = k;
        begun_small = so.begun_small;
      }

  module _ (byte : Option ℕ) (p' : Place) (work' : List ℤ)
      (T : Takes q.rule q.table q.width q.height p samples-for-byte work byte p' work') where
    advances : AdvancesPlace q.width q.height p.frames p.row p.column m T.digits byte p'
    advances = subst (λ (n : ℕ). AdvancesPlace q.width q.height p.frames p.row p.column n T.digits byte p') long T.advances

    -- a byte is finished only where there is room for it
    pub took-room : (x : ℕ) → byte ≡ Some x → written < length out
    took-room x h =
        ⊎_elim (λ l. l)
        (λ (l : length out ≤ written).
        let z = sh.fits (omega arith) in
        ⊎_elim (λ e. let f : ⊥ = omega (arith, z.0) in absurd f) (λ e. let f : ⊥ = omega (arith, z.1) in absurd f)
        (advances.ended x h).ends)
        (lt-or-le written (length out))

    -- the row is finished byte after byte
    module _ (b : Bytewise (rule_of q.rule q.table) p.row) where
      pub loop-took-byte : (x : ℕ) → byte ≡ Some x → Loop q samples out₀ work₀ (set out written x) work' p' (taken + m) (written + 1)
      loop-took-byte x h =
          loop-byte q samples out₀ work₀ out work p taken written L m x p' work'
          (turn_byte q p (drop taken samples) samples-for-byte work L.turn.sound left m (omega (arith, some)) sh.in_row sh.in_byte
          long (piece-same samples taken m) b T.digits work' byte p' T.dotted advances x h) end_fits (took-room x h)

      pub loop-took-none : byte ≡ None → Loop q samples out₀ work₀ out work' p' (taken + m) written
      loop-took-none h =
          loop-on q samples out₀ work₀ out work p taken written L m p' work'
          (turn_on q p (drop taken samples) samples-for-byte work L.turn.sound left m (omega (arith, some)) sh.in_row sh.in_byte
          long (piece-same samples taken m) b T.digits work' byte p' T.dotted advances h) end_fits
