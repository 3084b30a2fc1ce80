-- Whole bytes at once: each is a turn of `run`'s loop.
-- Assumes nothing.
use Prim.Native.Nat.{ℕ, zero, suc, ◌+◌, ◌-◌, ◌*◌, ◌%◌, ◌^◌, ◌≤◌, ◌<◌}
use mathlib.Core.Path.{◌≡◌, refl, sym, ap, ◌∙◌, subst}
use Rattle.std.proofs.Common.{Some, inr, pow_pos}
use mathlib.Core.List.{List, [], ◌∷◌, ◌++◌, append_assoc, append-nil}
use native.Mathlib.Nat.{add-zero, mul-one}
use native.Mathlib.Omega.{arith}
use borrow.Rule.Slice.PartMut.{mid_of, put_mid, Post-is}
use lib.IntN.{ℤ}
use lib.ListN.{length, get_or, take, drop, length-append, length-drop}
use lib.Seq.{take_all, drop-length, drop-drop}
use Rattle.quantize.specs.declared.engine.Quantizer.{Quantizer}
use Rattle.quantize.specs.declared.turn.Place.{Place}
use Rattle.rules.specs.Rule.{Rule}
use Rattle.quantize.specs.Finished.{Bytewise}
use Rattle.dither.specs.Internal.Kernels.{Dots}
use Rattle.quantize.specs.Internal.Turn.{rule_of, Sound, Dotted, AdvancesPlace, onwards, RowFilled}
use Rattle.dither.specs.Internal.Row.{Bytes}
use Rattle.quantize.proofs.Places.{at-inside}
use Rattle.laws.proofs.Tests.{zero_one}
use Rattle.rules.proofs.ListPiece.{piece, piece-length}
use Rattle.quantize.proofs.TurnMoves.{Turn, turn-none, turn-turn, turn_byte}
use Rattle.quantize.proofs.RunLoop.{Loop, loop-turn}
use Rattle.quantize.proofs.TurnTakes.{piece-same}

pub bytes-long : (rule : Rule) (w y x : ℕ) (samples : List ℕ) (corner : ℕ) (work : List ℤ) (k : ℕ) (bytes : List ℕ) (corner' : ℕ)
    (work' : List ℤ)
    → Bytes rule w y x samples corner work k bytes corner' work' → length bytes ≡ k
unfolding Bytes
bytes-long rule w y x samples corner work zero bytes corner' work' b = ap length b.0
bytes-long rule w y x samples corner work (suc k) bytes corner' work' b =
    let n = bytes-long rule w y x samples corner work k b.bytes b.corner b.work b.before in
    ap length b.more ∙ length-append b.bytes (b.byte ∷ []) ∙ omega arith

module _ (q : Quantizer) where
  abbrev rule : Rule
  rule = rule_of q.rule q.table

  abbrev Standing : Place → List ℤ → Type 0
  Standing p work = Sound q.rule q.width q.height p.row p.column p.begun p.corner (length work)

  -- one byte, from a byte's start on and not to the row's end
  module _ (xs gray : List ℕ) (work : List ℤ) (p : Place) (so : Standing p work) (left : 0 < p.frames) (b : Bytewise rule p.row)
      (aligned : p.column % 8 ≡ 0) (long : length gray ≡ 8) (same : (i : ℕ) → i < 8 → get_or xs i 0 ≡ get_or gray i 0)
      (in_row : p.column + 8 < q.width)
      (byte corner' : ℕ) (work' : List ℤ) (dots : Dots rule q.width p.row p.column gray 0 p.corner
      work byte corner' work') where
    none : p.begun ≡ 0
    none = let b : p.begun < 2 ^ 0 = subst (λ (k : ℕ). p.begun < 2 ^ k) aligned so.begun_small in omega arith

    abbrev next : Place
    next = record { frames = p.frames; row = p.row; column = p.column + 8; begun = 0; corner = corner' }

    dotted : Dotted q.rule q.table q.width p.row p.column gray p.begun p.corner work
        (record { digits = byte; corner = corner' }) work'
    dotted = rw none dots

    advances : AdvancesPlace q.width q.height p.frames p.row p.column 8 byte (Some byte) next
    advances =
        let z : 8 - (p.column % 8 + 8) ≡ 0 = omega arith in
        record {
          in_row = in_row;
          in_frame = so.in_frame;
          begun_small = pow_pos ((p.column + 8) % 8);
          ended = λ x t. record {
            ends = inr (omega arith);
            byte_is = rw z (let e : byte ≡ x = cc in sym e ∙ sym (mul-one byte));
            begun_is = refl;
          };
          goes = λ t. zero_one (cc);
          moves = λ s n ew eh a. at-inside s n p.frames p.row p.column a 8 left (omega arith);
        }

    turn_one : Turn q p xs work 8 (byte ∷ []) (onwards p 8 corner') work'
    turn_one =
        subst (λ (i : ℕ). Turn q p xs work 8 (byte ∷ []) (record {
          frames = p.frames;
          row = p.row;
          column = p.column + 8;
          begun = i;
          corner = corner';
        }) work') (sym none)
        (turn_byte q p xs gray work so left 8 (omega arith) (omega arith) (omega arith) long same b byte work' (Some byte) next dotted advances byte refl)

  module _ (samples : List ℕ) (work : List ℤ) (p : Place) (so : Standing p work) (left : 0 < p.frames) (b : Bytewise rule p.row) where
    bytes-turn : (k : ℕ) (bytes : List ℕ) (corner' : ℕ) (work' : List ℤ) → (0 < k → p.column % 8 ≡ 0) → 8 * k ≤ length samples
        → p.column + 8 * k < q.width
        → Bytes rule q.width p.row p.column samples p.corner work k bytes corner' work'
        → Turn q p samples work (8 * k) bytes (onwards p (8 * k) corner') work'
    unfolding Bytes
    bytes-turn zero bytes corner' work' aligned h w c = rw (c.0, c.1.0, c.1.1, add-zero) (turn-none q p samples work so)
    bytes-turn (suc k) bytes corner' work' aligned h w c =
        let even = aligned (omega arith) in
        let T = bytes-turn k c.bytes c.corner c.work (λ _. even) (omega arith) (omega arith) c.before in
        let e1 : p.column + 8 * suc k ≡ p.column + 8 * k + 8 = omega arith in
        let e2 : 8 * suc k ≡ 8 * k + 8 = omega arith in
        rw (e1, e2, c.more)
        (turn-turn q p (onwards p (8 * k) c.corner) (onwards (onwards p (8 * k) c.corner) 8 corner') samples work c.work work'
        (8 * k) 8 c.bytes (c.byte ∷ []) T
        (turn_one (drop (8 * k) samples) (piece samples (8 * k) 8) c.work (onwards p (8 * k) c.corner) T.sound left b (omega arith)
        (piece-length samples (8 * k) 8 (omega arith)) (piece-same samples (8 * k) 8) (omega arith) c.byte corner' work' c.dots))

  -- what `fill_row` stores and keeps
  module _ (samples out₀ : List ℕ) (work₀ : List ℤ) (out : List ℕ) (work : List ℤ) (p : Place) (taken written : ℕ)
      (L : Loop q samples out₀ work₀ out work p taken written)
      (left : 0 < p.frames) (b : Bytewise rule p.row) where
    in-out : written ≤ length out
    in-out = omega (arith, L.written_fits, L.out_long)

    rest-samples : take (length samples - taken) (drop taken samples) ≡ drop taken samples
    rest-samples = take_all (length samples - taken) (drop taken samples) (let l = length-drop taken samples in omega arith)

    rest_out : mid_of written (length out - written) out ≡ drop written out
    rest_out = take_all (length out - written) (drop written out) (let l = length-drop written out in omega arith)

    put_rest : (bytes : List ℕ) (k : ℕ) → length bytes ≡ k
        → put_mid written (length out - written) out (bytes ++ drop k (mid_of written (length out - written) out))
        ≡ (take written out ++ bytes) ++ drop (written + length bytes) out
    put_rest bytes k e =
        rw (rest_out, Post-is written (length out) out in-out, drop-length, append-nil, drop-drop, ← e)
        (sym (append_assoc (take written out) bytes (drop (written + length bytes) out)))

    pub loop-filled : (k : ℕ) (p' : Place) (part : List ℕ) (work' : List ℤ)
        → RowFilled q.rule q.width p (take (length samples - taken) (drop taken samples)) (mid_of written (length out - written) out)
        work k p' part work'
        → Loop q samples out₀ work₀ (put_mid written (length out - written) out part) work' p' (taken + 8 * k) (written + k)
    loop-filled k p' part work' F =
        let h = F.wholes in
        let there : 8 * k ≤ length samples - taken = omega (arith, h.there, ap length rest-samples, length-drop taken samples) in
        let room : k ≤ length out - written = omega (arith, h.fits, ap length rest_out, length-drop written out) in
        let c =
        subst (λ (l : List ℕ). Bytes rule q.width p.row p.column l p.corner work k F.bytes p'.corner work') rest-samples
        (F.fills q.table) in
        let n = bytes-long rule q.width p.row p.column (drop taken samples) p.corner work k F.bytes p'.corner work' c in
        let T =
        bytes-turn (drop taken samples) work p L.turn.sound left b k F.bytes p'.corner work' h.aligned
        (omega (arith, length-drop taken samples)) h.in_row c in
        subst (λ (i : ℕ). Loop q samples out₀ work₀ (put_mid written (length out - written) out part) work' p' (taken + 8 * k) (written + i)) n
        (loop-turn q samples out₀ work₀ out work p taken written L (8 * k) F.bytes p' work'
        (subst (λ (o : Place). Turn q p (drop taken samples) work (8 * k) F.bytes o work') (sym F.place) T)
        (omega (arith, L.taken_fits)) (omega (arith, in-out))
        (put_mid written (length out - written) out part)
        (ap (put_mid written (length out - written) out) F.stored ∙ put_rest F.bytes k n))
