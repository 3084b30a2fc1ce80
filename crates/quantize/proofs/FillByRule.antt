-- What `fill_row` stores, rule by rule.
-- Assumes nothing.
use Prim.Native.Nat.{ℕ, zero, suc, ◌+◌, ◌*◌, ◌≤◌}
use mathlib.Core.Path.{◌≡◌, refl, sym, subst}
use mathlib.Core.List.{List, [], ◌++◌}
use native.Mathlib.Omega.{arith}
use lib.IntN.{ℤ}
use lib.ListN.{length, take, drop}
use lib.Seq.{length-take-le}
use Rattle.options.specs.declared.Quantize.{Quantize}
use Rattle.options.specs.declared.Quantize.TheVariants.{Threshold, Dither}
use Rattle.rules.specs.Bits.{digits, upto}
use Rattle.rules.specs.Rule.{threshold, dither}
use Rattle.rules.specs.Internal.Kernels.{threshold_from, threshold_bytes}
use Rattle.quantize.specs.Internal.Turn.{rule_of, Wholes, Fills, RowFilling, onwards, RowFilled}
use Rattle.quantize.specs.declared.turn.Place.{Place}
use Rattle.rules.specs.Internal.Entry.{Where}
use Rattle.dither.specs.Internal.Row.{Bytes, Filling}
use Rattle.dither.proofs.DitherBytesLoop.{bytes-none}
use Rattle.quantize.proofs.DotsByRule.{dots-threshold, served-dither}
use Rattle.rules.proofs.ListPiece.{piece}
use Rattle.rules.proofs.ThresholdBytes.{digits-piece}

module _ (rule : Quantize) (w y x : ℕ) (samples : List ℕ) (corner : ℕ) (work : List ℤ) where
  threshold-bytes : (t k : ℕ) → corner ≤ 256 → 8 * k ≤ length samples
      → Bytes (threshold t) w y x samples corner work k (threshold_bytes t samples k) corner work
  unfolding Bytes upto
  threshold-bytes t zero h l = (refl, (refl, refl))
  threshold-bytes t (suc k) h l =
      let m : 8 * k + 8 ≤ length samples = omega arith in
      let byte = digits (threshold_from t samples (8 * k)) 8 in
      record {
        bytes = threshold_bytes t samples k;
        corner = corner;
        work = work;
        byte = byte;
        before = threshold-bytes t k h (omega arith);
        dots =
            dots-threshold (Threshold t) [] w y (x + 8 * k) (piece samples (8 * k) 8) 0 corner work t byte refl h
            (digits-piece t samples (8 * k) 8 m);
        more = refl;
      }

  fills-threshold : (t k : ℕ) (bytes : List ℕ) → rule ≡ Threshold t → corner ≤ 256 → 8 * k ≤ length samples
      → bytes ≡ threshold_bytes t samples k → Fills rule w y x samples corner work k bytes corner work
  fills-threshold t k bytes e h l o table =
      subst (λ (r : Quantize). Bytes (rule_of r table) w y x samples corner work k bytes corner work) (sym e)
      (subst (λ (o : List ℕ). Bytes (threshold t) w y x samples corner work k o corner work) (sym o) (threshold-bytes t k h l))

  fills-dither : (k : ℕ) (bytes : List ℕ) (corner' : ℕ) (work' : List ℤ) → rule ≡ Dither
      → Bytes dither w y x samples corner work k bytes corner' work' → Fills rule w y x samples corner work k bytes corner' work'
  fills-dither k bytes corner' work' e b table =
      subst (λ (r : Quantize). Bytes (rule_of r table) w y x samples corner work k bytes corner' work') (sym e) b

  pub fills-none : Fills rule w y x samples corner work 0 [] corner work
  fills-none table = bytes-none (rule_of rule table) w y x samples corner work [] refl

-- So many bytes are stored, and the place keeps its corner or has another.
module _ (rule : Quantize) (w : ℕ) (p : Place) (samples out : List ℕ) (work : List ℤ) (asked : RowFilling rule w p (length work)) (k : ℕ)
    (fit : Wholes w p.column (length samples) (length out) k) (bytes out' : List ℕ) (work' : List ℤ) (m : Place)
    (stored : out' ≡ bytes ++ drop k out) where
  lent : length (take k out) ≡ k
  lent = length-take-le k out fit.fits

  pub filled-threshold : (t : ℕ) → rule ≡ Threshold t → m ≡ p → work' ≡ work
      → Where (8 * length (take k out) ≤ length samples) (bytes ≡ threshold_bytes t samples (length (take k out))) (bytes ≡ take k out)
      → RowFilled rule w p samples out work k (onwards m (8 * k) m.corner) out' work'
  filled-threshold t e q same b =
      record {
        wholes = fit;
        bytes = bytes;
        fills = rw (q, same) (fills-threshold rule w p.row p.column samples p.corner work t k bytes e asked.small fit.there
            (rw lent at (b.does (rw lent fit.there))));
        stored = stored;
        place = rw q;
      }

  pub filled-dither : (corner : ℕ) → rule ≡ Dither
      → m ≡ record { frames = p.frames; row = p.row; column = p.column; begun = p.begun; corner = corner }
      → (idle : Type 0) → Where (Filling w p.column (length samples) (length (take k out)) p.corner (length work))
      (Bytes dither w p.row p.column samples p.corner work (length (take k out)) bytes corner work') idle
      → RowFilled rule w p samples out work k (onwards m (8 * k) m.corner) out' work'
  filled-dither corner e q idle b =
      let room = served-dither rule w (length work) e asked.served in
      record {
        wholes = fit;
        bytes = bytes;
        fills = rw q (fills-dither rule w p.row p.column samples p.corner work k bytes corner work' e
            (rw lent at (b.does (record {
              there = rw lent fit.there;
              in_row = rw lent fit.in_row;
              room = omega arith;
              small = asked.small;
            }))));
        stored = stored;
        place = rw q;
      }
