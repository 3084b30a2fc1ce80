-- A new quantizer: nothing is taken, and any numbers may stand in the work buffer.
-- Assumes nothing.
use Prim.Native.Nat.{ℕ, ◌+◌, ◌-◌, ◌*◌, ◌/◌, ◌<◌}
use mathlib.Core.Path.{◌≡◌, refl, sym, ap, ◌∙◌}
use mathlib.Core.Bool.{true}
use mathlib.Core.List.{List, [], ◌∷◌, ◌++◌}
use native.Mathlib.Nat.{zero-mul, zero-mod, zero-div}
use native.Mathlib.Omega.{arith}
use lib.IntN.{pos, negsuc}
use lib.ListN.{length, get_or}
use lib.Seq.{take-length}
use lib.Pow.{pow_pos}
use Rattle.options.specs.declared.Quantize.{Quantize}
use Rattle.options.specs.declared.Quantize.TheVariants.{Dither}
use Rattle.rules.specs.Rule.{Rule, threshold, dither, ordered, rightwards, enough_work}
use Rattle.quantize.specs.Finished.{Setting, frame, dot_of, finished, setting}
use Rattle.dither.specs.Internal.Carry.{Carry}
use Rattle.quantize.specs.Internal.Machine.{machine_bytes}
use Rattle.dither.specs.Internal.Kernels.{carry_of}
use Rattle.quantize.specs.Internal.Engine.{BeginsByte, KeptAfter, QuantizerAfter, Tabled, NewQuantizer}
use Rattle.laws.proofs.Octets.{octets-by}
use Rattle.dither.proofs.HeldRange.{Held}
use Rattle.rules.proofs.RuleAsked.{named-known}
use Rattle.quantize.proofs.BytePacked.{begun-none}
use Rattle.quantize.proofs.FinishedGrows.{finished-none}
use Rattle.quantize.proofs.EmittedFinished.{kept}
use Rattle.quantize.proofs.DiffusionFollows.{diffusion-frame}

-- ---- the first place

first : (w h frames : ℕ) → 0 ≡ ((frames - frames) * h + 0) * w + 0
first w h frames = let e : frames - frames ≡ 0 = omega arith in rw (e, zero-mul, zero-mul)

begins-none : (s : Setting) (carry : Carry) → BeginsByte s [] (record { begun = 0; carry = carry })
begins-none s c = begun-none s.width (dot_of s []) 0 (rw zero-mod)

keeps-none : (rule : Rule) (s : Setting) (carry : Carry) → KeptAfter rule s [] (record { begun = 0; carry = carry })
keeps-none (threshold t) s c = begins-none s c
keeps-none dither s c = (
  begins-none s c,
  rw (zero-mod, zero-div, zero-mod) (diffusion-frame rightwards s.width
      (frame s.width s.height [] (0 / s.height)) c),
)
keeps-none (ordered side table) s c = begins-none s c

pub opens : (asked : Quantize) (table : List ℕ) (w h frames : ℕ) → Tabled asked table
    → NewQuantizer asked w h frames (record {
      rule = asked;
      table = table;
      width = w;
      height = h;
      place = record { frames = frames; row = 0; column = 0; begun = 0; corner = 128 };
    })
opens asked table w h frames t =
    record {
      rule_is = refl;
      width_is = refl;
      height_is = refl;
      frames_are = refl;
      row_is = refl;
      column_is = refl;
      holds = λ rule k pw ph work.
          record {
            stands = record {
              rule = sym (t rule k);
              knows = (named-known asked rule k).0;
              width = refl;
              height = refl;
              at = record { in_row = pw; in_frame = ph; most = omega arith; place = first w h frames; full = λ z. (refl, refl) };
              corner_small = omega arith;
              begun_small = pow_pos 0;
            };
            keeps = keeps-none rule (setting rule w h frames) (carry_of 128 work);
          };
    }

-- ---- whole scans

-- THE MACHINE EMITS THE DEFINITION'S BYTES, for every rule, list of samples and size, whatever numbers it finds
pub machine-bytes : (s : Setting) (samples : List ℕ) (c : Carry) → 0 < s.width → 0 < s.height → ((i : ℕ) → get_or samples i 0 < 256)
    → enough_work s.rule s.width (length c.kept) ≡ true → Held c.corner
    → machine_bytes s 0 (record { begun = 0; carry = c }) samples (length samples) ≡ finished s samples
machine-bytes s samples c wide high bytes room small =
    let K =
    kept s [] samples (record { begun = 0; carry = c }) wide high bytes room small (keeps-none s.rule s c)
    (length samples) (omega arith) in
    sym (ap (finished s) (sym (take-length samples)) ∙ K.bytes_are
    ∙ ap (λ (l : List ℕ). l ++ machine_bytes s 0 (record { begun = 0; carry = c }) samples (length samples)) (finished-none s wide))

-- an example: two rows of dithering over a buffer of other numbers
two-rows : machine_bytes (setting dither 2 2 1) 0 (record { begun = 0; carry = carry_of 128 (pos 300 ∷ negsuc 400 ∷ pos 0 ∷ pos 0 ∷ []) })
    (127 ∷ 128 ∷ 3 ∷ 200 ∷ []) 4 ≡ finished (setting dither 2 2 1) (127 ∷ 128 ∷ 3 ∷ 200 ∷ [])
two-rows =
    machine-bytes (setting dither 2 2 1) (127 ∷ 128 ∷ 3 ∷ 200 ∷ []) (carry_of 128 (pos 300 ∷ negsuc 400 ∷ pos 0 ∷ pos 0 ∷ [])) (omega arith)
    (omega arith) (octets-by (127 ∷ 128 ∷ 3 ∷ 200 ∷ []) refl)
    refl (record { n = 128; holds = record { is = refl; small = omega arith } })

-- an example: a new quantizer for dithering, over the same buffer
opened : QuantizerAfter (record {
  rule = Dither;
  table = [];
  width = 2;
  height = 2;
  place = record { frames = 1; row = 0; column = 0; begun = 0; corner = 128 };
}) (pos 300 ∷ negsuc 400 ∷ []) (setting dither 2 2 1) []
opened = (opens Dither [] 2 2 1 (λ r k. (named-known Dither r k).1)).holds dither refl (omega arith) (omega arith) (pos 300 ∷ negsuc 400 ∷ [])
