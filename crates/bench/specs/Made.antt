-- What the timed functions promise: what the functions of `quantize` do, with a refusal's number for their answer.
use Rattle.std.specs.Prelude.{ℕ, ◌≡◌, List, ℤ, length, drop}
use Rattle.error.specs.Answer.{Answer, refuses, code_of}
use Rattle.error.specs.Emits.{emitted, output}
use Rattle.options.specs.declared.Quantize.TheVariants.{Dither}
use Rattle.quantize.specs.Whole.{quantized}

pub record Made (a : Answer (List ℕ)) (r : ℕ) (old new : List ℕ) : Type 0 where
  pub answer : r ≡ code_of (emitted a old)
  pub bytes : new ≡ output a old

-- the work buffer is altered in its first `width` numbers only, and by no refusal
pub record Dithered (w h : ℕ) (gray : List ℕ) (r : ℕ) (out out' : List ℕ) (work work' : List ℤ) : Type 0 where
  pub made : Made (quantized Dither w h gray (length work)) r out out'
  pub beyond : drop w work' ≡ drop w work
  pub refused : (code place : ℕ) → emitted (quantized Dither w h gray (length work)) out ≡ refuses code place → work' ≡ work
