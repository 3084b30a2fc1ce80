-- A writer's answer as the number of its refusal.
use Prim.Native.Nat.{ℕ}
use mathlib.Core.Path.{◌≡◌, ap, ◌∙◌}
use mathlib.Core.List.{List}
use lib.IntN.{ℤ}
use Rattle.error.specs.Answer.{Answer, code_of}
use Rattle.error.specs.Emits.{Emits}
use Rattle.options.specs.declared.Quantize.TheVariants.{Dither}
use Rattle.quantize.specs.Whole.{Quantizes}
use Rattle.bench.specs.Made.{Made, Dithered}

pub made : (a : Answer (List ℕ)) (w : Answer ℕ) (r : ℕ) (old new : List ℕ) → Emits a w old new → r ≡ code_of w → Made a r old new
made a w r old new e q = record { answer = q ∙ ap code_of e.answer; bytes = e.bytes }

pub dithered : (w h : ℕ) (gray out out' : List ℕ) (work work' : List ℤ) (x : Answer ℕ) (r : ℕ)
    → Quantizes Dither w h gray out work x out' work' → r ≡ code_of x
    → Dithered w h gray r out out' work work'
dithered w h gray out out' work work' x r q e =
    record {
      made = made _ x r out out' q.emits e;
      beyond = q.beyond;
      refused = λ code place k. q.refused code place (q.emits.answer ∙ k);
    }
