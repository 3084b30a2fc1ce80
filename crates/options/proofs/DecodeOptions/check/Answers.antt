use native.Mathlib.Omega.{arith}
use Rattle.laws.proofs.Products.{product-below}
use Rattle.options.proofs.DecodeOptions.check.Goals as goal

pub overflow_mul-w : goal.overflow_mul-w
overflow_mul-w c =
    record { fits = product-below 32 32 (omega (arith, c.from-w.ensures)) (omega (arith, c.from-h.ensures)) }
