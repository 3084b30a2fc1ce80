-- A table's rule, from one computed test of the whole table.
-- Assumes nothing.
use Prim.Native.Nat.{ℕ, ◌<◌}
use mathlib.Core.Path.{◌≡◌, ap, ◌∙◌}
use mathlib.Core.List.{List}
use lib.ListN.{get_or}
use Rattle.rules.specs.Bits.{upto}
use Rattle.rules.proofs.UptoList.{upto-at}

pub table-rule : (n : ℕ) (f : ℕ → ℕ) (table : List ℕ) → table ≡ upto n f → (v : ℕ) → v < n → get_or table v 0 ≡ f v
table-rule n f table e v h = ap (λ (l : List ℕ). get_or l v 0) e ∙ upto-at f 0 n v h
