use Prim.Native.Nat.{ℕ}
use mathlib.Core.Path.{ap, ◌∙◌}
use mathlib.Core.List.{List, ◌++◌}
use lib.ListN.{drop}
use Rattle.image.proofs.rows.copy_front.Goals as goal

pub returns : goal.returns
returns c = ap (λ (r : List ℕ). r ++ drop 16 c.args.to.now) (c.copy_bytes.ensures ∙ c.block-b.ensures)
