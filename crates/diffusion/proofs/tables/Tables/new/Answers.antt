use Prim.Native.Nat.{◌+◌, ◌*◌}
use mathlib.Core.Path.{refl}
use Rattle.rules.specs.Bits.{upto}
use Rattle.diffusion.specs.Internal.Sums.{part_of, rest_of}
use Rattle.diffusion.proofs.TableRule.{table-rule}
use Rattle.diffusion.proofs.tables.Tables.new.Goals as goal

-- Both tables keep their rule, each by one computed test of the whole table.
-- Assumes nothing.
pub invariant_of-result : goal.invariant_of-result
unfolding part_of rest_of upto
invariant_of-result c =
    record {
      rights_are = table-rule 512 (λ v. part_of 7 (rest_of v)) _ refl;
      downs_are = table-rule 512 (λ v. part_of 3 (rest_of v) + 256 * part_of 5 (rest_of v) + 65536 * part_of 1 (rest_of v)) _ refl;
    }
