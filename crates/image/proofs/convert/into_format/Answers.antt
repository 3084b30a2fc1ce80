use mathlib.Core.Path.{◌≡◌, ap, sym, ◌∙◌}
use Prim.Native.Nat.{ℕ}
use mathlib.Core.List.{List, ◌++◌}
use native.Mathlib.Omega.{arith}
use lib.ListN.{length, drop}
use Rattle.laws.proofs.Writers.{emits_none, emits-all}
use Rattle.image.specs.Geometry.{row_bytes}
use Rattle.image.specs.Rows.{convert_format}
use Rattle.image.proofs.ConvertedBytes.{format-length}
use Rattle.image.proofs.convert.into_format.Goals as goal
use Rattle.image.proofs.convert.into_format.Goals.{Start}

abbrev whole : Start → List ℕ
whole c = let a = c.args in convert_format a.from a.to a.width a.height (row_bytes a.width) a.plane.now

long : (c : Start) → length (whole c) ≡ length c.args.plane.now
long c = let a = c.args in format-length a.from a.to a.width a.height (row_bytes a.width) a.plane.now

pub returns-then-out-n : goal.returns-then-out-n
returns-then-out-n c = rw c.new.ensures (emits_none (whole (goal.at.returns-then-out-n c).Start) c.args.out.now (omega (arith, long (goal.at.returns-then-out-n c).Start, c.if-out-n.true)))

pub returns : goal.returns
returns c =
    let a = c.args in
    emits-all (whole (goal.at.returns c).Start) a.out.now _ _ (omega (arith, long (goal.at.returns c).Start, c.if-out-n.false)) (sym (long (goal.at.returns c).Start))
    (ap (λ l. l ++ drop (length a.plane.now) a.out.now) c.convert_from.ensures
    ∙ ap (λ n. whole (goal.at.returns c).Start ++ drop n a.out.now) (sym (long (goal.at.returns c).Start)))
