use Prim.Native.Nat.{ℕ}
use mathlib.Core.Path.{◌≡◌, ap, sym, ◌∙◌}
use mathlib.Core.List.{List, ◌++◌}
use native.Mathlib.Omega.{arith}
use lib.ListN.{length, drop}
use Rattle.laws.proofs.Writers.{emits_none, emits-all}
use Rattle.image.specs.Rows.{invert}
use Rattle.image.proofs.InvertedBytes.{invert-length}
use Rattle.image.proofs.convert.invert_into.Goals as goal
use Rattle.image.proofs.convert.invert_into.Goals.{Start}

abbrev whole : Start → List ℕ
whole c = invert c.args.bytes.now

long : (c : Start) → length (whole c) ≡ length c.args.bytes.now
long c = invert-length c.args.bytes.now

pub returns-then-out-n : goal.returns-then-out-n
returns-then-out-n c = rw c.new.ensures (emits_none (whole (goal.at.returns-then-out-n c).Start) c.args.out.now (omega (arith, long (goal.at.returns-then-out-n c).Start, c.if-out-n.true)))

pub returns : goal.returns
returns c =
    let a = c.args in
    emits-all (whole (goal.at.returns c).Start) a.out.now _ _ (omega (arith, long (goal.at.returns c).Start, c.if-out-n.false)) (sym (long (goal.at.returns c).Start))
    (ap (λ l. l ++ drop (length a.bytes.now) a.out.now) c.invert_from.ensures
    ∙ ap (λ n. whole (goal.at.returns c).Start ++ drop n a.out.now) (sym (long (goal.at.returns c).Start)))
