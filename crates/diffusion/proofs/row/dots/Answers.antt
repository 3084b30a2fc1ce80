use Prim.Native.Nat.{◌<◌}
use mathlib.Core.Path.{◌≡◌}
use native.Mathlib.Omega.{arith}
use borrow.Author.Rules.{rules}
use lib.IntN.{pos}
use lib.ListN.{length, get_or}
use mir.Syntax.{w16}
use mir.ValLaws.{to_z-of_z, to_z_pos}
use Rattle.diffusion.proofs.RowGrows.{byte-begins, run_long, run_lent, run_more, run_end, sum-none, sum_left}
use Rattle.diffusion.proofs.row.dots.Goals as goal
use Rattle.diffusion.proofs.row.dots.Goals.{At-loop-i, then-i-gt0, else-i-gt0}

-- the numbers of the work buffer are as many as they were
long : (l : At-loop-i) → length l.loop-i.work ≡ length l.args.work.now
long l =
    let p = l.requires in
    run_long _ _ _ _ _ _ _ _ l.loop-i.invariant p.old (byte-begins _ _ _ _ _ p.at)

in-row : (l : At-loop-i) → l.loop-i.i < l.args.end → l.loop-i.i < length l.args.gray.now
in-row l h = omega (arith, l.requires.in_row)

in-work : (l : At-loop-i) → l.loop-i.i < l.args.end → l.loop-i.i < length l.loop-i.work
in-work l h = omega (arith, in-row l h, long l, l.requires.kept)

pub dot-s-requires : goal.dot-s-requires
dot-s-requires c =
    let p = c.requires in
    let t = c.loop-i-test.true in
    let b = byte-begins _ _ _ _ _ p.at in
    run_lent _ _ _ _ _ _ _ _ c.loop-i.invariant p.old b _ (to_z-of_z w16 (get_or c.loop-i.work c.loop-i.i (pos 0)) (search rules)) (in-row (goal.at.dot-s-requires c).At-loop-i t) (omega (arith, p.one_byte))

pub loop-i-preserved : goal.loop-i-preserved
loop-i-preserved c =
    let t = c.loop-i-test.true in
    run_more _ _ _ _ _ _ _ _ c.loop-i.invariant _ (to_z-of_z w16 (get_or c.loop-i.work c.loop-i.i (pos 0)) (search rules)) _ _ t c.requires.in_row c.dot-s.ensures
    (elim c.if-i-gt0.branch [
      | then-i-gt0 w ↦ sum_left _ _ _ _ _ w.if-i-gt0.true (omega (arith, in-work (goal.at.loop-i-preserved c).At-loop-i t)) (to_z_pos w16 _ (omega arith)) w.work-is
      | else-i-gt0 w ↦ sum-none _ _ _ _ w.if-i-gt0.false w.work-is
    ])

pub returns : goal.returns
returns c = λ old a. run_end _ _ _ _ _ _ _ _ c.loop-i.invariant c.loop-i-test.false old (byte-begins _ _ _ _ _ a)
