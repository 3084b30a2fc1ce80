use Rattle.std.proofs.Common.{◌≡◌, ◌+◌, ◌*◌, ℕ, drop, ◌∙◌, ap, sym, arith}
use Rattle.ext_write.specs.Internal.Steps.{checking, check_pairs}
use Rattle.ext_write.proofs.PairSteps.{check-goes, check-end}
use Rattle.ext_write.proofs.RecordsFlat.{pairs-found}
use Rattle.ext_write.proofs.write.check_pairs.Goals as goal

pub loop-i-init : goal.loop-i-init
loop-i-init g c =
    let a = c.args in
    ap (check_pairs a.strict a.text.now (g.P.PairList.lengths a.pairs)) (sym c.check_start-s.ensures)

pub loop-i-preserved : goal.loop-i-preserved
loop-i-preserved g c =
    let a = c.args in
    let l = c.loop-i in
    let lengths = g.P.PairList.lengths a.pairs in
    let e : 2 * l.i + 2 ≡ 2 * (l.i + 1) = omega arith in
    l.invariant
    ∙ check-goes a.strict a.text.now lengths (2 * l.i) _ _ _ _ (omega (arith, c.count-count.ensures.counted, c.loop-i-test.true))
    c.pair_at.ensures.identifier c.pair_at.ensures.value c.check_pair-s.ensures
    ∙ ap (λ (k : ℕ). check_pairs a.strict a.text.now (drop k lengths) (checking c.check_pair-s.result)) e

pub returns : goal.returns
returns g c =
    let a = c.args in
    let l = c.loop-i in
    let n = c.count-count.ensures.counted in
    let run = l.invariant ∙ check-end a.strict a.text.now (g.P.PairList.lengths a.pairs) (2 * l.i) _ (omega (arith, n, c.loop-i-test.false)) in
    c.pairs_length.ensures ∙ rw n (pairs-found a.strict a.text.now _ _ (sym run))
