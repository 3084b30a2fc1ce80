use Rattle.std.proofs.Common.{◌≡◌, ◌+◌, ◌*◌, ℕ, drop, ◌∙◌, ap, sym, refl, arith}
use Rattle.ext_write.specs.Internal.Steps.{put_pairs}
use Rattle.ext_write.proofs.PairSteps.{put-goes, put-end}
use Rattle.ext_write.proofs.write.put_pairs.Goals as goal

pub loop-i-init : goal.loop-i-init
loop-i-init g c =
    let a = c.args in
    ap (put_pairs a.text.now (g.P.PairList.lengths a.pairs) a.out.now) (sym c.put_start-s.ensures)

pub loop-i-preserved : goal.loop-i-preserved
loop-i-preserved g c =
    let a = c.args in
    let l = c.loop-i in
    let lengths = g.P.PairList.lengths a.pairs in
    let e : 2 * l.i + 2 ≡ 2 * (l.i + 1) = omega arith in
    let n = c.count-count.ensures.counted in
    l.invariant
    ∙ put-goes a.text.now lengths (2 * l.i) _ _ _ _ _ _ (omega (arith, n, c.loop-i-test.true)) c.pair_at-pair.ensures.identifier
    c.pair_at-pair.ensures.value c.put_pair-s.ensures.0 (rw (sym n) c.put_pair-s.ensures.1)
    ∙ ap (λ (k : ℕ). put_pairs a.text.now (drop k lengths) c.put_pair-s.new.out c.put_pair-s.result) e

pub returns : goal.returns
returns g c =
    let l = c.loop-i in
    let e = put-end _ _ (2 * l.i) _ _ (omega (arith, c.count-count.ensures.counted, c.loop-i-test.false)) in
    (refl, rw c.in-Some.is (sym (l.invariant ∙ e)))
