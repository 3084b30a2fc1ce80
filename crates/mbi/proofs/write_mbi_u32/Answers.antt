use Rattle.std.proofs.Common.{◌∙◌, arith}
use Rattle.laws.proofs.Writers.{emits-all}
use Rattle.mbi.specs.Bytes.{mbi_bytes}
use Rattle.mbi.proofs.WriteLoop.{filled, done, begun, begun-bytes}
use Rattle.mbi.proofs.write_mbi_u32.Goals as goal

pub loop-k-init : goal.loop-k-init
loop-k-init c = begun c.args.value c.args.out.now _ c.mbi_u32_len-n.ensures c.if-out-n.false

pub loop-k-preserved : goal.loop-k-preserved
loop-k-preserved c = filled c.loop-k.invariant c.loop-k-test.true

pub returns : goal.returns
returns c =
    let a = c.args in
    let e = c.mbi_u32_len-n.ensures in
    let fits = c.if-out-n.false in
    emits-all (mbi_bytes a.value) a.out.now c.loop-k.out c.mbi_u32_len-n.result (omega (arith, e, fits)) e
    (done c.loop-k.invariant (omega arith) ∙ begun-bytes a.value a.out.now _ e fits)
