use Prim.Native.Nat.{ℕ, ◌+◌, ◌*◌, ◌≤◌, ◌<◌}
use mathlib.Core.Path.{refl, sym, subst}
use mathlib.Core.List.{List}
use native.Mathlib.Omega.{arith}
use lib.ListN.{length}
use Rattle.rules.specs.Rule.{dither}
use Rattle.dither.specs.Internal.Row.{Bytes}
use Rattle.dither.proofs.ResidualFreeBytes.{residual-free-all}
use Rattle.rules.proofs.ListPiece.{piece-length}
use Rattle.dither.proofs.DitherBytesLoop.{near-own, bytes-none, chain-start, chain_more, chain-end, byte_small}
use Rattle.dither.proofs.row.dither_bytes.Goals as goal
use Rattle.dither.proofs.row.dither_bytes.Goals.{After-next_to-near, At-loop-k}

-- there is a byte
some : (o : After-next_to-near) → 0 < length o.args.out.now
some o = let e = o.if-count-eq0.false in omega (arith, e)

-- the samples of the next byte
there : (l : At-loop-k) → l.loop-k.k < length l.args.out.now
    → 8 * l.loop-k.k + 8 ≤ length l.args.samples.now
there l h = omega (arith, l.requires.there)

pub returns-then-count-eq0 : goal.returns-then-count-eq0
returns-then-count-eq0 c =
    let a = c.args in
    bytes-none dither a.start.width a.start.y a.start.column a.samples.now a.corner a.work.now a.out.now c.if-count-eq0.true

pub returns-then-residual_free : goal.returns-then-residual_free
returns-then-residual_free c =
    let a = c.args in
    let n = c.next_to-near.ensures in
    subst
    (λ (out : List ℕ). Bytes dither a.start.width a.start.y a.start.column a.samples.now a.corner a.work.now (length a.out.now)
    out 128 a.work.now)
    (sym (c.threshold_row_bytes.ensures.does c.requires.there))
    (residual-free-all a.start.width a.start.y a.start.column a.corner a.samples.now (length a.out.now) a.work.now _
    c.requires.there c.requires.in_row c.requires.room
    (λ i. let f = c.type_inv.samples i in omega arith)
    n.left_is n.corner_is (c.residual_free.ensures c.if-residual_free.true)
    (some (goal.at.returns-then-residual_free c).After-next_to-near))

pub loop-k-init : goal.loop-k-init
loop-k-init c =
    let a = c.args in
    chain-start a.start.width a.start.y a.start.column a.samples.now a.corner a.work.now (length a.out.now) a.out.now _ refl
    c.next_to-near.ensures

pub dither_dots-d-requires : goal.dither_dots-d-requires
dither_dots-d-requires c =
    let a = c.args in
    let i = c.loop-k.invariant in
    let at = a.start.column + 8 * c.loop-k.k in
    let near = near-own a.start.width a.start.y at i.last c.loop-k.work c.loop-k.near i.near in
    let long = piece-length a.samples.now (8 * c.loop-k.k) 8 (there (goal.at.dither_dots-d-requires c).At-loop-k c.loop-k-test.true) in (
      record {
        some = omega (arith, long);
        packs = (omega (arith, long), omega arith);
        within = omega (arith, long, c.requires.in_row, c.loop-k-test.true);
        room = omega (arith, c.requires.room, i.work_long);
        small = near.corner_is.small;
      },
      near,
    )

pub overflow_cast-to : goal.overflow_cast-to
overflow_cast-to c =
    let t = c.loop-k-test.true in
    let a = c.args in
    let b = byte_small a.start.width a.start.y a.start.column a.samples.now a.corner a.work.now (length a.out.now)
    c.loop-k.out c.loop-k.work _ c.loop-k.k c.loop-k.invariant t
    (there (goal.at.overflow_cast-to c).At-loop-k t) _ _ c.dither_dots-d.ensures in
    omega (arith, b)

pub loop-k-preserved : goal.loop-k-preserved
loop-k-preserved c =
    let t = c.loop-k-test.true in
    let a = c.args in
    chain_more a.start.width a.start.y a.start.column a.samples.now a.corner a.work.now (length a.out.now)
    c.loop-k.out c.loop-k.work _ c.loop-k.k c.loop-k.invariant t
    (there (goal.at.loop-k-preserved c).At-loop-k t) _ _ c.dither_dots-d.ensures

pub returns : goal.returns
returns c =
    let a = c.args in
    chain-end a.start.width a.start.y a.start.column a.samples.now a.corner a.work.now (length a.out.now) _ _ _ _ c.loop-k.invariant
    c.loop-k-test.false
    (some (goal.at.returns c).After-next_to-near)
