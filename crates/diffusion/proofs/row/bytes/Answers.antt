use Prim.Native.Nat.{ℕ, ◌+◌, ◌-◌, ◌*◌, ◌/◌, ◌≤◌, ◌<◌}
use mathlib.Core.Path.{◌≡◌, refl, subst}
use native.Mathlib.Omega.{arith}
use lib.ListN.{length}
use Rattle.diffusion.specs.Internal.Flow.{BytesPassed}
use Rattle.diffusion.proofs.RowBytes.{bytes-start, byte-lent, digits-byte, bytes-more}
use Rattle.diffusion.proofs.row.bytes.Goals as goal
use Rattle.diffusion.proofs.row.bytes.Goals.{At-loop-j}

-- the first byte has eight columns
some : (w : ℕ) → ((w - 1) / 8 ≡ 0 → ⊥) → 8 * 0 + 8 ≤ w
some w h = omega arith

pub returns-then-last-eq0 : goal.returns-then-last-eq0
returns-then-last-eq0 c = bytes-start _ _ _ c.requires (λ i. let f = c.type_inv.gray i in omega arith) _ c.args.out.now c.if-last-eq0.true refl

pub dots-f-requires : goal.dots-f-requires
dots-f-requires c = byte-lent _ _ 0 _ _ _ _ (bytes-start _ _ _ c.requires (λ i. let f = c.type_inv.gray i in omega arith) 0 c.args.out.now refl refl) c.requires.kept (some _ c.if-last-eq0.false)

pub overflow_cast-out : goal.overflow_cast-out
overflow_cast-out c =
    let p = bytes-start _ _ _ c.requires (λ i. let f = c.type_inv.gray i in omega arith) 0 c.args.out.now refl refl in
    omega (arith, digits-byte _ _ 0 _ _ _ _ p _ _ (c.dots-f.ensures _ p.at))

-- the bytes so far
made : (l : At-loop-j) →
    let a = l.args in
    BytesPassed a.gray.now a.work.now l.loop-j.j (length a.out.now) l.loop-j.f l.loop-j.out l.loop-j.work
made l =
    let p = bytes-start _ _ _ l.requires (λ i. let f = l.type_inv.gray i in omega arith) 0 l.args.out.now refl refl in
    l.loop-j.invariant.passed l.args.work.now (length l.args.out.now)
    (bytes-more _ _ 0 _ _ _ _ p _ _ (l.dots-f.ensures _ p.at) (some _ l.if-last-eq0.false) (omega (arith, some _ l.if-last-eq0.false, l.requires.room)))

-- there are the dots of a byte more
there : (l : At-loop-j) →
    let w = length l.args.gray.now in
    l.loop-j.j < (w - 1) / 8 → 8 * l.loop-j.j + 8 ≤ w
there l h = omega arith

pub eight_dots_or_level-f-requires : goal.eight_dots_or_level-f-requires
eight_dots_or_level-f-requires c =
    let q = byte-lent _ _ _ _ _ _ _ (made (goal.at.eight_dots_or_level-f-requires c).At-loop-j) c.requires.kept (there (goal.at.eight_dots_or_level-f-requires c).At-loop-j c.loop-j-test.true) in
    (q, omega (arith, c.loop-j.invariant.from))

pub overflow_cast-out-in-loop-j : goal.overflow_cast-out-in-loop-j
overflow_cast-out-in-loop-j c = omega (arith, digits-byte _ _ _ _ _ _ _ (made (goal.at.overflow_cast-out-in-loop-j c).At-loop-j) _ _ (c.eight_dots_or_level-f.ensures _ (made (goal.at.overflow_cast-out-in-loop-j c).At-loop-j).at))

-- there is room for a byte more
fits : (l : At-loop-j) → l.loop-j.j < (length l.args.gray.now - 1) / 8 → l.loop-j.j < length l.loop-j.out
fits l h = omega (arith, (made l).out_long, l.requires.room, h)

pub loop-j-preserved : goal.loop-j-preserved
loop-j-preserved c =
    let t = c.loop-j-test.true in
    let v = c.loop-j.invariant in
    record {
      from = omega (arith, v.from);
      to = omega (arith, t);
      passed = λ old room p.
          let q = v.passed old room p in
          bytes-more _ _ _ _ _ _ _ q _ _ (c.eight_dots_or_level-f.ensures old q.at) (there (goal.at.loop-j-preserved c).At-loop-j t) (omega (arith, fits (goal.at.loop-j-preserved c).At-loop-j t, q.out_long));
    }

pub returns : goal.returns
returns c =
    let a = c.args in
    let e : c.loop-j.j ≡ (length a.gray.now - 1) / 8 = omega (arith, c.loop-j.invariant.to, c.loop-j-test.false) in
    subst
    (λ (n : ℕ). BytesPassed a.gray.now a.work.now n (length a.out.now) c.loop-j.f c.loop-j.out c.loop-j.work)
    e (made (goal.at.returns c).At-loop-j)
