use Prim.Native.Nat.{ℕ, ◌+◌, ◌-◌, ◌*◌, ◌≤◌, ◌<◌}
use mir.Syntax.{w8}
use mir.Val.{Fits}
use mathlib.Core.List.{List}
use mathlib.Core.Logic.{inl}
use native.Mathlib.Omega.{arith}
use borrow.Rule.Slice.PartMut.{put_mid}
use lib.ListN.{length, get_or}
use Rattle.quantize.specs.declared.engine.Quantizer.{Quantizer}
use Rattle.quantize.specs.Finished.{Bytewise}
use Rattle.quantize.specs.Internal.Turn.{rule_of}
use Rattle.quantize.proofs.Places.{bytewise}
use Rattle.quantize.proofs.RunLoop.{Loop, loop-start}
use Rattle.quantize.proofs.TurnTakes.{end_fits, taking, took-room, loop-took-byte, loop-took-none}
use Rattle.quantize.proofs.BytesAtOnce.{loop-filled}
use Rattle.quantize.proofs.RunEnd.{runs_none, full-byte, runs-end}
use Rattle.quantize.proofs.engine.Quantizer.run.Goals as goal
use Rattle.quantize.proofs.engine.Quantizer.run.Goals.{After-fill_row-count, Else-m-eq0, In-Some, else-loop-p-test, then-loop-p-test+then-m-eq0}

-- samples are bytes
octets : (samples : List ℕ) → ((i : ℕ) → Fits w8 (get_or samples i 0)) → (i : ℕ) → get_or samples i 0 < 256
octets samples h i = let f = h i in omega arith

-- every row is finished byte after byte
by_bytes : (q : Quantizer) (row : ℕ) → Bytewise (rule_of q.rule q.table) row
by_bytes q row = bytewise (rule_of q.rule q.table) row

-- the loop's invariant once whole bytes are filled in
mid : (f : After-fill_row-count)
    → let r = f.fill_row-count in
    Loop f.args.self.now f.args.samples.now f.args.out.now f.args.work.now
    (put_mid f.loop-p.written (length f.loop-p.out - f.loop-p.written) f.loop-p.out r.new.out)
    r.new.work r.new.p (f.loop-p.taken + 8 * r.result) (f.loop-p.written + r.result)
mid f =
    let r = f.fill_row-count in
    let q = f.args.self.now in
    loop-filled q f.args.samples.now f.args.out.now f.args.work.now
    f.loop-p.out f.loop-p.work f.loop-p.p
    f.loop-p.taken f.loop-p.written f.loop-p.invariant f.loop-p-test.true (by_bytes q f.loop-p.p.row)
    r.result r.new.p r.new.out r.new.work r.ensures

-- and its place, in the same frame
left : (f : After-fill_row-count) → 0 < f.fill_row-count.new.p.frames
left f = rw f.fill_row-count.ensures.place f.loop-p-test.true

pub returns-then-not-can_take : goal.returns-then-not-can_take
returns-then-not-can_take c =
    let a = c.args in
    runs_none a.self.now a.samples.now a.out.now a.work.now (octets _ c.type_inv.samples)
    (λ s. c.can_take.ensures.no (c.if-not-can_take.true) s)

pub loop-p-init : goal.loop-p-init
loop-p-init c = loop-start _ _ _ _ (c.can_take.ensures.yes (c.if-not-can_take.false))

pub overflow_mul-taken : goal.overflow_mul-taken
overflow_mul-taken c = omega (arith, (mid (goal.at.overflow_mul-taken c).After-fill_row-count).taken_fits, c.well_formed)

pub overflow_add-taken : goal.overflow_add-taken
overflow_add-taken c = omega (arith, (mid (goal.at.overflow_add-taken c).After-fill_row-count).taken_fits, c.well_formed)

pub overflow_add-written : goal.overflow_add-written
overflow_add-written c = omega (arith, (mid (goal.at.overflow_add-written c).After-fill_row-count).written_fits, c.well_formed)

pub overflow_sub-samples : goal.overflow_sub-samples
overflow_sub-samples c = (mid (goal.at.overflow_sub-samples c).After-fill_row-count).taken_fits

pub overflow_sub-out : goal.overflow_sub-out
overflow_sub-out c = let i = mid (goal.at.overflow_sub-out c).After-fill_row-count in omega (arith, i.written_fits, i.out_long)

pub samples_for_byte-m-requires : goal.samples_for_byte-m-requires
samples_for_byte-m-requires c = (mid (goal.at.samples_for_byte-m-requires c).After-fill_row-count).turn.sound.in_row

-- the samples for the byte are there
there : (e : Else-m-eq0)
    → e.loop-p.taken + 8 * e.fill_row-count.result + e.samples_for_byte-m.result ≤ length e.args.samples.now
there e =
    end_fits _ _ _ _ _ _ _ _ _ (mid (goal.at.overflow_add-end e).After-fill_row-count)
    (left (goal.at.overflow_add-end e).After-fill_row-count) _ e.samples_for_byte-m.ensures e.if-m-eq0.false

pub overflow_add-end : goal.overflow_add-end
overflow_add-end c = omega (arith, there c, c.well_formed)

pub slice_bounds-take-end : goal.slice_bounds-take-end
slice_bounds-take-end c = there (goal.at.slice_bounds-take-end c).Else-m-eq0

pub take-requires : goal.take-requires
take-requires c =
    taking _ _ _ _ _ _ _ _ _ (mid (goal.at.take-requires c).After-fill_row-count) (left (goal.at.take-requires c).After-fill_row-count) _
    c.samples_for_byte-m.ensures c.if-m-eq0.false (omega arith) (omega arith)

-- there is room for a finished byte
room : (c : In-Some)
    → let r = c.fill_row-count in
    c.loop-p.written + r.result < length (put_mid c.loop-p.written (length c.loop-p.out - c.loop-p.written) c.loop-p.out r.new.out)
room c =
    took-room _ _ _ _ _ _ _ _ _ (mid (goal.at.bounds-out-written c).After-fill_row-count)
    (left (goal.at.bounds-out-written c).After-fill_row-count) _ c.samples_for_byte-m.ensures c.if-m-eq0.false
    _ _ _ c.take.ensures _ c.in-Some.is

pub bounds-out-written : goal.bounds-out-written
bounds-out-written c = room c

pub overflow_add-written-in-Some : goal.overflow_add-written-in-Some
overflow_add-written-in-Some c =
    omega (arith, room c, (mid (goal.at.overflow_add-written-in-Some c).After-fill_row-count).out_long, c.well_formed)

pub loop-p-smaller : goal.loop-p-smaller
loop-p-smaller c = omega (arith, there (goal.at.loop-p-smaller c).Else-m-eq0, c.if-m-eq0.false)

pub loop-p-preserved-in-Some : goal.loop-p-preserved-in-Some
loop-p-preserved-in-Some c =
    loop-took-byte _ _ _ _ _ _ _ _ _ (mid (goal.at.loop-p-preserved-in-Some c).After-fill_row-count)
    (left (goal.at.loop-p-preserved-in-Some c).After-fill_row-count) _ c.samples_for_byte-m.ensures c.if-m-eq0.false
    _ _ _ c.take.ensures (by_bytes c.args.self.now _) _ c.in-Some.is

pub loop-p-preserved : goal.loop-p-preserved
loop-p-preserved c =
    loop-took-none _ _ _ _ _ _ _ _ _ (mid (goal.at.loop-p-preserved c).After-fill_row-count)
    (left (goal.at.loop-p-preserved c).After-fill_row-count) _ c.samples_for_byte-m.ensures c.if-m-eq0.false
    _ _ _ c.take.ensures (by_bytes c.args.self.now _) c.in_default.is

pub returns : goal.returns
returns c =
    let o = octets _ c.type_inv.samples in
    elim c.loop-p-test.branch [
      | else-loop-p-test w ↦
          rw (w.out-is, w.work-is, w.taken-is, w.written-is, w.p-is)
          (runs-end _ _ _ _ _ _ _ _ _ c.loop-p.invariant o (λ s n t. inl w.loop-p-test.false))
      | then-loop-p-test+then-m-eq0 w ↦
          let r = w.fill_row-count in
          let q = c.args.self.now in
          let i = loop-filled q c.args.samples.now c.args.out.now c.args.work.now c.loop-p.out c.loop-p.work c.loop-p.p
          c.loop-p.taken c.loop-p.written c.loop-p.invariant w.loop-p-test.true (by_bytes q c.loop-p.p.row)
          r.result r.new.p r.new.out r.new.work r.ensures in
          rw (w.out-is, w.work-is, w.taken-is, w.written-is, w.p-is)
          (runs-end _ _ _ _ _ _ _ _ _ i o
          (full-byte _ _ _ _ _ _ _ _ _ i o _ (rw r.ensures.place w.loop-p-test.true) (by_bytes q r.new.p.row)
          w.samples_for_byte-m.ensures w.if-m-eq0.true))
    ]
