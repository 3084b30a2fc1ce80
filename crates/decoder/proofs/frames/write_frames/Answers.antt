use Prim.Native.Nat.{ℕ, ◌+◌, ◌-◌, ◌*◌, ◌≤◌, ◌<◌}
use mathlib.Core.Path.{◌≡◌, sym, ap, subst}
use native.Mathlib.Omega.{arith}
use lib.ListN.{length}
use Rattle.header.specs.Read.{parsed}
use Rattle.image.specs.declared.PlaneLayout.{PlaneLayout}
use Rattle.decoder.specs.Body.{plane_of, frames_in}
use Rattle.decoder.proofs.Counted.{at_most, counted}
use Rattle.decoder.proofs.Fitted.{frames-there, too_short, long-enough}
use Rattle.decoder.proofs.frames.write_frames.Goals as goal
use Rattle.decoder.proofs.frames.write_frames.Goals.{After-animated_frame_count-frames, Else-out-need}

plane-is : (c : After-animated_frame_count-frames)
    → c.new-layout.result.total_bytes ≡ plane_of (parsed c.args.h)
plane-is c = ap (λ (l : PlaneLayout). l.total_bytes) c.new-layout.ensures

count-is : (c : After-animated_frame_count-frames)
    → let a = c.args in
    1 + c.animated_frame_count-frames.result ≡ frames_in (1 + a.most) (length a.bytes.now) (parsed a.h)
count-is c =
    let a = c.args in
    counted a.most (length a.bytes.now) a.h c.new-layout.result c.animated_frame_count-frames.result c.new-layout.ensures
    c.animated_frame_count-frames.ensures

few : (c : After-animated_frame_count-frames) → c.animated_frame_count-frames.result < 16
few c =
    let a = c.args in
    let p : c.animated_frame_count-frames.result ≤ a.most =
    subst (λ (n : ℕ). n ≤ a.most) (sym c.animated_frame_count-frames.ensures)
    (at_most a.most c.new-layout.result.total_bytes (length a.bytes.now - a.h.data_offset)) in
    omega (arith, c.requires.0)

inside : (c : After-animated_frame_count-frames)
    → let a = c.args in
    a.h.data_offset + (1 + c.animated_frame_count-frames.result) * plane_of (parsed a.h) ≤ length a.bytes.now
inside c =
    let a = c.args in
    frames-there a.most a.bytes.now (parsed a.h) (1 + c.animated_frame_count-frames.result) (count-is c) c.requires.1

pub overflow_add-frames : goal.overflow_add-frames
overflow_add-frames c = omega (arith, few c)

pub overflow_mul-need : goal.overflow_mul-need
overflow_mul-need c =
    let a = c.args in
    let p : a.h.data_offset + (1 + c.animated_frame_count-frames.result) * c.new-layout.result.total_bytes ≤ length a.bytes.now =
    subst (λ (n : ℕ). a.h.data_offset + (1 + c.animated_frame_count-frames.result) * n ≤ length a.bytes.now) (sym (plane-is c))
    (inside c) in
    omega (arith, p, c.well_formed)

pub returns-then-out-need : goal.returns-then-out-need
returns-then-out-need c =
    let a = c.args in
    rw c.new.ensures
    (too_short a.most a.format a.bytes.now (parsed a.h) (1 + c.animated_frame_count-frames.result) a.out.now (count-is (goal.at.returns-then-out-need c).After-animated_frame_count-frames)
    c.requires.1
    (subst (λ (n : ℕ). length a.out.now < (1 + c.animated_frame_count-frames.result) * n) (plane-is (goal.at.returns-then-out-need c).After-animated_frame_count-frames) c.if-out-need.true))

room : (c : Else-out-need)
    → let a = c.args in
    (1 + c.animated_frame_count-frames.result) * plane_of (parsed a.h) ≤ length a.out.now
room c =
    let a = c.args in
    subst (λ (n : ℕ). (1 + c.animated_frame_count-frames.result) * n ≤ length a.out.now) (ap (λ (l : PlaneLayout). l.total_bytes) c.new-layout.ensures) c.if-out-need.false

pub write_planes-requires : goal.write_planes-requires
write_planes-requires c = (inside (goal.at.write_planes-requires c).After-animated_frame_count-frames, room (goal.at.write_planes-requires c).Else-out-need)

pub overflow_cast-result : goal.overflow_cast-result
overflow_cast-result c = omega (arith, few (goal.at.overflow_cast-result c).After-animated_frame_count-frames)

pub returns : goal.returns
returns c =
    let a = c.args in
    long-enough a.most a.format a.bytes.now (parsed a.h) (1 + c.animated_frame_count-frames.result) a.out.now (count-is (goal.at.returns c).After-animated_frame_count-frames)
    c.requires.1
    (room (goal.at.returns c).Else-out-need) _ c.write_planes.ensures _ (ap (λ (n : ℕ). (1 + c.animated_frame_count-frames.result) * n) (plane-is (goal.at.returns c).After-animated_frame_count-frames))
