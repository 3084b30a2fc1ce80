-- Scans end to end: the loop of `put_scans`.
use Prim.Native.Nat.{ℕ, suc, ◌+◌, ◌-◌, ◌*◌, ◌≤◌, ◌<◌}
use mathlib.Core.Path.{◌≡◌, refl, sym, ap, subst, ◌∙◌}
use mathlib.Core.Bool.{false}
use mathlib.Core.List.{List, ◌++◌}
use native.Mathlib.Nat.{mul_comm, mul-le-mul_left, mul-le-mul_right}
use native.Mathlib.Numerals.{add-one}
use native.Mathlib.Omega.{arith}
use borrow.Rule.Slice.PartMut.{mid_of, put_mid}
use lib.IntN.{ℤ}
use lib.ListN.{length, take, drop, length-drop}
use lib.Seq.{sets, length-sets, take_all}
use Rattle.std.proofs.Common.{Result}
use Rattle.std.specs.Result.{IsOk}
use Rattle.error.specs.declared.WbmpError.{WbmpError}
use Rattle.error.specs.Answer.{Answer, gives, map, written}
use Rattle.error.specs.Emits.{Emits}
use Rattle.laws.proofs.Runs.{sets-append, sets-front, emits-part}
use Rattle.image.specs.Geometry.{row_bytes, plane_bytes}
use Rattle.options.specs.declared.Quantize.{Quantize}
use Rattle.rules.specs.Rule.{Rule, carries, rule_named, rule_given}
use Rattle.quantize.specs.Finished.{setting, finished}
use Rattle.quantize.specs.Whole.{quantized, Quantizes}
use Rattle.quantize.proofs.WholePlanes.{given-rule, plane-long}
use Rattle.quantize.proofs.FramesJoined.{scans-none, scans-long, scans-more}
use Rattle.encoder.specs.Make.{scan_bytes}
use Rattle.encoder.specs.Internal.Scans.{PutsScans}
use Rattle.encoder.proofs.ScanTests.{Passed}
use Rattle.encoder.proofs.Written.{is-written}

-- a plane is no longer than its scan, and so many are no longer than their scans
pub planes-le : (n w h : ℕ) → 0 < w → n * plane_bytes w h ≤ n * (w * h)
planes-le n w h p = mul-le-mul_left n (mul-le-mul_right h (omega arith))

-- nothing refuses a scan that is there
module _ {ceiling : ℕ} {asked : Quantize} {w h n gray work : ℕ} (p : Passed ceiling asked w h n gray work) where
  pub plane-given : (samples : List ℕ) → w * h ≤ length samples
      → quantized asked w h samples work ≡ gives (finished (setting (rule_given (rule_named asked)) w h 1) (take (w * h) samples))
  unfolding quantized
  plane-given samples l =
      let wide = p.sized.wide in
      let high = p.sized.high in
      ap (map (λ (r : Rule). finished (setting r w h 1) (take (w * h) samples)))
      (given-rule asked w h (length samples) work (λ z. omega arith) (λ z. omega arith) p.known p.room l)

-- the scans before k are made
pub record Scanning (asked : Quantize) (w h count : ℕ) (gray : List ℕ) (work₀ : List ℤ) (out₀ : List ℕ) (area plane : ℕ) (work : List ℤ)
    (out : List ℕ) (k : ℕ) : Type 0 where
  pub passed : Passed 16 asked w h count (length gray) (length work₀)
  pub area_is : area ≡ w * h
  pub plane_is : plane ≡ plane_bytes w h
  pub room : count * plane_bytes w h ≤ length out₀
  pub within : k ≤ count
  pub now_is : out ≡ sets out₀ 0 (scan_bytes (rule_given (rule_named asked)) w h gray k)
  pub work_long : length work ≡ length work₀
  pub beyond : drop w work ≡ drop w work₀
  pub spared : carries (rule_given (rule_named asked)) ≡ false → work ≡ work₀

pub begun : (asked : Quantize) (w h count : ℕ) (gray : List ℕ) (work : List ℤ) (out : List ℕ) (plane : ℕ)
    → Passed 16 asked w h count (length gray) (length work) → plane ≡ plane_bytes w h → count * plane_bytes w h ≤ length out
    → Scanning asked w h count gray work out (w * h) plane work out 0
begun asked w h count gray work out plane p e r =
    record {
      passed = p;
      area_is = refl;
      plane_is = e;
      room = r;
      within = omega arith;
      now_is = ap (sets out 0) (sym (scans-none (rule_given (rule_named asked)) w h gray p.sized.wide p.sized.high));
      work_long = refl;
      beyond = refl;
      spared = λ _. refl;
    }

module _ {asked : Quantize} {w h count : ℕ} {gray : List ℕ} {work₀ : List ℤ} {out₀ : List ℕ}
    {area plane : ℕ} {work : List ℤ} {out : List ℕ} {k : ℕ}
    (c : Scanning asked w h count gray work₀ out₀ area plane work out k) where
  abbrev rule : Rule
  rule = rule_given (rule_named asked)

  abbrev made : List ℕ
  made = scan_bytes rule w h gray k

  pub out-long : length out ≡ length out₀
  out-long = ap length c.now_is ∙ length-sets out₀ 0 made

  -- scan k is among the samples, and its plane in the output
  pub next-in : k < count → (k * area + area ≤ length gray) × (k * plane + plane ≤ length out)
  next-in l =
      let a : suc k * area ≤ count * area = mul-le-mul_right area l in
      let b : suc k * plane ≤ count * plane = mul-le-mul_right plane l in
      let p : count * area ≤ length gray = rw c.area_is c.passed.enough in
      let q : count * plane ≤ length out₀ = rw c.plane_is c.room in
      let o = out-long in
      (omega arith, omega arith)

  there : k ≤ count → k * (w * h) ≤ length gray
  there l = let a : k * (w * h) ≤ count * (w * h) = mul-le-mul_right (w * h) l in omega (arith, c.passed.enough)

  -- scan k, and where its plane goes
  module _ (from to : ℕ) (l : k < count) (f : from ≡ k * area) (t : to ≡ k * plane) where
    abbrev samples : List ℕ
    samples = drop (k * (w * h)) gray

    abbrev v : List ℕ
    v = finished (setting rule w h 1) (take (w * h) samples)

    abbrev lent : List ℕ
    lent = take (length gray - from) (drop from gray)

    enough : w * h ≤ length samples
    enough =
        let i = next-in l in
        rw (length-drop (k * (w * h)) gray) (omega (arith, i.0, c.area_is, ap (λ (a : ℕ). k * a) c.area_is))

    given : quantized asked w h lent (length work) ≡ gives v
    given =
        let i = next-in l in
        let m : from ≡ k * (w * h) = f ∙ ap (λ (a : ℕ). k * a) c.area_is in
        let source : lent ≡ samples =
        take_all (length gray - from) (drop from gray) (rw (length-drop from gray) (omega arith)) ∙ ap (λ (a : ℕ). drop a gray) m in
        ap (λ (s : List ℕ). quantized asked w h s (length work)) source
        ∙ ap (quantized asked w h samples) c.work_long
        ∙ plane-given c.passed samples enough

    fits : to + length v ≤ length out
    fits =
        let i = next-in l in
        let long : length v ≡ plane_bytes w h =
        plane-long rule w h c.passed.sized.wide c.passed.sized.high samples enough ∙ mul_comm h (row_bytes w) in
        omega (arith, i.1, c.plane_is)

    module _ (r : Answer ℕ) (new : List ℕ) (work' : List ℤ)
        (q : Quantizes asked w h lent (mid_of to (length out - to) out) work r new work') where
      pub emits-scan : Emits (gives v) r (mid_of to (length out - to) out) new
      emits-scan = subst (λ (a : Answer (List ℕ)). Emits a r (mid_of to (length out - to) out) new) given q.emits

      pub scanned : length work' ≡ length work
          → Scanning asked w h count gray work₀ out₀ area plane work' (put_mid to (length out - to) out new) (k + 1)
      scanned n =
          let place : k * plane ≡ k * plane_bytes w h = ap (λ (a : ℕ). k * a) c.plane_is in
          let front : to ≡ 0 + length made =
          omega (arith, scans-long rule w h gray c.passed.sized.wide c.passed.sized.high k (there c.within)) in
          record {
            passed = c.passed;
            area_is = c.area_is;
            plane_is = c.plane_is;
            room = c.room;
            within = omega arith;
            now_is =
                emits-part to out v new r fits emits-scan
                ∙ ap (λ (p : ℕ). sets out p v) front
                ∙ ap (λ (o : List ℕ). sets o (0 + length made) v) c.now_is
                ∙ sets-append out₀ 0 made v
                ∙ ap (sets out₀ 0) (sym (scans-more rule w h gray c.passed.sized.wide c.passed.sized.high k (there c.within))
                ∙ ap (scan_bytes rule w h gray) (sym (add-one k)));
            work_long = n ∙ c.work_long;
            beyond = q.beyond ∙ c.beyond;
            spared = λ d. q.spared d ∙ c.spared d;
          }

    -- no scan is refused
    pub scan-made : (r : Result ℕ WbmpError) (new : List ℕ) (work' : List ℤ)
        → Quantizes asked w h lent (mid_of to (length out - to) out) work (written r) new work' → IsOk r
    scan-made r new work' q = is-written v r to out new fits (emits-scan (written r) new work' q)

  pub ended : count ≤ k → PutsScans rule w h count gray out₀ work₀ out work
  ended l =
      let e : k ≡ count = omega (arith, c.within) in
      let all = scan_bytes rule w h gray count in
      let n : length all ≡ count * plane_bytes w h =
      scans-long rule w h gray c.passed.sized.wide c.passed.sized.high count c.passed.enough in
      record {
        bytes =
            c.now_is ∙ ap (λ (k : ℕ). sets out₀ 0 (scan_bytes rule w h gray k)) e
            ∙ sets-front out₀ all (omega (arith, c.room))
            ∙ ap (λ (i : ℕ). all ++ drop i out₀) n;
        beyond = c.beyond;
        spared = c.spared;
      }
