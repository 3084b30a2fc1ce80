-- Whole planes: the refusals in their order, and that one frame takes all of its samples.
-- Assumes nothing.
use Rattle.std.proofs.Common.{Err}
use Rattle.error.specs.declared.Fed.{Fed}
use Rattle.error.specs.declared.WbmpError.{WbmpError}
use Prim.Native.Nat.{ℕ, ◌+◌, ◌-◌, ◌*◌, ◌≤◌, ◌<◌, min}
use mathlib.Core.Path.{◌≡◌, refl, sym, ap, ap₂, ◌∙◌, subst}
use mathlib.Core.Bool.{Bool, true, false, ◌||◌}
use mathlib.Core.Logic.{inl}
use mathlib.Core.List.{List, [], ◌++◌}
use native.Mathlib.Nat.{zero-mul, add-zero, zero-add, one-mul, mul_comm}
use native.Mathlib.Omega.{arith}
use borrow.Author.Tests.{ne_eqb, eqb-false, le-leb, leb-true}
use lib.Dec.{eqb, leb}
use lib.IntN.{ℤ}
use lib.ListN.{length, take, drop, length-take}
use Rattle.error.specs.Choice.{if}
use Rattle.error.specs.Answer.{Answer, gives, refuses, map, number, refusal, checked, written}
use Rattle.error.specs.Emits.{Emits, emitted, output}
use Rattle.laws.proofs.Tests.{if-true, zero_one}
use Rattle.laws.proofs.Writers.{emits_none, emits-all}
use Rattle.options.specs.declared.Quantize.{Quantize}
use Rattle.image.specs.Geometry.{row_bytes, plane_bytes}
use Rattle.quantize.specs.declared.engine.Quantizer.{Quantizer}
use Rattle.quantize.specs.Finished.{Setting, count, dot_of, finished, takes, setting}
use Rattle.rules.specs.Packed.{byte_at}
use Rattle.rules.specs.Rule.{Rule, known_rule, carries, enough_work, rule_named, rule_given}
use Rattle.rules.specs.Internal.Planes.{plane, plane_where}
use Rattle.quantize.specs.Internal.Engine.{NewQuantizer, QuantizerAfter, Runs}
use Rattle.quantize.specs.Whole.{check_scan, scan_checked, quantized, Quantizes}
use Rattle.quantize.proofs.Places.{count-rows}
use Rattle.quantize.proofs.TakenMost.{most-is}
use Rattle.rules.proofs.PlaneWritten.{plane-in}
use Rattle.rules.proofs.RuleAsked.{named-if, known-named}
use Rattle.rules.proofs.UptoList.{length-upto}

-- ---- the refusals

module _ (asked : Quantize) (w h gray work : ℕ) where
  abbrev rule : Rule
  rule = rule_given (rule_named asked)

  -- no width, no height, a known rule, enough work, enough samples
  abbrev tests : Bool → Bool → Bool → Bool → Bool → Answer Rule
  tests a b c d f = if (a || b) (refuses 8 0) (if c (if d (if f (gives rule) (refuses 22 0)) (refuses 28 0)) (refuses 29 0))

  check-is : check_scan asked w h gray work ≡ tests (eqb w 0) (eqb h 0) (known_rule asked) (enough_work rule w work) (leb (w * h) gray)
  check-is =
      ap (λ (a : Answer Rule). if (eqb w 0 || eqb h 0) (refuses 8 0) a)
      (named-if asked (λ (r : Rule). if (enough_work r w work) (if (leb (w * h) gray) (gives r) (refuses 22 0)) (refuses 28 0)))

  by_tests : (a b c d f : Bool) → eqb w 0 ≡ a → eqb h 0 ≡ b → known_rule asked ≡ c → enough_work rule w work ≡ d → leb (w * h) gray ≡ f
      → check_scan asked w h gray work ≡ tests a b c d f
  by_tests a b c d f p q r s t =
      check-is
      ∙ ap₂ (λ (x y : Bool). tests x y (known_rule asked) (enough_work rule w work) (leb (w * h) gray)) p q
      ∙ ap₂ (λ (x y : Bool). tests a b x y (leb (w * h) gray)) r s
      ∙ ap (λ (x : Bool). tests a b c d x) t

  module _ (pw : w ≡ 0 → ⊥) (ph : h ≡ 0 → ⊥) (known : known_rule asked ≡ true) (room : enough_work rule w work ≡ true) where
    pub given-rule : w * h ≤ gray → check_scan asked w h gray work ≡ gives rule
    given-rule l =
        by_tests false false true true true (ne_eqb w 0 pw) (ne_eqb h 0 ph) known room (le-leb (w * h) gray l)

  -- where nothing is refused, all tests passed
  pub record Passed : Type 0 where
    pub wide : 0 < w
    pub high : 0 < h
    pub known : known_rule asked ≡ true
    pub room : enough_work rule w work ≡ true
    pub enough : w * h ≤ gray

  abbrev nothing : Rule → Unit {0}
  nothing r = tt

  pub passed : scan_checked asked w h gray work ≡ gives tt → Passed
  passed e =
      go (eqb w 0) (eqb h 0) (known_rule asked) (enough_work rule w work) (leb (w * h) gray) refl refl refl refl refl
      (sym (ap (map nothing) check-is) ∙ e)
    where
      go : (a b c d f : Bool) → eqb w 0 ≡ a → eqb h 0 ≡ b → known_rule asked ≡ c → enough_work rule w work ≡ d → leb (w * h) gray ≡ f
          → map nothing (tests a b c d f) ≡ gives tt → Passed
      go true b c d f p q r s t z = zero_one (cc)
      go false true c d f p q r s t z = zero_one (cc)
      go false false false d f p q r s t z = zero_one (cc)
      go false false true false f p q r s t z = zero_one (cc)
      go false false true true false p q r s t z = zero_one (cc)
      go false false true true true p q r s t z =
          let l = eqb-false w 0 p in
          let m = eqb-false h 0 q in
          record { wide = omega (arith, l); high = omega (arith, m); known = r; room = s; enough = leb-true (w * h) gray t }

-- ---- one frame

module _ (rule : Rule) (w h : ℕ) (wide : 0 < w) (high : 0 < h) where
  abbrev s : Setting
  s = setting rule w h 1

  count_none : count s 0 ≡ 0
  count_none = let e : 0 ≡ 0 * w + 0 = rw zero-mul in ap (count s) e ∙ count-rows s 0 wide ∙ zero-mul (row_bytes w)

  pub count-all : count s (w * h) ≡ h * row_bytes w
  count-all =
      let e : w * h ≡ h * w + 0 = rw add-zero (mul_comm w h) in
      ap (count s) e ∙ count-rows s h wide

  pub takes-plane : (gray room : ℕ) → w * h ≤ gray → h * row_bytes w ≤ room → takes s 0 gray room ≡ w * h
  unfolding takes
  takes-plane gray room g r =
      let t : 1 * h * w ≡ w * h = rw one-mul (mul_comm h w) in
      let k : min gray (1 * h * w - 0) ≡ w * h = omega arith in
      let c = count-all in
      let z : 0 + w * h ≡ w * h = zero-add (w * h) in
      rw k (most-is s 0 room (w * h) (w * h) wide (omega arith) (rw z (omega arith)) (inl refl))

  pub plane-long : (gray : List ℕ) → w * h ≤ length gray → length (finished s (take (w * h) gray)) ≡ h * row_bytes w
  unfolding finished
  plane-long gray g =
      let l : length (take (w * h) gray) ≡ w * h = length-take (w * h) gray ∙ omega arith in
      length-upto (byte_at w (dot_of s (take (w * h) gray))) (count s (length (take (w * h) gray))) ∙ ap (count s) l ∙ count-all

  none-finished : length (finished s []) ≡ 0
  unfolding finished
  none-finished = length-upto (byte_at w (dot_of s [])) (count s 0) ∙ count_none

-- ---- the answers

module _ (asked : Quantize) (w h : ℕ) (gray out : List ℕ) (work : List ℤ) where
  abbrev named : Rule
  named = rule_given (rule_named asked)

  abbrev plane_of : Rule → List ℕ
  plane_of r = finished (setting r w h 1) (take (w * h) gray)

  refused-is : (x : Answer Rule) (code place : ℕ) → ◌≡◌ {A = Answer (Unit {0})} (map (λ r. tt) x) (refuses code place) → map plane_of x ≡ refuses code place
  refused-is (gives r) code place e = zero_one (cc)
  refused-is (refuses c p) code place e = cc

  -- nothing is altered
  unmade : (r : Answer ℕ) → Emits (quantized asked w h gray (length work)) r out out → Quantizes asked w h gray out work r out work
  unmade r e = record { emits = e; beyond = refl; spared = λ _. refl; refused = λ _ _ _. refl }

  pub quantizes-refused : (e : WbmpError) → checked (Err e) ≡ scan_checked asked w h (length gray) (length work)
      → Quantizes asked w h gray out work (written (Err e)) out work
  unfolding quantized
  quantizes-refused e f =
      let q = refused-is (check_scan asked w h (length gray) (length work)) (number e.kind) e.offset (sym f) in
      unmade (refusal e) (record { answer = ap (λ (a : Answer (List ℕ)). emitted a out) (sym q); bytes = ap (λ (a : Answer (List ℕ)). output a out) (sym q) })

  module _ (z : scan_checked asked w h (length gray) (length work) ≡ gives tt) where
    p : Passed asked w h (length gray) (length work)
    p = passed asked w h (length gray) (length work) z

    given_is : quantized asked w h gray (length work) ≡ gives (plane_of named)
    unfolding quantized
    given_is =
        ap (map plane_of)
        (given-rule asked w h (length gray) (length work) (λ y. omega (arith, p.wide)) (λ y. omega (arith, p.high)) p.known p.room
        p.enough)

    pub quantizes-short : length out < plane_bytes w h → Quantizes asked w h gray out work (refuses 25 0) out work
    quantizes-short l =
        let k = plane-long named w h p.wide p.high gray p.enough in
        let m = mul_comm (row_bytes w) h in
        unmade (refuses 25 0) (subst (λ (a : Answer (List ℕ)). Emits a (refuses 25 0) out out) (sym given_is) (emits_none _ out (omega arith)))

    -- a plane that was written at once, whatever gives its dots
    pub quantizes-plane : row_bytes w * h ≤ length out → (d : ℕ → ℕ) (out' : List ℕ) (work' : List ℤ)
        → plane_of named ≡ plane w h d → out' ≡ plane_where w h d (length gray) out
        → drop w work' ≡ drop w work → (carries named ≡ false → work' ≡ work)
        → Quantizes asked w h gray out work (gives (row_bytes w * h)) out' work'
    quantizes-plane l d out' work' f o b c =
        let k = plane-long named w h p.wide p.high gray p.enough in
        let m = mul_comm (row_bytes w) h in
        record {
          emits = subst (λ (a : Answer (List ℕ)). Emits a (gives (row_bytes w * h)) out out') (sym given_is)
              (emits-all _ out out' (row_bytes w * h) (omega arith) (m ∙ sym k)
              (o
              ∙ plane-in w h d (length gray) out (p.enough, omega arith)
              ∙ ap₂ (λ (x : List ℕ) (n : ℕ). x ++ drop n out) (sym f) (sym k)));
          beyond = b;
          spared = c;
          refused = λ code place f. zero_one (cc);
        }

    module _ (l : row_bytes w * h ≤ length out) (q : Quantizer) (o : NewQuantizer asked w h 1 q) (q' : Quantizer) (r : Fed)
        (out' : List ℕ) (work' : List ℤ)
        (R : Runs q gray out work q' r out' work') where
      abbrev sp : Setting
      sp = setting named w h 1

      H : QuantizerAfter q work sp []
      H = o.holds named (known-named asked p.known) p.wide p.high work

      long : length (finished sp (take (w * h) gray)) ≡ h * row_bytes w
      long = plane-long named w h p.wide p.high gray p.enough

      fits : h * row_bytes w ≤ length out
      fits = let m = mul_comm (row_bytes w) h in omega arith

      taken_is : r.taken ≡ w * h
      taken_is =
          (R.counts sp 0 H.stands).taken ∙ if-true _ _ _ p.room
          ∙ takes-plane named w h p.wide p.high (length gray) (length out) p.enough fits

      written_is : r.written ≡ h * row_bytes w
      written_is =
          let c = (R.counts sp 0 H.stands).written in
          let a = count_none named w h p.wide p.high in
          let b : count sp (0 + r.taken) ≡ h * row_bytes w = rw (zero-add, taken_is) (count-all named w h p.wide p.high) in
          omega arith

      bytes-are : out' ≡ finished sp (take (w * h) gray) ++ drop (length (finished sp (take (w * h) gray))) out
      bytes-are = (R.defined sp [] H).bytes ∙ rw (none-finished named w h p.wide p.high, taken_is, written_is, long)

      pub quantizes-all : Quantizes asked w h gray out work (gives (row_bytes w * h)) out' work'
      quantizes-all =
          let m = mul_comm (row_bytes w) h in
          record {
            emits = subst (λ (a : Answer (List ℕ)). Emits a (gives (row_bytes w * h)) out out') (sym given_is)
                (emits-all _ out out' (row_bytes w * h) (omega (arith, long, fits)) (m ∙ sym long) bytes-are);
            beyond = subst (λ (n : ℕ). drop n work' ≡ drop n work) (sym H.stands.width) R.beyond;
            spared = λ n. R.spared (rw o.rule_is n);
            refused = λ code place f. zero_one (cc);
          }
