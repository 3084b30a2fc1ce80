-- What holds of every machine that calls reach.
-- Assumes nothing.
use Prim.Native.Nat.{ℕ, zero, suc, ◌*◌, ◌/◌, ◌%◌, ◌≤◌, ◌<◌}
use mathlib.Core.Path.{◌≡◌, refl, sym, ap, ◌∙◌, subst}
use mathlib.Core.Bool.{true, false, ◌&&◌}
use mathlib.Core.List.{List, [], ◌∷◌, ◌++◌}
use native.Mathlib.Nat.{mul-pos, mul_comm, mul_assoc, zero-mul, div-add-mod', div-le_of_le-mul}
use native.Mathlib.Omega.{arith}
use borrow.Author.Tests.{ltb-true, eqb-true}
use lib.Dec.{ltb, eqb}
use lib.ListN.{length, length-append}
use lib.Seq.{length-take-le}
use Rattle.laws.proofs.Tests.{both_true}
use Rattle.quantize.specs.Finished.{takes}
use Rattle.quantize.proofs.FinishedGrows.{takes-le, takes-within}
use Rattle.encode_session.specs.Model.{Opening, setting_of, Model, opened, Call, feed, close, taken, is_whole, Outcome, outcome}
use Rattle.encode_session.specs.Model.{finally}
use Rattle.encode_session.proofs.OutcomeCases.{by-feed, by-close}

-- the opening stays, no sample is past the last frame, and a closed machine has whole frames
pub record Reached (a : Opening) (m : Model) : Type 0 where
  pub same : m.opening ≡ a
  pub few : length m.samples ≤ 16 * m.opening.height * m.opening.width
  pub whole : m.live ≡ false → is_whole m ≡ true

taken-few : (m : Model) (xs : List ℕ) (room : ℕ) → length m.samples ≤ 16 * m.opening.height * m.opening.width
    → length (m.samples ++ taken m xs room) ≤ 16 * m.opening.height * m.opening.width
unfolding taken
taken-few m xs room h =
    let s = setting_of m.opening in
    let n = length m.samples in
    rw (length-append, length-take-le (takes s n (length xs) room) xs (takes-le s n (length xs) room)) (takes-within s n (length xs) room h)

pub reached-next : (a : Opening) (m : Model) (c : Call) → Reached a m → Reached a (outcome m c).next
reached-next a m (feed xs out work) r =
    by-feed m xs out work (λ (x : Outcome). Reached a x.next) r r
    (record { same = r.same; few = taken-few m xs (length out) r.few; whole = λ f. cc })
reached-next a m close r =
    by-close m (λ (x : Outcome). Reached a x.next) r r (λ k. record { same = r.same; few = r.few; whole = λ _. k })

pub reached-start : (a : Opening) → Reached a (opened a)
reached-start a = record { same = refl; few = omega arith; whole = λ f. cc }

pub reached : (a : Opening) (m : Model) (cs : List Call) → Reached a m → Reached a (finally m cs)
unfolding finally
reached a m [] r = r
reached a m (c ∷ cs) r = reached a (outcome m c).next cs (reached-next a m c r)

-- ---- whole frames

-- n samples are so many frames, 1 to 16
pub record Frames (a : Opening) (n : ℕ) : Type 0 where
  pub count : ℕ
  pub some : 1 ≤ count
  pub most : count ≤ 16
  pub all : n ≡ count * (a.width * a.height)

frames-of : (w h n : ℕ) → 0 < w * h → n ≤ 16 * h * w → (ltb 0 n && eqb (n % (w * h)) 0) ≡ true
    → (1 ≤ n / (w * h)) × (n / (w * h) ≤ 16) × (n ≡ n / (w * h) * (w * h))
frames-of w h n area few e =
    let b = both_true (ltb 0 n) (eqb (n % (w * h)) 0) e in
    let p = ltb-true 0 n b.0 in
    let q = eqb-true (n % (w * h)) 0 b.1 in
    let all : n ≡ n / (w * h) * (w * h) = sym (omega (arith, div-add-mod' n (w * h))) in
    let le : n ≤ w * h * 16 =
    let u : 16 * h * w ≡ w * h * 16 = mul_comm (16 * h) w ∙ ap (λ (k : ℕ). w * k) (mul_comm 16 h) ∙ sym (mul_assoc w h 16) in omega arith in
    (some (n / (w * h)) p all, div-le_of_le-mul (w * h) le, all)
  where
    some : (k : ℕ) → 0 < n → n ≡ k * (w * h) → 1 ≤ k
    some zero p all = let z : n ≡ 0 = all ∙ zero-mul (w * h) in omega arith
    some (suc k) p all = omega arith

pub whole-frames : (a : Opening) (m : Model) → Reached a m → 0 < a.width → 0 < a.height → m.live ≡ false → Frames a (length m.samples)
whole-frames a m r wide high l = subst (λ (x : Opening). Frames x (length m.samples)) r.same here
  where
    here : Frames m.opening (length m.samples)
    here =
        let w = m.opening.width in
        let h = m.opening.height in
        let n = length m.samples in
        let pw : 0 < w = subst (λ (x : Opening). 0 < x.width) (sym r.same) wide in
        let ph : 0 < h = subst (λ (x : Opening). 0 < x.height) (sym r.same) high in
        let f = frames-of w h n (mul-pos pw ph) r.few (r.whole l) in
        record { count = n / (w * h); some = f.0; most = f.1; all = f.2 }
