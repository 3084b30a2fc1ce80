-- What a run leaves as it was, on any session.
use Rattle.std.proofs.Common.{Result, Ok, Err}
use Prim.Native.Nat.{ℕ, ◌+◌, ◌-◌, ◌*◌}
use mathlib.Core.Path.{◌≡◌, refl, sym, ap, ◌∙◌}
use mathlib.Core.List.{List}
use native.Mathlib.Omega.{arith}
use lib.ListN.{length, drop, length-append}
use lib.Seq.{drop_at, drop-drop}
use Rattle.error.specs.declared.Fed.{Fed}
use Rattle.error.specs.declared.WbmpError.{WbmpError}
use Rattle.replay.specs.declared.call.Named.{Named}
use Rattle.replay.specs.declared.call.Named.TheVariants.{Close, Feed}
use Rattle.replay.specs.Calls.{room_of, lent_of, room_in, Within, over, Spares, three_of}
use Rattle.replay.specs.Run.{Calls, Runs, ended, goes, Ran}

pub three-long : (r : Result Fed WbmpError) → length (three_of r) ≡ 3
three-long (Ok f) = refl
three-long (Err e) = refl

-- behind what is written over the front of a list
behind : (front whole : List ℕ) (n : ℕ) → length front ≡ n → drop n (over front whole) ≡ drop n whole
behind front whole n e =
    drop_at front (drop (length front) whole) n e ∙ ap (λ (k : ℕ). drop k whole) e

module _ {S W : Type 0} (feeds : S → List ℕ → List ℕ → List W → Result Fed WbmpError → S → List ℕ → List W → Type 0)
    (closes : S → Result Fed WbmpError → S → Type 0) (samples : List ℕ) where
  module _ (s s' : S) (out part : List ℕ) (work work' : List W) (r : Result Fed WbmpError) where
    pub part-long : (c : Named) → Calls feeds closes samples c s out work r s' part work' → length part ≡ room_of c
    part-long Close C = ap length C.part_is
    part-long (Feed p) F = F.part_long

    call-spares : (c : Named) → Calls feeds closes samples c s out work r s' part work' → drop (lent_of c) work' ≡ drop (lent_of c) work
    call-spares Close C = C.work_is
    call-spares (Feed p) F = ap (drop p.lent) F.work_is ∙ drop_at F.front (drop p.lent work) p.lent F.front_long

  written-long : {cs : List Named} {s s' : S} {out told written : List ℕ} {work work' : List W}
      → Runs feeds closes samples cs s out work s' told written work' → length written ≡ room_in cs
  unfolding room_in
  written-long ended = refl
  written-long (goes {c} r next part told written left C rest) =
      let p = part-long _ _ _ _ _ _ _ c C in
      let q = written-long rest in
      length-append part written ∙ omega arith

  told-long : {cs : List Named} {s s' : S} {out told written : List ℕ} {work work' : List W}
      → Runs feeds closes samples cs s out work s' told written work' → length told ≡ 3 * length cs
  told-long ended = refl
  told-long (goes r next part told written left C rest) =
      let p = three-long r in
      let q = told-long rest in
      length-append (three_of r) told ∙ omega arith

  work-spared : (n : ℕ) {cs : List Named} {s s' : S} {out told written : List ℕ} {work work' : List W}
      → Runs feeds closes samples cs s out work s' told written work' → Within n cs → drop n work' ≡ drop n work
  unfolding Within
  work-spared n ended w = refl
  work-spared n (goes {c} {work = work} r next part told written left C rest) w =
      let k = w.0 in
      let e : lent_of c + (n - lent_of c) ≡ n = omega arith in
      work-spared n rest w.1
      ∙ ap (λ (i : ℕ). drop i left) (sym e)
      ∙ sym (drop-drop (n - lent_of c) (lent_of c) left)
      ∙ ap (drop (n - lent_of c)) (call-spares _ _ _ _ _ _ _ c C)
      ∙ drop-drop (n - lent_of c) (lent_of c) work
      ∙ ap (λ (i : ℕ). drop i work) e

  pub spares : (cs : List Named) (s : S) (out : List ℕ) (work : List W) (answers : List ℕ) (n : ℕ) (s' : S) (out' : List ℕ)
      (work' : List W) (answers' : List ℕ) → Ran feeds closes samples cs s out work answers n s' out' work' answers'
      → Spares cs n out answers work out' answers' work'
  spares cs s out work answers n s' out' work' answers' R =
      record {
        made = R.made;
        out_same = ap (drop (room_in cs)) R.out_is ∙ behind R.written out (room_in cs) (written-long R.runs);
        answers_same = ap (drop (3 * length cs)) R.answers_is ∙ behind R.told answers (3 * length cs) (told-long R.runs);
        work_same = λ n w. work-spared n R.runs w;
      }
