-- The loop of a run, on any session.
use Rattle.std.proofs.Common.{Result}
use Rattle.std.proofs.lemmas.List.{take_rest}
use Prim.Native.Nat.{ℕ, ◌+◌, ◌-◌, ◌*◌, ◌/◌, ◌≤◌, min}
use mathlib.Core.Path.{◌≡◌, refl, sym, ap, subst, ◌∙◌}
use mathlib.Core.Bool.{Bool, true, false}
use mathlib.Core.List.{List, [], ◌∷◌, ◌++◌, append_assoc, append-nil}
use native.Mathlib.Omega.{arith}
use borrow.Author.Tests.{leb-true, leb-false}
use borrow.Rule.Slice.PartMut.{put_mid, Post-is}
use lib.Dec.{leb}
use lib.ListN.{length, take, drop, length-append, length-drop}
use lib.Seq.{take_at, drop_at, drop-drop, drop-length}
use Rattle.error.specs.declared.Fed.{Fed}
use Rattle.error.specs.declared.WbmpError.{WbmpError}
use Rattle.replay.specs.declared.call.Named.{Named}
use Rattle.replay.specs.Calls.{room_of, named, over, Goes, three_of}
use Rattle.replay.specs.Run.{Calls, Makes, Runs, ended, goes, Ran}
use Rattle.replay.proofs.CallNamed.{few, no_room}
use Rattle.replay.proofs.RunSpared.{three-long, part-long}

-- ---- parts that are put back

put_rest : (l part : List ℕ) (n : ℕ) → n ≤ length l → put_mid n (length l - n) l part ≡ take n l ++ part
put_rest l part n h =
    ap (λ (x : List ℕ). take n l ++ (part ++ x)) (Post-is n (length l) l h ∙ drop-length l)
    ∙ ap (λ (x : List ℕ). take n l ++ x) (append-nil part)

put_next : (l l₀ front part : List ℕ) (n k : ℕ) → l ≡ front ++ drop n l₀ → length front ≡ n → length part ≡ k
    → put_mid n (n + k - n) l part ≡ (front ++ part) ++ drop (n + k) l₀
put_next l l₀ front part n k e h p =
    let a : take n l ≡ front = ap (take n) e ∙ take_at front (drop n l₀) n h in
    let b : drop n l ≡ drop n l₀ = ap (drop n) e ∙ drop_at front (drop n l₀) n h in
    let d : drop (n + k) l ≡ drop (n + k) l₀ = sym (drop-drop k n l) ∙ ap (drop k) b ∙ drop-drop k n l₀ in
    ap (λ (x : List ℕ). take n l ++ (part ++ x)) (Post-is n (n + k) l (omega arith) ∙ d)
    ∙ ap (λ (x : List ℕ). x ++ (part ++ drop (n + k) l₀)) a
    ∙ sym (append_assoc front part (drop (n + k) l₀))

-- ---- the run so far

module _ {S W : Type 0} (feeds : S → List ℕ → List ℕ → List W → Result Fed WbmpError → S → List ℕ → List W → Type 0)
    (closes : S → Result Fed WbmpError → S → Type 0) (samples calls : List ℕ) (s₀ : S) (out₀ : List ℕ) (work₀ : List W)
    (answers₀ : List ℕ) where
  abbrev pub all : List Named
  all = named calls (length samples) (length out₀) (length work₀) (length answers₀)

  -- the calls that are left
  abbrev pub rest_of : ℕ → ℕ → List Named
  rest_of made lent = named (drop (5 * made) calls) (length samples) (length out₀ - lent) (length work₀) (length answers₀ - 3 * made)

  pub record Sofar (s : S) (out : List ℕ) (work : List W) (answers : List ℕ) (made lent : ℕ) : Type 0 where
    pub told : List ℕ
    pub written : List ℕ
    pub told_long : length told ≡ 3 * made
    pub written_long : length written ≡ lent
    pub out_is : out ≡ written ++ drop lent out₀
    pub answers_is : answers ≡ told ++ drop (3 * made) answers₀
    pub count : made + length (rest_of made lent) ≡ length all
    -- with what the calls that are left do, all is done
    pub onward : (s' : S) (t w : List ℕ) (left : List W) → Runs feeds closes samples (rest_of made lent) s (drop lent out₀) work s' t w left
        → Runs feeds closes samples all s₀ out₀ work₀ s' (told ++ t) (written ++ w) left

  pub begun : Sofar s₀ out₀ work₀ answers₀ 0 0
  begun =
      let p : length out₀ - 0 ≡ length out₀ = omega arith in
      let q : length answers₀ - 0 ≡ length answers₀ = omega arith in
      let e : rest_of 0 0 ≡ all =
      ap (λ (n : ℕ). named calls (length samples) n (length work₀) (length answers₀ - 0)) p
      ∙ ap (λ (n : ℕ). named calls (length samples) (length out₀) (length work₀) n) q in
      record {
        told = [];
        written = [];
        told_long = refl;
        written_long = refl;
        out_is = refl;
        answers_is = refl;
        count = let l = ap length e in omega arith;
        onward = λ s' t w left r. subst (λ (cs : List Named). Runs feeds closes samples cs s₀ out₀ work₀ s' t w left) e r;
      }

  module _ (s : S) (out : List ℕ) (work : List W) (answers : List ℕ) (made lent : ℕ) (so : Sofar s out work answers made lent)
      (out_long : length out ≡ length out₀) (work_long : length work ≡ length work₀) (answers_long : length answers ≡ length answers₀) where
    pub lent_in : lent ≤ length out
    lent_in =
        let e = ap length so.out_is ∙ length-append so.written (drop lent out₀) in
        let f = so.written_long in
        omega arith

    -- the run ends
    pub stops : (n : ℕ) → n ≡ made → rest_of made lent ≡ []
        → Ran feeds closes samples all s₀ out₀ work₀ answers₀ n s out work answers
    stops n here e =
        let k = so.count in
        let l = ap length e in
        record {
          told = so.told;
          written = so.written;
          runs = rw (append-nil so.told, append-nil so.written) at (so.onward s [] [] work
              (subst (λ (cs : List Named). Runs feeds closes samples cs s (drop lent out₀) work s [] [] work) (sym e) ended));
          made = omega arith;
          out_is = so.out_is ∙ ap (λ (k : ℕ). so.written ++ drop k out₀) (sym so.written_long);
          answers_is = so.answers_is ∙ ap (λ (k : ℕ). so.told ++ drop k answers₀) (sym so.told_long);
        }

    -- the numbers from the next call on
    abbrev here : List ℕ
    here = take (length calls - 5 * made) (drop (5 * made) calls)

    pub ends-here : ((answers : ℕ) → named here (length samples) (length out - lent) (length work) answers ≡ []) → rest_of made lent ≡ []
    ends-here e =
        let p : length out - lent ≡ length out₀ - lent = omega arith in
        rw (← take_rest calls (5 * made), ← p, ← work_long) (e (length answers₀ - 3 * made))

    pub ends-all : min (length calls / 5) (length answers / 3) ≤ made → rest_of made lent ≡ []
    ends-all h = go (leb 5 (length (drop (5 * made) calls))) refl
      where
        go : (t : Bool) → leb 5 (length (drop (5 * made) calls)) ≡ t → rest_of made lent ≡ []
        go true e =
            let k = leb-true _ _ e in
            let l : length (drop (5 * made) calls) ≡ length calls - 5 * made = length-drop (5 * made) calls in
            no_room (length samples) (length out₀ - lent) (length work₀) (drop (5 * made) calls) (length answers₀ - 3 * made) (omega arith)
        go false e =
            few (length samples) (length out₀ - lent) (length work₀) (drop (5 * made) calls) (length answers₀ - 3 * made) (leb-false _ _ e)

    -- one call more
    module _ (c : Named) (goes-here : Goes here (length samples) (length out - lent) (length work) c)
        (room : 3 * made + 3 ≤ length answers) (r : Result Fed WbmpError) (s' : S) (left : List ℕ) (work' : List W) where
      g : Goes (drop (5 * made) calls) (length samples) (length out - lent) (length work) c
      g = subst (λ (l : List ℕ). Goes l (length samples) (length out - lent) (length work) c) (take_rest calls (5 * made)) goes-here

      next-is : rest_of made lent ≡ c ∷ rest_of (made + 1) (lent + room_of c)
      next-is =
          let p : length out - lent ≡ length out₀ - lent = omega arith in
          let n : length out - lent - room_of c ≡ length out₀ - (lent + room_of c) = omega arith in
          let a : length answers₀ - 3 * made - 3 ≡ length answers₀ - 3 * (made + 1) = omega arith in
          let f : 5 * made + 5 ≡ 5 * (made + 1) = omega arith in
          ap (λ (n : ℕ). named (drop (5 * made) calls) (length samples) n (length work₀) (length answers₀ - 3 * made)) (sym p)
          ∙ ap (λ (n : ℕ). named (drop (5 * made) calls) (length samples) (length out - lent) n (length answers₀ - 3 * made)) (sym work_long)
          ∙ g.is (length answers₀ - 3 * made) (omega arith)
          ∙ rw (drop-drop 5 (5 * made) calls, f, n, a, work_long)

      module _ (M : Makes feeds closes samples c s (take (length out - lent) (drop lent out)) work r s' left work') where
        -- what is left of the output is as it was
        left_is : take (length out - lent) (drop lent out) ≡ drop lent out₀
        left_is = take_rest out lent ∙ ap (drop lent) so.out_is ∙ drop_at so.written (drop lent out₀) lent so.written_long

        long : length M.part ≡ room_of c
        long = part-long feeds closes samples _ _ _ _ _ _ _ c M.calls

        calls-on : Calls feeds closes samples c s (drop lent out₀) work r s' M.part work'
        calls-on = subst (λ (o : List ℕ). Calls feeds closes samples c s o work r s' M.part work') left_is M.calls

        out-on : put_mid lent (length out - lent) out left ≡ (so.written ++ M.part) ++ drop (lent + room_of c) out₀
        out-on =
            put_rest out left lent lent_in
            ∙ ap (λ (x : List ℕ). x ++ left) (ap (take lent) so.out_is ∙ take_at so.written (drop lent out₀) lent so.written_long)
            ∙ ap (λ (x : List ℕ). so.written ++ x)
            (M.out_is
            ∙ ap (λ (o : List ℕ). over M.part o) left_is
            ∙ ap (λ (n : ℕ). M.part ++ drop n (drop lent out₀)) long
            ∙ ap (λ (x : List ℕ). M.part ++ x) (drop-drop (room_of c) lent out₀))
            ∙ sym (append_assoc so.written M.part (drop (lent + room_of c) out₀))

        answers-on : (three : List ℕ) → three ≡ three_of r
            → put_mid (3 * made) (3 * made + 3 - 3 * made) answers three ≡ (so.told ++ three_of r) ++ drop (3 * (made + 1)) answers₀
        answers-on three t =
            let n : 3 * made + 3 ≡ 3 * (made + 1) = omega arith in
            put_next answers answers₀ so.told three (3 * made) 3 so.answers_is so.told_long (ap length t ∙ three-long r)
            ∙ ap (λ (x : List ℕ). (so.told ++ x) ++ drop (3 * made + 3) answers₀) t
            ∙ ap (λ (k : ℕ). (so.told ++ three_of r) ++ drop k answers₀) n

        onward-on : (s'' : S) (t w : List ℕ) (end : List W)
            → Runs feeds closes samples (rest_of (made + 1) (lent + room_of c)) s' (drop (lent + room_of c) out₀) work' s'' t w end
            → Runs feeds closes samples all s₀ out₀ work₀ s'' ((so.told ++ three_of r) ++ t) ((so.written ++ M.part) ++ w) end
        onward-on s'' t w end q =
            let p : Runs feeds closes samples (rest_of (made + 1) (lent + room_of c)) s' (drop (room_of c) (drop lent out₀)) work' s'' t w end =
            subst (λ (o : List ℕ). Runs feeds closes samples (rest_of (made + 1) (lent + room_of c)) s' o work' s'' t w end)
            (sym (drop-drop (room_of c) lent out₀)) q in
            rw (append_assoc so.told (three_of r) t, append_assoc so.written M.part w)
            (so.onward s'' (three_of r ++ t) (M.part ++ w) end
            (subst (λ (cs : List Named). Runs feeds closes samples cs s (drop lent out₀) work s'' (three_of r ++ t) (M.part ++ w) end)
            (sym next-is) (goes r s' M.part t w work' calls-on p)))

        pub one_more : (three : List ℕ) → three ≡ three_of r → (k : ℕ) → k ≡ room_of c
            → Sofar s' (put_mid lent (length out - lent) out left) work' (put_mid (3 * made) (3 * made + 3 - 3 * made) answers three)
            (made + 1) (lent + k)
        one_more three t k e =
            let i = so.told_long in
            let j = so.written_long in
            let n = so.count in
            let l = ap length next-is in
            let h = three-long r in
            let p = long in
            subst
            (λ (k : ℕ). Sofar s' (put_mid lent (length out - lent) out left) work' (put_mid (3 * made) (3 * made + 3 - 3 * made) answers three)
            (made + 1) (lent + k)) (sym e)
            (record {
              told = so.told ++ three_of r;
              written = so.written ++ M.part;
              told_long = length-append so.told (three_of r) ∙ omega arith;
              written_long = length-append so.written M.part ∙ omega arith;
              out_is = out-on;
              answers_is = answers-on three t;
              count = omega arith;
              onward = onward-on;
            })
