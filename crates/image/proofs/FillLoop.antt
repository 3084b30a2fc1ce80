-- A list that is filled from the front: its first i elements are those of `target`, and the others as they were.
use Prim.Native.Nat.{ℕ, suc, ◌+◌, ◌-◌, ◌≤◌, ◌<◌}
use mathlib.Core.Path.{◌≡◌, refl, sym, ap, ◌∙◌}
use mathlib.Core.List.{List, [], ◌∷◌, ◌++◌, append_assoc, append-nil}
use native.Mathlib.Numerals.{add-one}
use native.Mathlib.Omega.{arith}
use borrow.Rule.Slice.PartMut.{mid_of, put_mid, Post-is}
use lib.ListN.{length, take, drop, get_or, set, take-append-drop, length-append, length-take, length-drop}
use lib.Seq.{length-take-le, take_all, take-suc, take_at, take-add, take-take, take-append-le, append_snoc, set_at, get_or_at}
use lib.Seq.{drop-cons, drop-drop, drop-append-add, drop-length}

pub record FilledTo (target l₀ l : List ℕ) (i : ℕ) : Type 0 where
  pub same : length target ≡ length l₀
  pub within : i ≤ length l₀
  pub now_is : l ≡ take i target ++ drop i l₀

-- a list whose first n elements are those of `target`, taken as one that is filled up to an index before
pub filled-over : {target l : List ℕ} (l₀ : List ℕ) (n i : ℕ) → length target ≡ length l₀ → n ≤ length l₀ → i ≤ n
    → l ≡ take n target ++ drop n l₀ → FilledTo target l l i
filled-over {target} {l} l₀ n i e p q r =
    let h : length (take n target) ≡ n = length-take-le n target (omega arith) in
    let same : length target ≡ length l =
    omega (arith, ap length r, length-append (take n target) (drop n l₀), length-drop n l₀) in
    let front : take i l ≡ take i target =
    ap (λ (k : List ℕ). take i k) r
    ∙ take-append-le i (take n target) (drop n l₀) (omega arith)
    ∙ take-take i n target q in
    record {
      same = same;
      within = omega arith;
      now_is = sym (take-append-drop i l) ∙ ap (λ (k : List ℕ). k ++ drop i l) front;
    }

module _ {target l₀ : List ℕ} where
  pub begun : length target ≡ length l₀ → FilledTo target l₀ l₀ 0
  begun e = record { same = e; within = omega arith; now_is = refl }

  module _ {l : List ℕ} {i : ℕ} (f : FilledTo target l₀ l i) where
    pub kept-length : length l ≡ length l₀
    kept-length =
        let p : i ≤ length l₀ = f.within in
        let q : length target ≡ length l₀ = f.same in
        ap length f.now_is ∙ length-append (take i target) (drop i l₀) ∙ simp (length-take, length-drop) (omega arith)

    head-length : length (take i target) ≡ i
    head-length = length-take-le i target (omega (arith, f.within, f.same))

    split : i < length l₀ → l ≡ take i target ++ get_or l₀ i 0 ∷ drop (suc i) l₀
    split h = f.now_is ∙ ap (λ (r : List ℕ). take i target ++ r) (drop-cons l₀ i 0 h)

    -- the next element is still as it was
    pub next-is : i < length l₀ → get_or l i 0 ≡ get_or l₀ i 0
    next-is h = ap (λ (r : List ℕ). get_or r i 0) (split h) ∙ get_or_at (take i target) (get_or l₀ i 0) (drop (suc i) l₀) 0 i head-length

    pub filled : (v : ℕ) → i < length l₀ → v ≡ get_or target i 0 → FilledTo target l₀ (set l i v) (i + 1)
    filled v h e =
        record {
          same = f.same;
          within = omega arith;
          now_is =
              ap (λ (r : List ℕ). set r i v) (split h)
              ∙ set_at (take i target) (get_or l₀ i 0) (drop (suc i) l₀) v i head-length
              ∙ sym (append_snoc (take i target) v (drop (suc i) l₀))
              ∙ ap (λ (b : ℕ). (take i target ++ (b ∷ [])) ++ drop (suc i) l₀) e
              ∙ ap (λ (r : List ℕ). r ++ drop (suc i) l₀) (sym (take-suc target i 0 (omega (arith, f.same))))
              ∙ ap (λ (k : ℕ). take k target ++ drop k l₀) (sym (add-one i));
        }

    -- what stands behind a part that begins here is still as it was
    behind : (e : ℕ) → i ≤ e → drop e (take i target ++ drop i l₀) ≡ drop e l₀
    behind e p =
        let n : e ≡ length (take i target) + (e - i) = omega (arith, head-length) in
        let m : i + (e - i) ≡ e = omega arith in
        ap (λ (j : ℕ). drop j (take i target ++ drop i l₀)) n
        ∙ drop-append-add (take i target) (drop i l₀) (e - i)
        ∙ drop-drop (e - i) i l₀
        ∙ ap (λ (j : ℕ). drop j l₀) m

    -- the elements up to index e at once
    pub filled-part : (e : ℕ) (new : List ℕ) → i ≤ e → e ≤ length l₀ → new ≡ mid_of i (e - i) target
        → FilledTo target l₀ (put_mid i (e - i) l new) e
    filled-part e new p q r =
        let m : i + (e - i) ≡ e = omega arith in
        record {
          same = f.same;
          within = q;
          now_is =
              rw (Post-is i e l p, f.now_is, take_at (take i target) (drop i l₀) i head-length, behind e p, r)
              (sym (append_assoc (take i target) (mid_of i (e - i) target) (drop e l₀))
              ∙ ap (λ (r : List ℕ). r ++ drop e l₀) (sym (take-add i (e - i) target) ∙ ap (λ (j : ℕ). take j target) m));
        }

    pub done : length l₀ ≤ i → l ≡ target
    done h =
        let e : i ≡ length l₀ = omega (arith, f.within) in
        f.now_is
        ∙ ap (λ (r : List ℕ). r ++ drop i l₀) (take_all i target (omega (arith, f.same)))
        ∙ ap (λ (k : ℕ). target ++ drop k l₀) e
        ∙ ap (λ (r : List ℕ). target ++ r) (drop-length l₀)
        ∙ append-nil target

  module _ {l : List ℕ} {i : ℕ} (f : FilledTo target l₀ l i) where
    -- the rest at once
    pub rest-filled : (new : List ℕ) → new ≡ mid_of i (length target - i) target → put_mid i (length l - i) l new ≡ target
    rest-filled new r =
        let k : length l ≡ length l₀ = kept-length f in
        let n : length target ≡ length l = f.same ∙ sym k in
        done
        (filled-part f (length l) new (omega (arith, f.within)) (omega arith) (r ∙ ap (λ (j : ℕ). mid_of i (j - i) target) n))
        (omega arith)
