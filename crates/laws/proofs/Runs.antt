-- Runs of stores: a list with the elements `vs` stored from an index on (`sets`), one run after another.
use Prim.Native.Nat.{ℕ, suc, ◌+◌, ◌-◌, ◌≤◌}
use mathlib.Core.Path.{◌≡◌, ◌∙◌, sym, ap}
use mathlib.Core.List.{List, [], ◌∷◌, ◌++◌, append_assoc, append-nil}
use native.Mathlib.Nat.{add-zero, add-suc, suc-add}
use native.Mathlib.Omega.{arith}
use borrow.Author.Tests.{le-leb}
use borrow.Rule.Slice.PartMut.{mid_of, put_mid, Post-is}
use lib.ListN.{length, take, drop, set, length-drop}
use lib.Seq.{sets, sets-eq, take_all, drop-drop, drop-length}
use Rattle.error.specs.Answer.{Answer, gives}
use Rattle.error.specs.Emits.{Emits}

-- one run after another is a run of both
pub sets-append : (l : List ℕ) (i : ℕ) (xs ys : List ℕ) → sets (sets l i xs) (i + length xs) ys ≡ sets l i (xs ++ ys)
sets-append l i [] ys = rw add-zero
sets-append l i (x ∷ xs) ys =
    let e : i + suc (length xs) ≡ suc i + length xs = add-suc i (length xs) ∙ sym (suc-add i (length xs)) in
    rw e (sets-append (set l i x) (suc i) xs ys)

-- a run from the front on
pub sets-front : (l vs : List ℕ) → length vs ≤ length l → sets l 0 vs ≡ vs ++ drop (length vs) l
sets-front l vs h =
    let e : 0 + length vs ≡ length vs = omega arith in
    let h' : 0 + length vs ≤ length l = omega arith in
    sets-eq vs l 0 h' ∙ ap (λ (n : ℕ). vs ++ drop n l) e

-- what a writer leaves that was lent the part of a list from an index on
pub sets-part : (l vs : List ℕ) (a : ℕ) → a + length vs ≤ length l
    → put_mid a (length l - a) l (vs ++ drop (length vs) (drop a l)) ≡ sets l a vs
sets-part l vs a h =
    let p : a ≤ length l = omega arith in
    rw (Post-is a (length l) l p, drop-length l, drop-drop (length vs) a l, sets-eq vs l a h)
    (ap (λ (r : List ℕ). take a l ++ r) (append_assoc vs (drop (a + length vs) l) [] ∙ ap (λ (r : List ℕ). vs ++ r) (append-nil _))
    ∙ sym (append_assoc (take a l) vs (drop (a + length vs) l)))

-- the same from the writer's promise
pub emits-part : (a : ℕ) (l vs new : List ℕ) (r : Answer ℕ) → a + length vs ≤ length l
    → Emits (gives vs) r (mid_of a (length l - a) l) new → put_mid a (length l - a) l new ≡ sets l a vs
emits-part a l vs new r h e =
    let m : take (length l - a) (drop a l) ≡ drop a l = take_all (length l - a) (drop a l) (rw (length-drop a l) (omega arith)) in
    let f = le-leb (length vs) (length (drop a l)) (rw (length-drop a l) (omega arith)) in
    let n : new ≡ vs ++ drop (length vs) (drop a l) = simp (f) at (rw m at e.bytes) in
    rw n (sets-part l vs a h)
