-- Runs of stores in a part of a list, and before another run.
use Prim.Native.Nat.{ℕ, suc, ◌+◌, ◌≤◌, ◌<◌}
use mathlib.Core.Path.{◌≡◌, ◌∙◌, sym, ap, refl}
use mathlib.Core.List.{List, [], ◌∷◌, ◌++◌}
use native.Mathlib.Nat.{add-zero, zero-add, add-suc, suc-add}
use native.Mathlib.Omega.{arith}
use lib.ListN.{length, take, set, length-set}
use lib.Seq.{sets, set_comm, set-append_left, length-take-le}
use borrow.Rule.Slice.PartMut.{put_mid}

-- in the front part, and behind it
pub sets-left : (xs ys : List ℕ) (j : ℕ) (vs : List ℕ) → j + length vs ≤ length xs → sets (xs ++ ys) j vs ≡ sets xs j vs ++ ys
sets-left xs ys j [] h = refl
sets-left xs ys j (v ∷ vs) h =
    let l : length (v ∷ vs) ≡ suc (length vs) = refl in
    ap (λ (z : List ℕ). sets z (suc j) vs) (set-append_left xs ys j v (omega arith))
    ∙ sets-left (set xs j v) ys (suc j) vs (simp length-set (omega arith))

set-right : (xs ys : List ℕ) (j v : ℕ) → set (xs ++ ys) (length xs + j) v ≡ xs ++ set ys j v
set-right [] ys j v = ap (λ (n : ℕ). set ys n v) (zero-add j)
set-right (x ∷ xs) ys j v = ap (λ (n : ℕ). set (x ∷ (xs ++ ys)) n v) (suc-add (length xs) j)
    ∙ ap (λ (r : List ℕ). x ∷ r) (set-right xs ys j v)

pub sets-right : (xs ys : List ℕ) (j : ℕ) (vs : List ℕ) → sets (xs ++ ys) (length xs + j) vs ≡ xs ++ sets ys j vs
sets-right xs ys j [] = refl
sets-right xs ys j (v ∷ vs) =
    ap (λ (z : List ℕ). sets z (suc (length xs + j)) vs) (set-right xs ys j v)
    ∙ ap (λ (n : ℕ). sets (xs ++ set ys j v) n vs) (sym (add-suc (length xs) j))
    ∙ sets-right xs (set ys j v) (suc j) vs

-- in a part that was lent
pub sets-mid : (a k : ℕ) (l part : List ℕ) (j : ℕ) (vs : List ℕ) → a ≤ length l → j + length vs ≤ length part
    → sets (put_mid a k l part) (a + j) vs ≡ put_mid a k l (sets part j vs)
sets-mid a k l part j vs h g =
    let e : length (take a l) ≡ a = length-take-le a l h in
    ap (λ (n : ℕ). sets (put_mid a k l part) (n + j) vs) (sym e)
    ∙ sets-right (take a l) _ j vs
    ∙ ap (λ (r : List ℕ). take a l ++ r) (sets-left part _ j vs g)

-- a store before a run, and a run before a run that follows on it
set_before : (l : List ℕ) (i j : ℕ) (v : ℕ) (ws : List ℕ) → i < j → set (sets l j ws) i v ≡ sets (set l i v) j ws
set_before l i j v [] h = refl
set_before l i j v (w ∷ ws) h =
    set_before (set l j w) i (suc j) v ws (omega arith)
    ∙ ap (λ (z : List ℕ). sets z (suc j) ws) (set_comm l j i w v (λ e. absurd (omega arith)))

pub sets-before : (l : List ℕ) (i : ℕ) (vs ws : List ℕ) → sets (sets l (i + length vs) ws) i vs ≡ sets l i (vs ++ ws)
sets-before l i [] ws = ap (λ (n : ℕ). sets l n ws) (add-zero i)
sets-before l i (v ∷ vs) ws =
    let e : i + suc (length vs) ≡ suc i + length vs = add-suc i (length vs) ∙ sym (suc-add i (length vs)) in
    ap (λ (z : List ℕ). sets z (suc i) vs) (set_before l i (i + suc (length vs)) v ws (omega arith))
    ∙ ap (λ (n : ℕ). sets (sets (set l i v) n ws) (suc i) vs) e
    ∙ sets-before (set l i v) (suc i) vs ws
