-- Parts of a list: what stands from an index on, by its first element, and the first elements behind another list.
use Prim.Native.Nat.{ℕ, zero, suc, ◌+◌, ◌<◌, ◌≤◌}
use mathlib.Core.Path.{◌≡◌, ◌∙◌, refl, ap}
use mathlib.Core.List.{List, [], ◌∷◌, ◌++◌, append_assoc}
use native.Mathlib.Nat.{zero-add}
use native.Mathlib.Numerals.{add-one}
use native.Mathlib.Omega.{arith}
use lib.ListN.{length, get_or, take, drop, length-append, length-drop, take-append-drop}
use lib.Seq.{slice, length-take-le, take-nil, drop-cons, drop-drop, take-append-le, drop-append-le}

pub drop_at : (s : List ℕ) (at : ℕ) → at < length s → drop at s ≡ get_or s at 0 ∷ drop (at + 1) s
drop_at s at h = rw (add-one, drop-cons s at 0 h)

pub tail-drop : (s : List ℕ) (b : ℕ) (τ : List ℕ) (at : ℕ) → b ∷ τ ≡ drop at s → τ ≡ drop (at + 1) s
tail-drop s b τ at e = ap (drop 1) e ∙ drop-drop 1 at s

pub take-slice : (a i : ℕ) (s : List ℕ) → take i (drop a s) ≡ slice a (a + i) s
take-slice zero i s = rw zero-add
take-slice (suc a) i [] = rw (take-nil i, take-nil (suc a + i))
take-slice (suc a) i (x ∷ s) =
    let e : suc a + i ≡ suc (a + i) = omega arith in
    rw e (take-slice a i s)

-- a part that is all there
pub length_part : (n a : ℕ) (s : List ℕ) → a + n ≤ length s → length (take n (drop a s)) ≡ n
length_part n a s h = length-take-le n (drop a s) (rw length-drop (omega arith))

pub part-append : (n a : ℕ) (s ρ : List ℕ) → a + n ≤ length s → take n (drop a (s ++ ρ)) ≡ take n (drop a s)
part-append n a s ρ h =
    ap (take n) (drop-append-le a s ρ (omega arith)) ∙ take-append-le n (drop a s) ρ (rw length-drop (omega arith))

-- the first elements, by their own length
pub take-length-take : (n : ℕ) (s : List ℕ) → take (length (take n s)) s ≡ take n s
take-length-take zero s = refl
take-length-take (suc n) [] = refl
take-length-take (suc n) (x ∷ s) = ap (λ (r : List ℕ). x ∷ r) (take-length-take n s)

-- the first elements of t behind s, and then the others
pub length-append-take : (s t : List ℕ) (n : ℕ) → n ≤ length t → length (s ++ take n t) ≡ length s + n
length-append-take s t n h = length-append s (take n t) ∙ ap (λ (k : ℕ). length s + k) (length-take-le n t h)

pub append-take-drop : (s t : List ℕ) (n : ℕ) → (s ++ take n t) ++ drop n t ≡ s ++ t
append-take-drop s t n = append_assoc s (take n t) (drop n t) ∙ ap (λ (l : List ℕ). s ++ l) (take-append-drop n t)
