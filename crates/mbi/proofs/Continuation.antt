-- Readers of a file s at an offset: one byte of it, its end, and what a reading goes on with; the direct form and the continuation form
-- agree.
use Rattle.std.proofs.Common.{◌≡◌, ℕ, ◌+◌, ◌<◌, ◌≤◌, Bool, false, List, [], ◌∷◌, length, get_or, drop, sym, refl, ap, ◌∙◌, drop_of_length-le}
use Rattle.error.specs.Answer.{Answer, gives, refuses, bind}
use Rattle.laws.proofs.Lists.{drop_at, tail-drop}
use Rattle.mbi.specs.Read.{ByteRead, goes, ends, wrong, read_byte, read_rest, read_mbi, integer, upon}

-- an integer alone: its value and the offset after it
abbrev pub found : ℕ → ℕ → List ℕ → Answer (ℕ × ℕ)
found v at τ = gives (v, at)

-- one byte of the direct form
pub rest-cons : (strict : Bool) (b : ℕ) (τ : List ℕ) (at v n : ℕ)
    → read_rest strict (b ∷ τ) at v n
    ≡ upon (read_byte strict at v n b) (λ w. read_rest strict τ (at + 1) w (n + 1)) (λ w. gives (w, at + 1))
unfolding read_rest
rest-cons strict b τ at v n = go (read_byte strict at v n b)
  where
    go : (x : ByteRead)
        → (elim x as (λ x. Answer (ℕ × ℕ)) [
          | goes w ↦ read_rest strict τ (at + 1) w (n + 1)
          | ends w ↦ gives
              (w, at + 1)
          | wrong code p ↦ refuses code p
        ])
        ≡ upon x (λ w. read_rest strict τ (at + 1) w (n + 1)) (λ w. gives (w, at + 1))
    go (goes w) = refl
    go (ends w) = refl
    go (wrong code p) = refl

-- the direct form is the continuation form that stops there
pub rest-integer : (strict : Bool) (τ : List ℕ) (at v n : ℕ) → read_rest strict τ at v n ≡ integer strict τ at v n found
unfolding read_rest integer
rest-integer strict [] at v n = refl
rest-integer strict (b ∷ τ) at v n =
    rest-cons strict b τ at v n ∙ go (read_byte strict at v n b) (λ w. rest-integer strict τ (at + 1) w (n + 1))
  where
    go : (x : ByteRead) → ((w : ℕ) → read_rest strict τ (at + 1) w (n + 1) ≡ integer strict τ (at + 1) w (n + 1) found)
        → upon x (λ w. read_rest strict τ (at + 1) w (n + 1)) (λ w. gives (w, at + 1))
        ≡ upon x (λ w. integer strict τ (at + 1) w (n + 1) found) (λ w. found w (at + 1) τ)
    go (goes w) ih = ih w
    go (ends w) ih = refl
    go (wrong code p) ih = refl

-- a reading that starts with an integer of the file goes on from its value and the offset after it
pub integer-in : {A : Type 0} (strict : Bool) (s τ : List ℕ) (at v n : ℕ) (k : ℕ → ℕ → List ℕ → Answer A) → τ ≡ drop at s
    → integer strict τ at v n k ≡ bind (read_rest strict τ at v n) (λ r. k r.0 r.1 (drop r.1 s))
unfolding integer read_rest
integer-in strict s [] at v n k e = refl
integer-in strict s (b ∷ τ) at v n k e =
    go (read_byte strict at v n b) (λ w. integer-in strict s τ (at + 1) w (n + 1) k (tail-drop s b τ at e))
    ∙ ap (λ (a : Answer (ℕ × ℕ)). bind a (λ r. k r.0 r.1 (drop r.1 s))) (sym (rest-cons strict b τ at v n))
  where
    go : (x : ByteRead)
        → ((w : ℕ) → integer strict τ (at + 1) w (n + 1) k ≡ bind (read_rest strict τ (at + 1) w (n + 1))
        (λ r. k r.0 r.1 (drop r.1 s)))
        → upon x (λ w. integer strict τ (at + 1) w (n + 1) k) (λ w. k w (at + 1) τ)
        ≡ bind (upon x (λ w. read_rest strict τ (at + 1) w (n + 1)) (λ w. gives (w, at + 1))) (λ r. k r.0 r.1 (drop r.1 s))
    go (goes w) ih = ih w
    go (ends w) ih = ap (k w (at + 1)) (tail-drop s b τ at e)
    go (wrong code p) ih = refl

pub integer-mbi : {A : Type 0} (strict : Bool) (s : List ℕ) (at : ℕ) (k : ℕ → ℕ → List ℕ → Answer A)
    → integer strict (drop at s) at 0 0 k ≡ bind (read_mbi strict s at) (λ r. k r.0 r.1 (drop r.1 s))
integer-mbi strict s at k = integer-in strict s (drop at s) at 0 0 k refl

-- one byte of the continuation form
module _ {A : Type 0} (strict : Bool) (b : ℕ) (τ : List ℕ) (at v n w : ℕ) (k : ℕ → ℕ → List ℕ → Answer A) where
  pub integer-goes : read_byte strict at v n b ≡ goes w → integer strict (b ∷ τ) at v n k ≡ integer strict τ (at + 1) w (n + 1) k
  unfolding integer
  integer-goes e = ap (λ (x : ByteRead). upon x (λ u. integer strict τ (at + 1) u (n + 1) k) (λ u. k u (at + 1) τ)) e

  pub integer-ends : read_byte strict at v n b ≡ ends w → integer strict (b ∷ τ) at v n k ≡ k w (at + 1) τ
  unfolding integer
  integer-ends e = ap (λ (x : ByteRead). upon x (λ u. integer strict τ (at + 1) u (n + 1) k) (λ u. k u (at + 1) τ)) e

-- the byte at an offset, and the end of the file
module _ (strict : Bool) (s : List ℕ) (at v n : ℕ) where
  pub rest_at : at < length s
      → read_rest strict (drop at s) at v n
      ≡ upon (read_byte strict at v n (get_or s at 0)) (λ w. read_rest strict (drop (at + 1) s) (at + 1) w (n + 1)) (λ w. gives (w, at + 1))
  rest_at h = ap (λ (l : List ℕ). read_rest strict l at v n) (drop_at s at h) ∙ rest-cons strict (get_or s at 0) (drop (at + 1) s) at v n

  pub rest_end : length s ≤ at → read_rest strict (drop at s) at v n ≡ refuses 1 at
  unfolding read_rest
  rest_end h = rw (drop_of_length-le s h)

-- 81 00 after one byte; the value, the offset after it and what follows
example : integer false (drop 1 (7 ∷ 129 ∷ 0 ∷ 9 ∷ [])) 1 0 0 (λ v at τ. gives (v ∷ at ∷ τ)) ≡ gives (128 ∷ 3 ∷ 9 ∷ [])
unfolding read_rest read_byte
example = integer-mbi false (7 ∷ 129 ∷ 0 ∷ 9 ∷ []) 1 (λ v at τ. gives (v ∷ at ∷ τ))
