-- An answer other than 1, the end of the input, stays as it is when more bytes follow.
use Rattle.std.proofs.Common.{◌≡◌, ℕ, ◌+◌, Bool, true, false, leb, List, [], ◌∷◌, ◌++◌, length, drop, sym, refl, ap, ◌∙◌, le_of_lt, leb-false, leb-true}
use lib.Seq.{drop-append-le}
use Rattle.error.specs.Answer.{Answer, gives, refuses}
use Rattle.laws.proofs.Tests.{zero_one}
use Rattle.mbi.specs.Read.{ByteRead, goes, ends, wrong, read_byte, read_rest, read_mbi, upon}
use Rattle.mbi.proofs.Continuation.{rest-cons, rest_end}

-- an answer that is not the end of the input
abbrev pub Final : Answer (ℕ × ℕ) → Type 0
Final a = (at : ℕ) → a ≡ refuses 1 at → ⊥

pub rest-prefix : (strict : Bool) (τ ρ : List ℕ) (at v n : ℕ) → Final (read_rest strict τ at v n)
    → read_rest strict (τ ++ ρ) at v n ≡ read_rest strict τ at v n
unfolding read_rest
rest-prefix strict [] ρ at v n h = absurd (h at refl)
rest-prefix strict (b ∷ τ) ρ at v n h =
    rest-cons strict b (τ ++ ρ) at v n
    ∙ go (read_byte strict at v n b) (λ p e. h p (rest-cons strict b τ at v n ∙ e)) (λ w. rest-prefix strict τ ρ (at + 1) w (n + 1))
    ∙ sym (rest-cons strict b τ at v n)
  where
    go : (x : ByteRead)
        → Final (upon x (λ w. read_rest strict τ (at + 1) w (n + 1)) (λ w. gives (w, at + 1)))
        → ((w : ℕ) → Final (read_rest strict τ (at + 1) w (n + 1))
        → read_rest strict (τ ++ ρ) (at + 1) w (n + 1) ≡ read_rest strict τ (at + 1) w (n + 1))
        → upon x (λ w. read_rest strict (τ ++ ρ) (at + 1) w (n + 1)) (λ w. gives (w, at + 1))
        ≡ upon x (λ w. read_rest strict τ (at + 1) w (n + 1)) (λ w. gives (w, at + 1))
    go (goes w) k ih = ih w k
    go (ends w) k ih = refl
    go (wrong code p) k ih = refl

pub mbi-prefix : (strict : Bool) (s ρ : List ℕ) (at : ℕ) → Final (read_mbi strict s at) → read_mbi strict (s ++ ρ) at ≡ read_mbi strict s at
mbi-prefix strict s ρ at h = go (leb at (length s)) refl
  where
    go : (t : Bool) → leb at (length s) ≡ t → read_mbi strict (s ++ ρ) at ≡ read_mbi strict s at
    go true e =
        ap (λ (l : List ℕ). read_rest strict l at 0 0) (drop-append-le at s ρ (leb-true at (length s) e))
        ∙ rest-prefix strict (drop at s) ρ at 0 0 h
    go false e = absurd (h at (rest_end strict s at 0 0 (le_of_lt (leb-false at (length s) e))))

-- 80 80 05 is 5, whatever follows
example : (ρ : List ℕ) → read_mbi false ((128 ∷ 128 ∷ 5 ∷ []) ++ ρ) 0 ≡ gives (5, 3)
unfolding read_rest read_byte
example ρ = mbi-prefix false (128 ∷ 128 ∷ 5 ∷ []) ρ 0 (λ p e. zero_one (cc))
