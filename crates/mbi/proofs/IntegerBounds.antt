-- An integer that was read: it fits 32 bits, and it lies within the bytes and has at most seven of them.
use Rattle.std.proofs.Common.{◌≡◌, ℕ, ◌+◌, ◌<◌, ◌≤◌, Bool, false, List, [], ◌∷◌, length, drop, sym, refl, ◌∙◌, arith, length-drop}
use Rattle.error.specs.Answer.{gives}
use Rattle.laws.proofs.Answers.{gives-pair}
use Rattle.laws.proofs.Tests.{zero_one}
use Rattle.mbi.specs.Read.{ByteRead, goes, ends, wrong, read_byte, read_rest, read_mbi, upon}
use Rattle.mbi.proofs.Step.{known}
use Rattle.mbi.proofs.Continuation.{rest-cons}

-- v was read at an offset of s, and e is the offset after it
pub record IntegerBounds (s : List ℕ) (at v e : ℕ) : Type 0 where
  pub small : v < 4294967296
  pub after : at < e
  pub inside : e ≤ length s
  pub few : e ≤ at + 7

-- the same of the bytes τ from `at` on, where n bytes of the integer stood before them
record Rest (τ : List ℕ) (at n v e : ℕ) : Type 0 where
  small : v < 4294967296
  after : at < e
  inside : e ≤ at + length τ
  few : e + n ≤ at + 7

rest-within : (strict : Bool) (τ : List ℕ) (at u n v e : ℕ) → read_rest strict τ at u n ≡ gives (v, e) → Rest τ at n v e
unfolding read_rest
rest-within strict [] at u n v e h = zero_one (cc)
rest-within strict (b ∷ τ) at u n v e h =
    go (read_byte strict at u n b) refl (sym (rest-cons strict b τ at u n) ∙ h) (λ w. rest-within strict τ (at + 1) w (n + 1) v e)
  where
    go : (x : ByteRead) → read_byte strict at u n b ≡ x
        → upon x (λ w. read_rest strict τ (at + 1) w (n + 1)) (λ w. gives (w, at + 1)) ≡ gives (v, e)
        → ((w : ℕ) → read_rest strict τ (at + 1) w (n + 1) ≡ gives (v, e) → Rest τ (at + 1) (n + 1) v e)
        → Rest (b ∷ τ) at n v e
    go (goes w) p k ih =
        let f = ih w k in
        record { small = f.small; after = omega (arith, f.after); inside = omega (arith, f.inside); few = omega (arith, f.few) }
    go (ends w) p k ih =
        let z : (w ≡ v) × (at + 1 ≡ e) = gives-pair k in
        let t = (known strict u n b at (ends w) p).0 in
        record { small = omega (arith, t.small); after = omega arith; inside = omega arith; few = omega (arith, t.few) }
    go (wrong code i) p k ih = zero_one (cc)

pub mbi-within : (strict : Bool) (s : List ℕ) (at v e : ℕ) → read_mbi strict s at ≡ gives (v, e) → IntegerBounds s at v e
mbi-within strict s at v e h =
    let f = rest-within strict (drop at s) at 0 0 v e h in
    record {
      small = f.small;
      after = f.after;
      inside = omega (arith, f.inside, f.after, length-drop at s);
      few = omega (arith, f.few);
    }

-- six 80 then 05
example : IntegerBounds (128 ∷ 128 ∷ 128 ∷ 128 ∷ 128 ∷ 128 ∷ 5 ∷ []) 0 5 7
unfolding read_rest read_byte
example = mbi-within false (128 ∷ 128 ∷ 128 ∷ 128 ∷ 128 ∷ 128 ∷ 5 ∷ []) 0 5 7 refl
