-- Writing an integer from its last byte to its first: the groups of v are still to be written, in front of what stands from k on.
use Rattle.std.proofs.Common.{◌≡◌, ℕ, ◌+◌, ◌-◌, ◌/◌, ◌%◌, ◌<◌, ◌≤◌, List, ◌∷◌, ◌++◌, length, drop, set, sym, refl, ap, ◌∙◌, inl, inr, arith, length-set}
use Rattle.laws.proofs.Tests.{lt-or-le}
use Rattle.laws.proofs.Store.{drop-set}
use Rattle.mbi.specs.Bytes.{mbi_bytes}
use Rattle.mbi.proofs.Groups.{above, count, above_zero, count-zero, above-group, count-group, bytes-append}
use Rattle.mbi.proofs.Length.{length-bytes}

-- since the loop began with v₀, k₀ and out₀
pub record Filling (v₀ k₀ : ℕ) (out₀ : List ℕ) (v k : ℕ) (out : List ℕ) : Type 0 where
  pub left : k ≡ count v
  pub inside : k < length out
  pub same : length out ≡ length out₀
  pub whole : above v (drop k out) ≡ above v₀ (drop k₀ out₀)

module _ {v₀ k₀ : ℕ} {out₀ : List ℕ} {v k : ℕ} {out : List ℕ} (f : Filling v₀ k₀ out₀ v k out) where
  -- a group is left as long as k is not 0
  some : 0 < k → 0 < v
  some h = elim (lt-or-le 0 v) [ inl p ↦ p | inr p ↦ omega (arith, f.left, count-zero v (omega arith)) ]

  -- one byte more
  pub filled : 0 < k → Filling v₀ k₀ out₀ (v / 128) (k - 1) (set out (k - 1) (128 + v % 128))
  filled h =
      let p = some h in
      let e : k - 1 + 1 ≡ k = omega arith in
      record {
        left = omega (arith, f.left, count-group v p);
        inside = rw length-set (omega (arith, f.inside));
        same = length-set out (k - 1) (128 + v % 128) ∙ f.same;
        whole =
            ap (above (v / 128))
            (drop-set out (k - 1) (128 + v % 128) (omega (arith, f.inside)) ∙ ap (λ (i : ℕ). (128 + v % 128) ∷ drop i out) e)
            ∙ sym (above-group v (drop k out) p) ∙ f.whole;
      }

  -- no group is left
  pub done : k ≡ 0 → out ≡ above v₀ (drop k₀ out₀)
  done h =
      let z : v ≡ 0 = elim (lt-or-le 0 v) [ inl p ↦ omega (arith, f.left, count-group v p) | inr p ↦ omega arith ] in
      sym (above_zero v (drop k out) z ∙ ap (λ (i : ℕ). drop i out) h) ∙ f.whole

-- what is to be written, with its last byte in place
module _ (value : ℕ) (old : List ℕ) (n : ℕ) (e : n ≡ length (mbi_bytes value)) (fits : n ≤ length old) where
  pub begun : Filling (value / 128) (n - 1) (set old (n - 1) (value % 128)) (value / 128) (n - 1) (set old (n - 1) (value % 128))
  begun =
      record {
        left = omega (arith, length-bytes value);
        inside = rw length-set (omega (arith, length-bytes value));
        same = refl;
        whole = refl;
      }

  pub begun-bytes : above (value / 128) (drop (n - 1) (set old (n - 1) (value % 128))) ≡ mbi_bytes value ++ drop
      (length (mbi_bytes value)) old
  begun-bytes =
      let k : n - 1 + 1 ≡ length (mbi_bytes value) = omega (arith, length-bytes value) in
      ap (above (value / 128))
      (drop-set old (n - 1) (value % 128) (omega (arith, length-bytes value)) ∙ ap (λ (i : ℕ). value % 128 ∷ drop i old) k)
      ∙ sym (bytes-append value (drop (length (mbi_bytes value)) old))
