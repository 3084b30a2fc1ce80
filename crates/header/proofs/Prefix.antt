-- A header's answer other than an end of input (1, 6, 9, 13) does not change when more bytes follow.
use Prim.Native.Nat.{ℕ, ◌+◌}
use mathlib.Core.Path.{◌≡◌, ◌∙◌, refl, ap, subst}
use mathlib.Core.Bool.{Bool, true, false, ◌&&◌}
use mathlib.Core.List.{List, [], ◌∷◌, ◌++◌}
use native.Mathlib.Omega.{arith}
use borrow.Author.Tests.{leb-false, lt-leb}
use lib.Dec.{ltb, leb, eqb}
use lib.ListN.{length, get_or, length-append, get_or-append}
use Rattle.error.specs.Choice.{if}
use Rattle.error.specs.Answer.{Answer, gives, refuses, bind}
use Rattle.laws.proofs.Tests.{zero_one}
use Rattle.mbi.specs.Read.{read_mbi, read_rest, read_byte}
use Rattle.mbi.proofs.Prefix.{mbi-prefix}
use Rattle.ext.specs.Kinds.{fields_follow, kind_bits}
use Rattle.ext.specs.Read.{read_fields}
use Rattle.ext.proofs.Prefix.{decided, fields-prefix}
use Rattle.header.specs.Settings.{Settings, ext_inner}
use Rattle.header.specs.Read.{read_header, read_fix, read_after_fix}

-- a part and what follows it
pub bind-prefix : {A B : Type 0} (x x' : Answer A) (k k' : A → Answer B)
    → (decided x ≡ true → x' ≡ x) → ((a : A) → decided (k a) ≡ true → k' a ≡ k a)
    → decided (bind x k) ≡ true → bind x' k' ≡ bind x k
bind-prefix (gives a) x' k k' p q e = ap (λ (y : Answer _). bind y k') (p refl) ∙ q a e
bind-prefix (refuses code offset) x' k k' p q e = ap (λ (y : Answer _). bind y k') (p e)

pick-prefix : {A : Type 0} (t : Bool) (x y y' : Answer A) → (decided y ≡ true → y' ≡ y) → decided (if t x y) ≡ true → if t x y' ≡ if t x y
pick-prefix true x y y' p e = refl
pick-prefix false x y y' p e = p e

pick_other : {A : Type 0} (t : Bool) (x x' y : Answer A) → (decided x ≡ true → x' ≡ x) → decided (if t x y) ≡ true → if t x' y ≡ if t x y
pick_other true x x' y p e = p e
pick_other false x x' y p e = refl

module _ (o : Settings) (s ρ : List ℕ) where
  pub integer-prefix : (at : ℕ) → decided (read_mbi o.shortest s at) ≡ true → read_mbi o.shortest (s ++ ρ) at
      ≡ read_mbi o.shortest s at
  integer-prefix at e = mbi-prefix o.shortest s ρ at (λ p q. let z = subst (λ (x : Answer (ℕ × ℕ)). decided x ≡ true) q e in zero_one
      (cc))

  fix-prefix : (at : ℕ) → decided (read_fix o s at) ≡ true → read_fix o (s ++ ρ) at ≡ read_fix o s at
  fix-prefix at e = go (leb (length s) at) refl e
    where
      after-prefix : (fix start : ℕ) → decided (read_after_fix o s fix start) ≡ true → read_after_fix o (s ++ ρ) fix start
          ≡ read_after_fix o s fix start
      after-prefix fix start =
          bind-prefix _ _ _ _ (fields-prefix o.classes (o.honoured && fields_follow fix) (kind_bits fix) s ρ start)
          (λ f. bind-prefix _ _ _ _ (integer-prefix f.1) (λ w. bind-prefix _ _ _ _ (integer-prefix w.1) (λ h q. refl)))

      go : (t : Bool) → leb (length s) at ≡ t
          → decided (if t (refuses 6 at) (if (o.fix_zero && ltb 0 (get_or s at 0)) (refuses 7 at)
          (read_after_fix o s (get_or s at 0) (at + 1)))) ≡ true
          → read_fix o (s ++ ρ) at
          ≡ if t (refuses 6 at) (if (o.fix_zero && ltb 0 (get_or s at 0)) (refuses 7 at) (read_after_fix o s (get_or s at 0) (at + 1)))
      go true p q = zero_one (cc)
      go false p q =
          let h = leb-false (length s) at p in
          let l = lt-leb (length (s ++ ρ)) at (rw length-append (omega arith)) in
          let g = get_or-append s ρ 0 at h in
          rw (l, g)
          (pick-prefix (o.fix_zero && ltb 0 (get_or s at 0)) (refuses 7 at) _ _ (after-prefix (get_or s at 0) (at + 1)) q)

  pub header-prefix : decided (read_header o s) ≡ true → read_header o (s ++ ρ) ≡ read_header o s
  unfolding read_header
  header-prefix = bind-prefix _ _ _ _ (integer-prefix 0) (λ t. pick_other (eqb t.0 0) _ _ (refuses 5 t.1) (fix-prefix t.1))

-- a header of nine by two, before any bytes
nine : (ρ : List ℕ) → read_header (ext_inner false) ((0 ∷ 0 ∷ 9 ∷ 2 ∷ []) ++ ρ) ≡ read_header (ext_inner false) (0 ∷ 0 ∷ 9 ∷ 2 ∷ [])
unfolding read_header read_rest read_byte read_fields
nine ρ = header-prefix (ext_inner false) (0 ∷ 0 ∷ 9 ∷ 2 ∷ []) ρ refl
