-- Laws of the bytes of a body.
use Prim.Native.Nat.{ℕ, zero, suc, ◌+◌, ◌-◌, ◌%◌, ◌<◌}
use mathlib.Core.Path.{◌≡◌, refl, sym, ap, ◌∙◌}
use mathlib.Core.List.{List, [], ◌∷◌, ◌++◌}
use native.Mathlib.Nat.{add-zero, mod-add-mod}
use native.Mathlib.Omega.{arith}
use lib.Dec.{eqb}
use lib.ListN.{length, get_or, take}
use Rattle.error.specs.Choice.{if}
use Rattle.image.specs.Geometry.{row_bytes, padding_bits}
use Rattle.image.specs.Rows.{clear_low}
use Rattle.image.specs.declared.PixelFormat.{PixelFormat}
use Rattle.image.specs.declared.PixelFormat.TheVariants.{MonoBlack, MonoWhite}
use Rattle.body_pieces.specs.InFormat.{padded, body_byte, body_from}

-- a byte depends on its place in its row only
padded-mod : (w at at' b : ℕ) → at % row_bytes w ≡ at' % row_bytes w → padded w at b ≡ padded w at' b
padded-mod w at at' b e = ap (λ (k : ℕ). if (eqb (k + 1) (row_bytes w)) (clear_low (padding_bits w) b) b) e

byte-mod : (f : PixelFormat) (w at at' b : ℕ) → at % row_bytes w ≡ at' % row_bytes w → body_byte f w at b ≡ body_byte f w at' b
byte-mod MonoBlack w at at' b e = refl
byte-mod MonoWhite w at at' b e = padded-mod w at at' (255 - b) e

module _ (f : PixelFormat) (w : ℕ) where
  pub body-length : (xs : List ℕ) (at : ℕ) → length (body_from f w at xs) ≡ length xs
  unfolding body_from
  body-length [] at = refl
  body-length (x ∷ xs) at = ap suc (body-length xs (at + 1))

  pub body-append : (xs ys : List ℕ) (at : ℕ) → body_from f w at (xs ++ ys) ≡ body_from f w at xs ++ body_from f w (at + length xs) ys
  unfolding body_from
  body-append [] ys at = rw add-zero
  body-append (x ∷ xs) ys at =
      let e : at + 1 + length xs ≡ at + suc (length xs) = omega arith in
      ap (λ (l : List ℕ). body_byte f w at x ∷ l)
      (body-append xs ys (at + 1) ∙ ap (λ (k : ℕ). body_from f w (at + 1) xs ++ body_from f w k ys) e)

  pub body_at : (xs : List ℕ) (at j : ℕ) → j < length xs → get_or (body_from f w at xs) j 0 ≡ body_byte f w (at + j) (get_or xs j 0)
  unfolding body_from
  body_at [] at j h = let z : ⊥ = omega arith in absurd z
  body_at (x ∷ xs) at zero h = ap (λ (k : ℕ). body_byte f w k x) (sym (add-zero at))
  body_at (x ∷ xs) at (suc j) h =
      let e : at + 1 + j ≡ at + suc j = omega arith in
      body_at xs (at + 1) j (omega arith) ∙ ap (λ (k : ℕ). body_byte f w k (get_or xs j 0)) e

  -- where a stretch starts matters modulo the row's bytes only
  pub body-mod : (xs : List ℕ) (at at' : ℕ) → at % row_bytes w ≡ at' % row_bytes w → body_from f w at xs ≡ body_from f w at' xs
  unfolding body_from
  body-mod [] at at' e = refl
  body-mod (x ∷ xs) at at' e =
      let next : (at + 1) % row_bytes w ≡ (at' + 1) % row_bytes w =
      sym (mod-add-mod at (row_bytes w) 1) ∙ ap (λ (k : ℕ). (k + 1) % row_bytes w) e ∙ mod-add-mod at' (row_bytes w) 1 in
      ap (λ (b : ℕ). b ∷ body_from f w (at + 1) xs) (byte-mod f w at at' x e)
      ∙ ap (λ (l : List ℕ). body_byte f w at' x ∷ l) (body-mod xs (at + 1) (at' + 1) next)

  pub body-take : (n : ℕ) (xs : List ℕ) (at : ℕ) → take n (body_from f w at xs) ≡ body_from f w at (take n xs)
  unfolding body_from
  body-take zero xs at = refl
  body-take (suc n) [] at = refl
  body-take (suc n) (x ∷ xs) at = ap (λ (l : List ℕ). body_byte f w at x ∷ l) (body-take n xs (at + 1))

-- as a file has it
pub body-black : (w : ℕ) (xs : List ℕ) (at : ℕ) → xs ≡ body_from MonoBlack w at xs
unfolding body_from
body-black w [] at = refl
body-black w (x ∷ xs) at = ap (λ (l : List ℕ). x ∷ l) (body-black w xs (at + 1))

-- document 01's P7: a body of nine by two in MonoWhite, whole and from its second byte on
nine : body_from MonoWhite 9 0 (255 ∷ 128 ∷ 0 ∷ 0 ∷ []) ≡ 0 ∷ 0 ∷ 255 ∷ 128 ∷ []
unfolding body_from
nine = refl

nine-on : body_from MonoWhite 9 1 (128 ∷ 0 ∷ 0 ∷ []) ≡ 0 ∷ 255 ∷ 128 ∷ []
unfolding body_from
nine-on = refl
