-- Samples behind samples: the bytes that are finished stay, and how many samples are taken.
-- Assumes nothing.
use Prim.Native.Nat.{ℕ, zero, suc, ◌+◌, ◌-◌, ◌*◌, ◌≤◌, ◌<◌, min}
use mathlib.Core.Path.{◌≡◌, refl, sym, ap, ◌∙◌}
use mathlib.Core.Bool.{Bool, true, false}
use mathlib.Core.List.{List, [], ◌++◌}
use native.Mathlib.Nat.{zero-mul}
use native.Mathlib.Omega.{arith}
use lib.Dec.{leb}
use lib.ListN.{length, take, drop, length-append, take-append-drop}
use lib.Seq.{length-take-le, take_at}
use Rattle.error.specs.Choice.{if}
use Rattle.image.specs.Geometry.{row_bytes}
use Rattle.rules.specs.Bits.{upto}
use Rattle.quantize.specs.Finished.{Setting, count, dot_of, finished, newly, most, takes}
use Rattle.rules.specs.Packed.{byte_at}
use Rattle.quantize.proofs.Places.{count-rows}
use Rattle.quantize.proofs.TakenMost.{count-mono}
use Rattle.rules.proofs.UptoList.{length-upto, upto-ext, upto_add}
use Rattle.quantize.proofs.DotsDepend.{byte-counted}

-- ---- how many are taken

most-le : (s : Setting) (n room k : ℕ) → most s n room k ≤ k
unfolding most
most-le s n room zero = omega arith
most-le s n room (suc k) = by (leb (count s (n + suc k)) (count s n + room)) (most-le s n room k)
  where
    by : (b : Bool) → most s n room k ≤ k → if b (suc k) (most s n room k) ≤ suc k
    by true h = omega arith
    by false h = omega arith

pub takes-le : (s : Setting) (n samples room : ℕ) → takes s n samples room ≤ samples
unfolding takes
takes-le s n samples room = omega (arith, most-le s n room (min samples (s.frames * s.height * s.width - n)))

-- none past the last frame
pub takes-within : (s : Setting) (n samples room : ℕ) → n ≤ s.frames * s.height * s.width
    → n + takes s n samples room ≤ s.frames * s.height * s.width
unfolding takes
takes-within s n samples room h = omega (arith, most-le s n room (min samples (s.frames * s.height * s.width - n)))

-- ---- finished bytes stay

finished-is : (s : Setting) (xs : List ℕ) → finished s xs ≡ upto (count s (length xs)) (byte_at s.width (dot_of s xs))
unfolding finished
finished-is s xs = refl

pub length-finished : (s : Setting) (xs : List ℕ) → length (finished s xs) ≡ count s (length xs)
length-finished s xs = ap length (finished-is s xs) ∙ length-upto (byte_at s.width (dot_of s xs)) (count s (length xs))

pub finished-none : (s : Setting) → 0 < s.width → finished s [] ≡ []
unfolding upto
finished-none s wide =
    let e : 0 ≡ 0 * s.width + 0 = rw zero-mul in
    finished-is s [] ∙ ap (λ (n : ℕ). upto n (byte_at s.width (dot_of s [])))
    (ap (count s) e ∙ count-rows s 0 wide ∙ zero-mul (row_bytes s.width))

module _ (s : Setting) (wide : 0 < s.width) where
  -- samples behind samples, which finish m bytes more
  pub finished-add : (xs ys : List ℕ) (m : ℕ) → count s (length (xs ++ ys)) ≡ count s (length xs) + m
      → finished s (xs ++ ys) ≡ finished s xs ++ upto m (λ i. byte_at s.width (dot_of s (xs ++ ys)) (count s (length xs) + i))
  finished-add xs ys m e =
      let f = byte_at s.width (dot_of s (xs ++ ys)) in
      let b : upto (count s (length xs)) f ≡ finished s xs =
      upto-ext f (byte_at s.width (dot_of s xs)) (count s (length xs)) (λ j l. byte-counted s wide xs ys j l) ∙ sym (finished-is s xs) in
      finished-is s (xs ++ ys) ∙ ap (λ (k : ℕ). upto k f) e ∙ upto_add f (count s (length xs)) m ∙ rw b

  -- THE PREFIX LAW: what the first samples have finished stands in front
  pub finished-front : (xs ys : List ℕ) → finished s xs ≡ take (count s (length xs)) (finished s (xs ++ ys))
  finished-front xs ys =
      let m = count s (length (xs ++ ys)) - count s (length xs) in
      let le : count s (length xs) ≤ count s (length (xs ++ ys)) = rw length-append (count-mono s (length xs) (length ys) wide) in
      let e : count s (length (xs ++ ys)) ≡ count s (length xs) + m = omega arith in
      sym (ap (take (count s (length xs))) (finished-add xs ys m e)
      ∙ take_at (finished s xs) (upto m (λ i. byte_at s.width (dot_of s (xs ++ ys)) (count s (length xs) + i))) (count s (length xs))
      (length-finished s xs))

  pub finished-prefix : (n : ℕ) (xs : List ℕ) → n ≤ length xs → finished s (take n xs) ≡ take (count s n) (finished s xs)
  finished-prefix n xs h =
      finished-front (take n xs) (drop n xs)
      ∙ ap (λ (k : ℕ). take (count s k) (finished s (take n xs ++ drop n xs))) (length-take-le n xs h)
      ∙ ap (λ (l : List ℕ). take (count s n) (finished s l)) (take-append-drop n xs)

  -- what samples finish: what the first of them finished, and what the others add
  pub finished-more : (xs ys : List ℕ) → finished s (xs ++ ys) ≡ finished s xs ++ newly s xs (xs ++ ys)
  finished-more xs ys =
      let f = finished s (xs ++ ys) in
      sym (take-append-drop (count s (length xs)) f)
      ∙ ap (λ (l : List ℕ). l ++ drop (count s (length xs)) f) (sym (finished-front xs ys))
      ∙ ap (λ (k : ℕ). finished s xs ++ drop k f) (sym (length-finished s xs))
