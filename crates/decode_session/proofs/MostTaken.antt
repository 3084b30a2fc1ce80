-- The most of a piece whose plane bytes fit.
use Prim.Native.Nat.{ℕ, zero, suc, ◌+◌, ◌≤◌, ◌<◌}
use mathlib.Core.Path.{◌≡◌, refl}
use mathlib.Core.Bool.{Bool, true, false}
use mathlib.Core.List.{List, ◌++◌}
use native.Mathlib.Decide.{dec_lt}
use native.Mathlib.Omega.{arith}
use borrow.Author.Tests.{leb-true, leb-false}
use lib.Dec.{leb}
use lib.ListN.{length, take}
use Rattle.error.specs.Choice.{if}
use Rattle.options.specs.Limits.{Decoding}
use Rattle.decode_session.specs.Sequence.{sequence, most}

module _ (ceiling : ℕ) (d : Decoding) (bytes piece : List ℕ) (room : ℕ) where
  -- no more is taken than the piece has
  pub most-small : (k : ℕ) → most ceiling d bytes piece room k ≤ k
  unfolding most
  most-small zero = omega arith
  most-small (suc k) =
      go (leb (length (sequence ceiling d (bytes ++ take (suc k) piece))) (length (sequence ceiling d bytes) + room)) (most-small k)
    where
      go : (t : Bool) → most ceiling d bytes piece room k ≤ k → if t (suc k) (most ceiling d bytes piece room k) ≤ suc k
      go true h = omega arith
      go false h = omega arith

  -- how many plane bytes there are with the first j bytes of the piece
  abbrev pub shown_with : ℕ → ℕ
  shown_with j = length (sequence ceiling d (bytes ++ take j piece))

  abbrev limit : ℕ
  limit = length (sequence ceiling d bytes) + room

  -- It is any number that fits and above which none does.
  pub most-is : (t k : ℕ) → t ≤ k → shown_with t ≤ limit → ((j : ℕ) → t < j → j ≤ k → limit < shown_with j)
      → most ceiling d bytes piece room k ≡ t
  unfolding most
  most-is t zero h fits above = omega arith
  most-is t (suc k) h fits above =
      go (leb (shown_with (suc k)) limit) refl (dec_lt t (suc k)) (λ l. most-is t k l fits (λ j p q. above j p (omega arith)))
    where
      go : (b : Bool) → leb (shown_with (suc k)) limit ≡ b → Dec (t < suc k) → (t ≤ k → most ceiling d bytes piece room k ≡ t)
          → if b (suc k) (most ceiling d bytes piece room k) ≡ t
      go true e (yes l) ih =
          let u = above (suc k) l (omega arith) in
          let v = leb-true (shown_with (suc k)) limit e in
          let z : ⊥ = omega arith in
          absurd z
      go true e (no l) ih = omega arith
      go false e (yes l) ih = ih (omega arith)
      go false e (no l) ih =
          let n : t ≡ suc k = omega arith in
          let v = leb-false (shown_with (suc k)) limit e in
          let f : shown_with (suc k) ≤ limit = rw n at fits in
          let z : ⊥ = omega arith in
          absurd z
