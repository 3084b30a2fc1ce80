-- What a call of the plain machine comes to, by whether it is open, the work buffer serves, and its samples are whole frames.
-- Assumes nothing.
use Prim.Native.Nat.{ℕ}
use mathlib.Core.Path.{◌≡◌, refl, ◌∙◌}
use mathlib.Core.Bool.{Bool, true, false}
use mathlib.Core.List.{List, []}
use Rattle.error.specs.Choice.{if}
use Rattle.error.specs.Answer.{refuses}
use Rattle.laws.proofs.Tests.{if-true, if-false}
use Rattle.encode_session.specs.Model.{serves, Model, feed, close, is_whole, Outcome, fed_by, closed_by, unaltered, outcome}

module _ (m : Model) (xs out : List ℕ) (work : ℕ) where
  pub feed-shut : m.live ≡ false → outcome m (feed xs out work) ≡ unaltered m 30 out
  unfolding outcome
  feed-shut l = if-false _ _ _ l

  pub feed-short : m.live ≡ true → serves m.opening work ≡ false → outcome m (feed xs out work) ≡ unaltered m 28 out
  unfolding outcome
  feed-short l k = if-true _ _ _ l ∙ if-false _ _ _ k

  pub feed-busy : m.live ≡ true → serves m.opening work ≡ true → outcome m (feed xs out work) ≡ fed_by m xs out
  unfolding outcome
  feed-busy l k = if-true _ _ _ l ∙ if-true _ _ _ k

  pub by-feed : (P : Outcome → Type 0) → P (unaltered m 30 out) → P (unaltered m 28 out) → P (fed_by m xs out)
      → P (outcome m (feed xs out work))
  unfolding outcome
  by-feed P p q r = go m.live (serves m.opening work)
    where
      go : (a b : Bool) → P (if a (if b (fed_by m xs out) (unaltered m 28 out)) (unaltered m 30 out))
      go false b = p
      go true false = q
      go true true = r

-- closing
module _ (m : Model) where
  pub close-shut : m.live ≡ false → outcome m close ≡ unaltered m 30 []
  unfolding outcome
  close-shut l = if-false _ _ _ l

  pub close-early : m.live ≡ true → is_whole m ≡ false → outcome m close ≡ unaltered m 22 []
  unfolding outcome
  close-early l k = if-true _ _ _ l ∙ if-false _ _ _ k

  pub close-whole : m.live ≡ true → is_whole m ≡ true → outcome m close ≡ closed_by m
  unfolding outcome
  close-whole l k = if-true _ _ _ l ∙ if-true _ _ _ k

  pub by-close : (P : Outcome → Type 0) → P (unaltered m 30 []) → P (unaltered m 22 []) → (is_whole m ≡ true → P (closed_by m))
      → P (outcome m close)
  unfolding outcome
  by-close P p q r = go m.live (is_whole m) refl
    where
      go : (a b : Bool) → is_whole m ≡ b → P (if a (if b (closed_by m) (unaltered m 22 [])) (unaltered m 30 []))
      go false b e = p
      go true false e = q
      go true true e = r e

-- a refused feeding call does nothing
pub feed-refused : (m : Model) (xs out : List ℕ) (work code place : ℕ) → (outcome m (feed xs out work)).reply.answer ≡ refuses code place
    → ((outcome m (feed xs out work)).reply.output ≡ out) × ((outcome m (feed xs out work)).next ≡ m)
feed-refused m xs out work code place =
    by-feed m xs out work (λ (x : Outcome). x.reply.answer ≡ refuses code place → (x.reply.output ≡ out) × (x.next ≡ m))
    (λ e. (refl, refl))
    (λ e. (refl, refl))
    (λ e. cc)
