-- The two ends of a writer of bytes that nothing refuses.
use Prim.Native.Nat.{ℕ, ◌<◌, ◌≤◌}
use mathlib.Core.Path.{◌≡◌, ◌∙◌, refl, ap}
use mathlib.Core.List.{List, ◌++◌}
use native.Mathlib.Omega.{arith}
use lib.ListN.{length, drop}
use Rattle.error.specs.Answer.{gives, refuses}
use Rattle.error.specs.Emits.{Emits}
use Rattle.laws.proofs.Emitted.{emits-short, emits-bytes}

-- the output is too short, and is left as it was
pub emits_none : (bytes old : List ℕ) → length old < length bytes → Emits (gives bytes) (refuses 25 0) old old
emits_none bytes old h = emits-short (gives bytes) (length bytes) old refl h

-- the bytes stand at its front
pub emits-all : (bytes old new : List ℕ) (n : ℕ) → length bytes ≤ length old → n ≡ length bytes
    → new ≡ bytes ++ drop (length bytes) old → Emits (gives bytes) (gives n) old new
emits-all bytes old new n h p q =
    emits-bytes (gives bytes) n old new (ap gives p) (omega arith)
    (λ b e k. let f : bytes ≡ b = cc in q ∙ ap (λ (l : List ℕ). l ++ drop (length l) old) f)
