-- A part of a list: m elements from index t on, as a slice has them.
-- Assumes nothing.
use Prim.Native.Nat.{ℕ, ◌+◌, ◌-◌, ◌≤◌, ◌<◌}
use mathlib.Core.Path.{◌≡◌, sym, ◌∙◌}
use mathlib.Core.List.{List}
use native.Mathlib.Omega.{arith}
use lib.ListN.{length, get_or, take, drop, length-take, length-drop}
use lib.Seq.{get_or-take, get_or-drop}

module _ (xs : List ℕ) (t m : ℕ) where
  abbrev pub piece : List ℕ
  piece = take (t + m - t) (drop t xs)

  pub piece-length : t + m ≤ length xs → length piece ≡ m
  piece-length h = length-take (t + m - t) (drop t xs) ∙ (let a = length-drop t xs in omega arith)

  pub piece-at : (i : ℕ) → i < m → get_or xs (t + i) 0 ≡ get_or piece i 0
  piece-at i h = sym (get_or-take (t + m - t) (drop t xs) i 0 (omega arith) ∙ get_or-drop t xs i 0)
