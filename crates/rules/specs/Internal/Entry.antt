-- What a function promises that tests what it would otherwise ask.
use Rattle.std.specs.Prelude.{◌≡◌, Bool, true, false}

-- r says whether P holds
pub record TrueExactly (P : Type 0) (r : Bool) : Type 0 where
  pub yes : r ≡ true → P
  pub no : r ≡ false → P → ⊥

-- the one where P holds, and otherwise the other
pub record Where (P Does Idles : Type 0) : Type 0 where
  pub does : P → Does
  pub idles : (P → ⊥) → Idles
