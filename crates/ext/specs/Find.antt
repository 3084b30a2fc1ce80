-- Lookup (document 01, "Lookup"): "none exactly if no pair carries" the identifier; "else the value of some pair that does". Which of
-- several pairs it gives is free.
use Rattle.std.specs.Prelude.{ℕ, zero, suc, ◌+◌, ◌<◌, ◌≡◌, List, [], ◌∷◌, length, get_or, Option, Some, None, Result, Ok, Err}
use Rattle.std.proofs.Math.Seq.{slice}
use Rattle.error.specs.Answer.{Answer, gives, refuses, refusal}
use Rattle.error.specs.declared.WbmpError.{WbmpError}
use Rattle.ext.specs.Kinds.{Pair, Fields, none, bitfield, reserved, pairs}
use Rattle.ext.specs.declared.ValueSpan.{ValueSpan}

-- "without fields, or in kinds 00, 01 and 10, there are no pairs"
abbrev pub pairs_in : Fields → List Pair
pairs_in none = []
pairs_in (bitfield octets) = []
pairs_in (reserved kind octet) = []
pairs_in (pairs ps) = ps

abbrev pub empty_pair : Pair
empty_pair = record { identifier = []; value = [] }

abbrev pub pair_at : List Pair → ℕ → Pair
pair_at ps i = get_or ps i empty_pair

-- a pair's bytes: its header, identifier and value
abbrev pub pair_size : Pair → ℕ
pair_size p = 1 + length p.identifier + length p.value

-- where the value of pair i stands, where the first pair starts at `start`
unfoldable pub value_start : ℕ → List Pair → ℕ → ℕ
value_start start [] i = start
value_start start (p ∷ ps) zero = start + 1 + length p.identifier
value_start start (p ∷ ps) (suc i) = value_start (start + pair_size p) ps i

-- What is found: nothing, or a value's start and length in the file.
pub data Found : Type 0 where
  nothing : Found
  value_at : ℕ → ℕ → Found

-- what the code's values mean
abbrev pub found_at : Option ValueSpan → Found
found_at None = nothing
found_at (Some v) = value_at v.start v.len

abbrev pub looking : Result (Option ValueSpan) WbmpError → Answer Found
looking (Ok v) = gives (found_at v)
looking (Err e) = refusal e

-- the value at an offset of the file s and of a length is that of pair i, which carries the identifier
pub record Carries (s : List ℕ) (start : ℕ) (ps : List Pair) (identifier : List ℕ) (from len i : ℕ) : Type 0 where
  pub below : i < length ps
  pub same : (pair_at ps i).identifier ≡ identifier
  pub starts : from ≡ value_start start ps i
  pub long : len ≡ length (pair_at ps i).value
  pub bytes : slice from (from + len) s ≡ (pair_at ps i).value

-- the fields start at `start`
abbrev pub Finds : List ℕ → ℕ → List Pair → List ℕ → Found → Type 0
Finds s start ps identifier nothing = (i : ℕ) → i < length ps → (pair_at ps i).identifier ≡ identifier → ⊥
Finds s start ps identifier (value_at from len) = (i : ℕ) × Carries s start ps identifier from len i

-- the answer to a lookup in a file s; the fields' own refusal comes first
abbrev pub Looked : Answer (Fields × ℕ) → List ℕ → ℕ → List ℕ → Answer Found → Type 0
Looked (gives f) s start identifier (gives r) = Finds s start (pairs_in f.0) identifier r
Looked (gives f) s start identifier (refuses code offset) = ⊥
Looked (refuses code offset) s start identifier (gives r) = ⊥
Looked (refuses code offset) s start identifier (refuses code' offset') = (code' ≡ code) × (offset' ≡ offset)
