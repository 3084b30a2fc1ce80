-- What is left to put once all but the pairs is written: nothing, or the pairs of accepted fields, which have room within the bytes that
-- the writer says it wrote. Nothing is left by a refusal.
use Rattle.std.specs.Prelude.{ℕ, ◌+◌, ◌≤◌, ◌≡◌, Bool, List, length, Some, None, Result, Ok, Err}
use Rattle.error.specs.declared.WbmpError.{WbmpError}
use Rattle.std.proofs.lemmas.List.Edits.{sets}
use Rattle.error.specs.Answer.{Answer, gives, refusal, map, answered}
use Rattle.error.specs.Emits.{Emits}
use Rattle.ext_write.specs.Write.{lent_bytes}
use Rattle.ext_write.specs.declared.PairsBegun.{PairsBegun}

-- `Goal` is what the writer answers and what the output is to be once the pairs are put
pub data Left (strict : Bool) (text lengths new : List ℕ) (Goal : Answer ℕ → List ℕ → Type 0) : Result PairsBegun WbmpError → Type 0 where
  refused : (e : WbmpError) → Goal (refusal e) new → Left strict text lengths new Goal (Err e)
  none_left : (end : ℕ) → Goal (gives end) new → Left strict text lengths new Goal (Ok (record { end = end; pairs = None }))
  pairs-left : (end to : ℕ) (bytes : List ℕ) → lent_bytes strict 3 text lengths ≡ gives bytes → to + length bytes ≤ end
      → end ≤ length new → Goal (gives end) (sets new to bytes)
      → Left strict text lengths new Goal (Ok (record { end = end; pairs = Some to }))

-- the pairs' check is that of lent pairs
abbrev pub ChecksPairs : Bool → List ℕ → List ℕ → Result ℕ WbmpError → Type 0
ChecksPairs strict text lengths found = answered found ≡ map length (lent_bytes strict 3 text lengths)

abbrev pub ChecksFields : ℕ → List ℕ → Result ℕ WbmpError → Result ℕ WbmpError → Type 0
ChecksFields kind text found r =
    (strict : Bool) (lengths : List ℕ) → ChecksPairs strict text lengths found
    → answered r ≡ map length (lent_bytes strict kind text lengths)

-- where pairs are left to put, they start within so many bytes
abbrev pub PutsWithin : ℕ → Result PairsBegun WbmpError → Type 0
PutsWithin room r = (b : PairsBegun) (to : ℕ) → r ≡ Ok b → b.pairs ≡ Some to → to ≤ room

abbrev pub BeginsPairs : Result ℕ WbmpError → ℕ → Result PairsBegun WbmpError → Type 0
BeginsPairs found room r =
    PutsWithin room r
    × ((strict : Bool) (text lengths old : List ℕ) → length old ≡ room → ChecksPairs strict text lengths found
    → Left strict text lengths old (λ a out. Emits (lent_bytes strict 3 text lengths) a old out) r)

abbrev pub BeginsFields : ℕ → List ℕ → Result ℕ WbmpError → List ℕ → List ℕ → Result PairsBegun WbmpError → Type 0
BeginsFields kind text found old new r =
    PutsWithin (length new) r
    × ((strict : Bool) (lengths : List ℕ) → ChecksPairs strict text lengths found
    → Left strict text lengths new (λ a out. Emits (lent_bytes strict kind text lengths) a old out) r)
