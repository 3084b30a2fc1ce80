-- A header begun: all but its fields' pairs is written, and what is left of them is named.
use Rattle.std.specs.Prelude.{ℕ, ◌<◌, ◌≤◌, ◌≡◌, Bool, List, length, Option, Result, Ok}
use Rattle.ext.specs.declared.ExtFieldType.{ExtFieldType}
use Rattle.error.specs.declared.WbmpError.{WbmpError}
use Rattle.error.specs.Emits.{Emits}
use Rattle.ext_write.specs.Internal.Left.{Left, ChecksPairs}
use Rattle.ext_write.specs.declared.PairsBegun.{PairsBegun}
use Rattle.header.specs.Write.{lent_header, ext_header}

-- a header that is begun has bytes, and the output has room for them
abbrev pub HasRoom : Result PairsBegun WbmpError → List ℕ → Type 0
HasRoom r new = (b : PairsBegun) → r ≡ Ok b → (0 < b.end) × (b.end ≤ length new)

-- fields of a kind; `found` is the answer of the pairs' check
abbrev pub BeginsLent : ℕ → ℕ → ℕ → List ℕ → Result ℕ WbmpError → List ℕ → List ℕ → Result PairsBegun WbmpError → Type 0
BeginsLent width height kind text found old new r =
    HasRoom r new
    × ((strict : Bool) (lengths : List ℕ) → ChecksPairs strict text lengths found
    → Left strict text lengths new (λ a out. Emits (lent_header strict width height kind text lengths) a old out) r)

abbrev pub BeginsHeader : ℕ → ℕ → Option ExtFieldType → List ℕ → Result ℕ WbmpError → List ℕ → List ℕ → Result PairsBegun WbmpError → Type 0
BeginsHeader width height presence text found old new r =
    HasRoom r new
    × ((strict : Bool) (lengths : List ℕ) → ChecksPairs strict text lengths found
    → Left strict text lengths new (λ a out. Emits (ext_header strict width height presence text lengths) a old out) r)
