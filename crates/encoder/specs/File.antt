-- What every file that is written or made has: its frames are counted, and its header stands in front (document 01, encoder.rs).
use Rattle.std.specs.Prelude.{ℕ, Bool, ◌&&◌, ◌||◌, List, ◌++◌, leb, eqb}
use Rattle.error.specs.Choice.{if}
use Rattle.error.specs.Answer.{Answer, gives, refuses, map}
use Rattle.header.specs.Write.{ext_header}
use Rattle.options.specs.declared.EncodeOptions.{EncodeOptions}

-- "21, 0: 0 frames or over 16", where the ceiling is 16
abbrev pub count_fits : ℕ → ℕ → Bool
count_fits ceiling count = leb 1 count && leb count ceiling

-- the tests that come first in both orders: "8, 21"
abbrev pub check_count : ℕ → ℕ → ℕ → ℕ → Answer (Unit {0})
check_count ceiling width height count =
    if (eqb width 0 || eqb height 0) (refuses 8 0) (if (count_fits ceiling count) (gives tt) (refuses 21 0))

-- the header of the options and the lent fields, and a body behind it: "fields" come after the tests of what is to be written
abbrev pub file_of : EncodeOptions → ℕ → ℕ → List ℕ → List ℕ → List ℕ → Answer (List ℕ)
file_of o width height text lengths body =
    map (λ header. header ++ body) (ext_header o.strict width height o.ext text lengths)
