-- The cards that document 01 asks to be proved ("Cards to prove (P)"), typed from it: what goes in and the numbers that are expected.
use Rattle.std.specs.Prelude.{ℕ, Bool, true, false, List, [], ◌∷◌, ◌++◌, ℤ, pos, negsuc, replicate}
use Rattle.api.specs.declared.Sniffed.{Sniffed}
use Rattle.api.specs.declared.Sniffed.TheVariants.{Exact, Truncated, Neither}
use Rattle.rules.specs.Ordered.{numbers}
use Rattle.rules.specs.Rule.{Rule, threshold, dither, ordered}

pub data Row : Type 0 where
  -- a number and its bytes, written, and read strictly and not
  number : ℕ → List ℕ → Row
  -- an integer's bytes, read strictly or not, and its value
  value : Bool → List ℕ → ℕ → Row
  -- the same, refused: the code and the offset
  refused : Bool → List ℕ → ℕ → ℕ → Row
  -- a header, read leniently: width, height, the identifier and the value of its one pair, and where the body starts
  header : List ℕ → ℕ → ℕ → List ℕ → List ℕ → ℕ → Row
  -- a file, and what sniffing says of it
  sniffing : List ℕ → Sniffed → Row
  -- a body of a width and height, and its bytes as MonoWhite
  mono_white : ℕ → ℕ → List ℕ → List ℕ → Row
  -- samples of a width and height under a rule, and the plane's bytes
  plane : Rule → ℕ → ℕ → List ℕ → List ℕ → Row
  -- a number of sixteenths, and its rounding
  rounding : ℤ → ℤ → Row
  -- a gray at column 0 of row 0 under a rule, and whether it is white
  corner : Rule → ℕ → Bool → Row

-- the ordered rule of side 8
abbrev pub side_eight : Rule
side_eight = ordered 8 (numbers 3)

-- each row with the number of its card
abbrev pub table : List (ℕ × Row)
table =
    (1, number 0 (0x00 ∷ []))
    ∷ (1, number 127 (0x7F ∷ []))
    ∷ (1, number 128 (0x81 ∷ 0x00 ∷ []))
    ∷ (1, number 16384 (0x81 ∷ 0x80 ∷ 0x00 ∷ []))
    ∷ (2, number 4294967295 (0x8F ∷ 0xFF ∷ 0xFF ∷ 0xFF ∷ 0x7F ∷ []))
    ∷ (2, refused false (0x90 ∷ 0x80 ∷ 0x80 ∷ 0x80 ∷ 0x00 ∷ []) 2 5)
    ∷ (3, value false (0x80 ∷ 0x80 ∷ 0x05 ∷ []) 5)
    ∷ (3, refused true (0x80 ∷ 0x80 ∷ 0x05 ∷ []) 4 0)
    ∷ (4, value false (replicate 6 0x80 ++ (0x05 ∷ [])) 5)
    ∷ (4, refused false (replicate 7 0x80 ++ (0x05 ∷ [])) 3 8)
    ∷ (4, refused false (replicate 7 0x80) 1 7)
    ∷ (5, header (0x00 ∷ 0xE0 ∷ 0x12 ∷ 0x6B ∷ 0x31 ∷ 0x32 ∷ 0x09 ∷ 0x02 ∷ []) 9 2 (0x6B ∷ []) (0x31 ∷ 0x32 ∷ []) 8)
    ∷ (6, sniffing (0x00 ∷ 0x00 ∷ 0x09 ∷ 0x02 ∷ 0xFF ∷ 0x80 ∷ 0x00 ∷ 0x00 ∷ []) Exact)
    ∷ (6, sniffing (0x00 ∷ 0x00 ∷ 0x09 ∷ 0x02 ∷ 0xFF ∷ 0x80 ∷ 0x00 ∷ 0x01 ∷ []) Neither)
    ∷ (6, sniffing (0x00 ∷ 0x00 ∷ 0x09 ∷ 0x02 ∷ 0xFF ∷ 0x80 ∷ 0x00 ∷ []) Truncated)
    ∷ (7, mono_white 9 2 (0xFF ∷ 0x80 ∷ 0x00 ∷ 0x00 ∷ []) (0x00 ∷ 0x00 ∷ 0xFF ∷ 0x80 ∷ []))
    ∷ (8, plane dither 2 1 (127 ∷ 128 ∷ []) (0x40 ∷ []))
    ∷ (9, plane dither 1 2 (128 ∷ 128 ∷ []) (0x80 ∷ 0x00 ∷ []))
    ∷ (10, rounding (pos 7) (pos 0))
    ∷ (10, rounding (pos 8) (pos 1))
    ∷ (10, rounding (negsuc 6) (pos 0))
    ∷ (10, rounding (negsuc 7) (negsuc 0))
    ∷ (11, corner side_eight 1 false)
    ∷ (11, corner side_eight 2 true)
    ∷ (12, plane (threshold 0) 9 1 (replicate 9 0) (0xFF ∷ 0x80 ∷ []))
    ∷ []
