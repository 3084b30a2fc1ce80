-- A plane of 9 by 2 dots with a byte between its rows and dirty padding: the laws on planes hold of something.
use Prim.Native.Nat.{ℕ}
use mathlib.Core.Path.{◌≡◌, refl}
use mathlib.Core.List.{List, [], ◌∷◌, ◌++◌}
use native.Mathlib.Omega.{arith}
use lib.ListN.{length, take, drop}
use Rattle.error.specs.Answer.{gives, refuses}
use Rattle.laws.proofs.Octets.{Octets, octets-by}
use Rattle.image.specs.Dots.{bit_at, is_white}
use Rattle.image.specs.Geometry.{check_geometry}
use Rattle.image.specs.Internal.Parts.{clear_rows}
use Rattle.image.specs.Rows.{clear_padding, invert, convert_row, convert_rows, convert_format, wire_row, wire_bits}
use Rattle.image.specs.declared.PixelFormat.TheVariants.{MonoBlack, MonoWhite}
use Rattle.image.proofs.PackedAsRows.{converts-at-once, wires-at-once}
use Rattle.image.proofs.ConvertDots.{Converts, cleared, converted-twice, converted-dots}
use Rattle.image.proofs.WireDots.{wire-dots, shown-dots, wire-padding}

abbrev plane : List ℕ
plane = 255 ∷ 129 ∷ 77 ∷ 0 ∷ 1 ∷ []

passes : check_geometry 9 2 3 (length plane) ≡ gives tt
unfolding check_geometry
passes = refl

-- one byte less is too short, and a stride of 1 is below the row
short : check_geometry 9 2 3 4 ≡ refuses 20 0
unfolding check_geometry
short = refl

narrow : check_geometry 9 1 1 5 ≡ refuses 26 0
unfolding check_geometry
narrow = refl

bytes : Octets plane
bytes = octets-by plane refl

-- the other format: padding is cleared, and the byte between the rows is as it was
other : convert_format MonoBlack MonoWhite 9 2 3 plane ≡ 0 ∷ 0 ∷ 77 ∷ 255 ∷ 128 ∷ []
unfolding convert_format convert_rows convert_row clear_padding
other = refl

twice : Converts 9 2 3 (cleared 9) plane (convert_format MonoWhite MonoBlack 9 2 3 (convert_format MonoBlack MonoWhite 9 2 3 plane))
twice = converted-twice MonoBlack 9 2 3 plane passes bytes

same-dot : is_white MonoWhite 9 2 3 (convert_format MonoBlack MonoWhite 9 2 3 plane) 8 0 ≡ is_white MonoBlack 9 2 3 plane 8 0
same-dot = converted-dots MonoBlack 9 2 3 plane passes bytes 8 0

-- the wire bits of the same bytes as MonoWhite
wired : wire_bits MonoWhite 9 2 3 plane ≡ 0 ∷ 0 ∷ 255 ∷ 128 ∷ []
unfolding wire_bits wire_row clear_padding
wired = refl

wired-dot : is_white MonoBlack 9 2 2 (wire_bits MonoWhite 9 2 3 plane) 8 1 ≡ is_white MonoWhite 9 2 3 plane 8 1
wired-dot = wire-dots MonoWhite 9 2 3 plane passes bytes 8 1

-- inverted wire bits of a native plane, taken to be MonoWhite
shown-dot : is_white MonoWhite 9 2 2 (wire_bits MonoWhite 9 2 3 plane) 8 1 ≡ is_white MonoBlack 9 2 3 plane 8 1
shown-dot = shown-dots MonoWhite 9 2 3 plane passes bytes 8 1

clear-bit : bit_at 2 (wire_bits MonoWhite 9 2 3 plane) 15 1 ≡ 0
clear-bit = wire-padding MonoWhite 9 2 3 plane 15 1 (omega arith) (omega arith) (omega arith)

-- the same rows without a gap, and a byte after them: at once is as row by row
abbrev packed : List ℕ
packed = 255 ∷ 129 ∷ 0 ∷ 1 ∷ 77 ∷ []

at_once : clear_rows 9 2 (invert (take 4 packed)) ++ drop 4 packed ≡ convert_rows 9 2 2 0 packed
at_once = converts-at-once 9 2 packed (omega arith)

wired-at-once : clear_rows 9 2 (invert (take 4 packed)) ≡ wire_bits MonoWhite 9 2 2 packed
wired-at-once = wires-at-once 9 2 packed (omega arith) MonoWhite
