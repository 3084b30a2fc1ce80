-- Two planes of nine by two dots as MonoWhite, a byte between their rows and dirty padding: the laws on planes to be written hold of
-- something.
use Rattle.std.proofs.Common.{None}
use Prim.Native.Nat.{ℕ, ◌*◌, ◌≤◌}
use mathlib.Core.Path.{◌≡◌, refl}
use mathlib.Core.Bool.{false}
use mathlib.Core.List.{List, [], ◌∷◌, ◌++◌}
use lib.ListN.{length}
use Rattle.error.specs.Answer.{gives, refuses}
use Rattle.mbi.specs.Bytes.{mbi_bytes, groups}
use Rattle.ext_write.specs.Write.{fields_bytes}
use Rattle.image.specs.Geometry.{plane_bytes, check_geometry}
use Rattle.image.specs.Rows.{clear_padding, wire_row, wire_bits}
use Rattle.image.specs.declared.PixelFormat.TheVariants.{MonoWhite}
use Rattle.options.specs.declared.EncodeOptions.{EncodeOptions}
use Rattle.options.specs.declared.Quantize.TheVariants.{Threshold}
use Rattle.encoder.specs.Write.{check_planes, wire_planes, file_of_planes}
use Rattle.encoder.proofs.PlaneTests.{tested, body-within}
use Rattle.encoder.proofs.PlanesSurplus.{surplus-ignored}

abbrev planes : List ℕ
planes = 0x00 ∷ 0x7F ∷ 0x4D ∷ 0xFF ∷ 0xFF ∷ 0xFF ∷ 0x81 ∷ 0x4D ∷ 0x00 ∷ 0x01 ∷ []

abbrev options : EncodeOptions
options = record { quantize = Threshold 128; ext = None; strict = false }

passes : check_planes 16 9 2 2 3 (length planes) ≡ gives tt
unfolding check_planes check_geometry
passes = refl

within : 2 * plane_bytes 9 2 ≤ 10
within = body-within (tested 16 9 2 2 3 10 passes)

-- the first plane is P6's; the padding is cleared, and the bytes between the rows are left out
file : file_of_planes 16 options MonoWhite 9 2 2 3 planes [] []
    ≡ gives (0x00 ∷ 0x00 ∷ 0x09 ∷ 0x02 ∷ 0xFF ∷ 0x80 ∷ 0x00 ∷ 0x00 ∷ 0x00 ∷ 0x00 ∷ 0xFF ∷ 0x80 ∷ [])
unfolding file_of_planes check_planes check_geometry wire_planes wire_bits wire_row clear_padding fields_bytes mbi_bytes groups
file = refl

surplus : (ρ : List ℕ) → file_of_planes 16 options MonoWhite 9 2 2 3
    (planes ++ ρ) [] [] ≡ file_of_planes 16 options MonoWhite 9 2 2 3 planes [] []
surplus ρ = surplus-ignored 9 2 3 MonoWhite planes ρ 16 options 2 [] [] passes

-- a byte less is too short, and so is a third plane
short : check_planes 16 9 2 2 3 9 ≡ refuses 20 0
unfolding check_planes check_geometry
short = refl

third : check_planes 16 9 2 3 3 10 ≡ refuses 20 0
unfolding check_planes check_geometry
third = refl

-- no frame and a 17th are 21 before a stride below the row is 26
none : check_planes 16 9 2 0 1 10 ≡ refuses 21 0
unfolding check_planes
none = refl

seventeen : check_planes 16 9 2 17 1 10 ≡ refuses 21 0
unfolding check_planes
seventeen = refl

narrow : check_planes 16 9 2 16 1 10 ≡ refuses 26 0
unfolding check_planes check_geometry
narrow = refl

-- one plane past 64 bits is 27, but a total past 64 bits of planes that fit is 20
plane-past : check_planes 16 8 2 1 18446744073709551615 18446744073709551615 ≡ refuses 27 0
unfolding check_planes check_geometry
plane-past = refl

total-past : check_planes 16 8 2 2 18446744073709551614 18446744073709551615 ≡ refuses 20 0
unfolding check_planes check_geometry
total-past = refl
