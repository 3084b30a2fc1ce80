-- Surplus samples, and cards that are made or refused.
use Rattle.std.proofs.Common.{None, Some}
use Prim.Native.Nat.{ℕ, ◌-◌, ◌*◌, ◌^◌}
use mathlib.Core.Path.{◌≡◌, refl}
use mathlib.Core.Bool.{false}
use mathlib.Core.List.{List, [], ◌∷◌, ◌++◌}
use native.Mathlib.Omega.{arith}
use lib.ListN.{length, length-append}
use lib.Seq.{take-append-le}
use Rattle.error.specs.Answer.{gives, refuses}
use Rattle.error.specs.Emits.{emitted}
use Rattle.mbi.specs.Bytes.{groups, mbi_bytes}
use Rattle.ext_write.specs.Write.{octets_bytes, fields_bytes, lent_fields}
use Rattle.ext.specs.declared.ExtFieldType.TheVariants.{Bitfield00}
use Rattle.header.specs.Write.{ext_header}
use Rattle.options.specs.declared.EncodeOptions.{EncodeOptions}
use Rattle.options.specs.declared.Quantize.{Quantize}
use Rattle.options.specs.declared.Quantize.TheVariants.{Threshold, Dither, Ordered}
use Rattle.rules.specs.Bits.{upto, appended}
use Rattle.rules.specs.Diffusion.{part, value, white, residual, value_from, handed, row_value, above, value_at}
use Rattle.rules.specs.Rule.{dither, dot}
use Rattle.quantize.specs.Finished.{setting, begun_bytes, count, frame, dot_of, finished}
use Rattle.rules.specs.Packed.{padded_bit, byte_at}
use Rattle.encoder.specs.Make.{check_scans, file_of_scans}
use Rattle.encoder.proofs.ScanTests.{passed, passes}

-- "Surplus is ignored": samples behind the last scan change nothing
pub surplus-ignored : (ceiling : ℕ) (o : EncodeOptions) (w h n : ℕ) (gray ρ text lengths : List ℕ) (work : ℕ)
    → check_scans ceiling o w h n (length gray) work ≡ gives tt
    → file_of_scans ceiling o w h n (gray ++ ρ) text lengths work ≡ file_of_scans ceiling o w h n gray text lengths work
unfolding file_of_scans
surplus-ignored ceiling o w h n gray ρ text lengths work tests =
    let p = passed ceiling o w h n (length gray) work tests in
    let l = length-append gray ρ in
    let more : check_scans ceiling o w h n (length (gray ++ ρ)) work ≡ gives tt =
    passes ceiling o w h n (length (gray ++ ρ)) work
    (record { sized = p.sized; known = p.known; room = p.room; enough = omega (arith, p.enough) }) in
    rw (more, tests, take-append-le (n * (w * h)) gray ρ p.enough)

-- ---- two scans of two samples, P8's and a lighter one: the second starts clean

-- a rule without fields
abbrev ruled : Quantize → EncodeOptions
ruled rule = record { quantize = rule; ext = None; strict = false }

abbrev dithering : EncodeOptions
dithering = ruled Dither

abbrev scans : List ℕ
scans = 127 ∷ 128 ∷ 128 ∷ 128 ∷ 255 ∷ []

two-tested : check_scans 16 dithering 2 1 2 5 4 ≡ gives tt
unfolding check_scans
two-tested = refl

two-fronted : ext_header false 2 1 None [] [] ≡ gives (0 ∷ 0 ∷ 2 ∷ 1 ∷ [])
unfolding mbi_bytes groups fields_bytes
two-fronted = refl

two-finished : finished (setting dither 2 1 2) (127 ∷ 128 ∷ 128 ∷ 128 ∷ []) ≡ 0x40 ∷ 0x80 ∷ []
unfolding upto appended part value white residual value_from handed row_value above value_at dot begun_bytes count frame dot_of padded_bit byte_at
    finished
two-finished = refl

two-surplus : (ρ : List ℕ) → file_of_scans 16 dithering 2 1 2 (scans ++ ρ) [] [] 4 ≡ file_of_scans 16 dithering 2 1 2 scans [] [] 4
two-surplus ρ = surplus-ignored 16 dithering 2 1 2 scans ρ [] [] 4 two-tested

two_made : file_of_scans 16 dithering 2 1 2 scans [] [] 4 ≡ gives (0 ∷ 0 ∷ 2 ∷ 1 ∷ 0x40 ∷ 0x80 ∷ [])
unfolding file_of_scans
two_made = rw (two-tested, two-fronted, two-finished)

-- an output one byte short
two-short : (old : List ℕ) → length old ≡ 5 → emitted (file_of_scans 16 dithering 2 1 2 scans [] [] 4) old ≡ refuses 25 0
two-short old e = rw (two_made, e)

-- ---- "Whole making: 8, 21, 29, 28, 22, fields", each before the next

size-first : check_scans 16 (ruled (Ordered 3)) 0 1 0 0 0 ≡ refuses 8 0
unfolding check_scans
size-first = refl

then-count : check_scans 16 (ruled (Ordered 3)) 1 1 17 0 0 ≡ refuses 21 0
unfolding check_scans
then-count = refl

then_rule : check_scans 16 (ruled (Ordered 3)) 1 1 16 0 0 ≡ refuses 29 0
unfolding check_scans
then_rule = refl

then-work : check_scans 16 dithering 2 1 16 0 3 ≡ refuses 28 0
unfolding check_scans
then-work = refl

-- a total past 64 bits is too short
then-gray : check_scans 16 (ruled (Threshold 0)) (2 ^ 32 - 1) (2 ^ 32 - 1) 16 (2 ^ 64 - 1) 0 ≡ refuses 22 0
unfolding check_scans
then-gray = refl

abbrev empty : EncodeOptions
empty = record { quantize = Threshold 128; ext = Some Bitfield00; strict = false }

gray-before-fields : file_of_scans 16 empty 2 1 2 (1 ∷ 2 ∷ 3 ∷ []) [] [] 0 ≡ refuses 22 0
unfolding file_of_scans check_scans
gray-before-fields = refl

then-fields : file_of_scans 16 empty 2 1 2 (1 ∷ 2 ∷ 3 ∷ 4 ∷ []) [] [] 0 ≡ refuses 23 0
unfolding file_of_scans check_scans octets_bytes lent_fields fields_bytes
then-fields = refl
