-- Cards that are written and read back: nine by two, MonoWhite, a byte between the rows and dirty padding, one byte more than two frames.
use Rattle.std.proofs.Common.{Option, Some, None}
use Rattle.ext.specs.declared.ExtFieldType.{ExtFieldType}
use Prim.Native.Nat.{ℕ}
use mathlib.Core.Path.{◌≡◌, refl}
use mathlib.Core.Bool.{Bool, true, false}
use mathlib.Core.List.{List, [], ◌∷◌}
use native.Mathlib.Omega.{arith}
use Rattle.error.specs.Answer.{gives}
use Rattle.laws.proofs.Octets.{octets-by}
use Rattle.mbi.specs.Bytes.{mbi_bytes, groups}
use Rattle.ext.specs.Kinds.{none, pairs}
use Rattle.ext.specs.Classes.{all, is_alpha_digit}
use Rattle.ext_write.specs.Write.{fields_bytes, pairs_bytes, check_pair, lent_fields, cut_pairs, sum}
use Rattle.ext.specs.declared.ExtFieldType.TheVariants.{ParameterPairs11}
use Rattle.image.specs.Dots.{is_white}
use Rattle.image.specs.Geometry.{check_geometry}
use Rattle.image.specs.Rows.{clear_padding, wire_row, wire_bits}
use Rattle.image.specs.declared.PixelFormat.TheVariants.{MonoWhite}
use Rattle.options.specs.Defaults.{defaults, with_strict, with_format}
use Rattle.options.specs.declared.EncodeOptions.{EncodeOptions}
use Rattle.options.specs.declared.Quantize.TheVariants.{Threshold}
use Rattle.encoder.specs.Write.{check_planes, lent_plane, wire_planes, file_of_planes}
use Rattle.conformance.specs.ReadBack.{Admitted, ReadsBack}
use Rattle.conformance.proofs.Written.{written_back, written-plain}

abbrev pub nine_by_two : List ℕ
nine_by_two = 0xFF ∷ 0x81 ∷ 0x4D ∷ 0x00 ∷ 0x01 ∷ 0x00 ∷ 0x00 ∷ 0x4D ∷ 0xFF ∷ 0xFF ∷ 0x07 ∷ []

abbrev pub writer : (Option ExtFieldType) → EncodeOptions
writer ext = record { quantize = Threshold 128; ext = ext; strict = true }

-- with the pair k = 12, and without fields
abbrev paired : List ℕ
paired =
    0x00 ∷ 0xE0 ∷ 0x12 ∷ 0x6B ∷ 0x31 ∷ 0x32 ∷ 0x09 ∷ 0x02 ∷ 0x00 ∷ 0x00 ∷ 0xFF ∷ 0x80 ∷ 0xFF ∷ 0x80 ∷ 0x00 ∷ 0x00 ∷ []

abbrev pub bare : List ℕ
bare = 0x00 ∷ 0x00 ∷ 0x09 ∷ 0x02 ∷ 0x00 ∷ 0x00 ∷ 0xFF ∷ 0x80 ∷ 0xFF ∷ 0x80 ∷ 0x00 ∷ 0x00 ∷ []

paired-written : file_of_planes 16 (writer (Some ParameterPairs11)) MonoWhite 9 2 2 3 nine_by_two (0x6B ∷ 0x31 ∷ 0x32 ∷ []) (1 ∷ 2 ∷ [])
    ≡ gives paired
unfolding file_of_planes check_planes check_geometry wire_planes wire_bits wire_row clear_padding lent_fields cut_pairs sum fields_bytes pairs_bytes
    check_pair all is_alpha_digit mbi_bytes groups
paired-written = refl

pub bare-written : file_of_planes 16 (writer None) MonoWhite 9 2 2 3 nine_by_two [] [] ≡ gives bare
unfolding file_of_planes check_planes check_geometry wire_planes wire_bits wire_row clear_padding fields_bytes mbi_bytes groups
bare-written = refl

admitted : (strict : Bool) → Admitted (with_strict strict (with_format MonoWhite defaults)) 9 2
admitted strict = record { wide = refl; high = refl; pixels = refl; bytes = refl }

lenient : ReadsBack 16 (with_format MonoWhite defaults) paired 9 2 (pairs (record { identifier = 0x6B ∷ []; value = 0x31 ∷ 0x32 ∷ [] } ∷ []))
    2
    (λ k. wire_bits MonoWhite 9 2 3 (lent_plane 9 2 3 nine_by_two k)) (λ k. is_white MonoWhite 9 2 3 (lent_plane 9 2 3 nine_by_two k))
unfolding lent_fields cut_pairs sum
lenient =
    written_back 16 16 (with_format MonoWhite defaults) (writer (Some ParameterPairs11)) MonoWhite 9 2 2 3 nine_by_two
    (0x6B ∷ 0x31 ∷ 0x32 ∷ []) (1 ∷ 2 ∷ []) paired _
    (omega arith) (omega arith) (omega arith) (octets-by nine_by_two refl) refl (omega arith, tt) (admitted false) paired-written

strict : ReadsBack 16 (with_strict true (with_format MonoWhite defaults)) bare 9 2 none 2
    (λ k. wire_bits MonoWhite 9 2 3 (lent_plane 9 2 3 nine_by_two k)) (λ k. is_white MonoWhite 9 2 3 (lent_plane 9 2 3 nine_by_two k))
strict =
    written-plain 16 16 (with_strict true (with_format MonoWhite defaults)) (writer None) MonoWhite 9 2 2 3 nine_by_two [] [] bare
    (omega arith) (omega arith) (omega arith) (octets-by nine_by_two refl) refl (admitted true) bare-written
