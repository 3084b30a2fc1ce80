-- Cards that are made and read back: two dithered scans of two by one, one sample more, and the octet 5 of kind 00 or no fields.
use Rattle.std.proofs.Common.{Option, Some, None}
use Rattle.ext.specs.declared.ExtFieldType.{ExtFieldType}
use Prim.Native.Nat.{ℕ}
use mathlib.Core.Path.{◌≡◌, refl}
use mathlib.Core.Bool.{Bool, true, false}
use mathlib.Core.List.{List, [], ◌∷◌, ◌++◌}
use native.Mathlib.Omega.{arith}
use Rattle.error.specs.Answer.{gives}
use Rattle.mbi.specs.Bytes.{mbi_bytes, groups}
use Rattle.ext.specs.Kinds.{none, bitfield}
use Rattle.ext_write.specs.Write.{fields_bytes, octets_bytes, lent_fields}
use Rattle.ext.specs.declared.ExtFieldType.TheVariants.{Bitfield00}
use Rattle.options.specs.Defaults.{defaults, with_strict}
use Rattle.options.specs.declared.EncodeOptions.{EncodeOptions}
use Rattle.options.specs.declared.Quantize.TheVariants.{Dither}
use Rattle.rules.specs.Diffusion.{part, value, white, residual, value_from, handed, row_value, above, value_at}
use Rattle.rules.specs.Rule.{dither, dot}
use Rattle.quantize.specs.Finished.{begun_bytes, count, frame, dot_of, finished, setting}
use Rattle.rules.specs.Packed.{padded_bit, byte_at}
use Rattle.rules.specs.Bits.{upto, appended}
use Rattle.encoder.specs.Make.{check_scans, file_of_scans}
use Rattle.api.specs.Sniff.{sniffed}
use Rattle.api.specs.declared.Sniffed.TheVariants.{Exact}
use Rattle.conformance.specs.ReadBack.{Admitted, lent_scan, scan_white, ReadsBack}
use Rattle.conformance.proofs.Made.{made-is, made-back, made_plain, made-exact}

abbrev scans : List ℕ
scans = 127 ∷ 128 ∷ 128 ∷ 128 ∷ 255 ∷ []

abbrev maker : (Option ExtFieldType) → EncodeOptions
maker ext = record { quantize = Dither; ext = ext; strict = false }

abbrev fielded : List ℕ
fielded = 0x00 ∷ 0x80 ∷ 0x05 ∷ 0x02 ∷ 0x01 ∷ 0x40 ∷ 0x80 ∷ []

abbrev bare : List ℕ
bare = 0x00 ∷ 0x00 ∷ 0x02 ∷ 0x01 ∷ 0x40 ∷ 0x80 ∷ []

fielded-made : file_of_scans 16 (maker (Some Bitfield00)) 2 1 2 scans (5 ∷ []) [] 4 ≡ gives fielded
unfolding file_of_scans check_scans lent_fields fields_bytes octets_bytes mbi_bytes groups part value white residual value_from handed row_value
    above value_at dot begun_bytes count frame dot_of padded_bit byte_at
    finished upto appended
fielded-made = refl

by_parts : file_of_scans 16 (maker None) 2 1 2 scans [] [] 4
    ≡ gives ((0x00 ∷ 0x00 ∷ 0x02 ∷ 0x01 ∷ []) ++ finished (setting dither 2 1 2) (127 ∷ 128 ∷ 128 ∷ 128 ∷ []))
unfolding check_scans fields_bytes mbi_bytes groups
by_parts = made-is 16 (maker None) 2 1 2 scans [] [] 4 (0x00 ∷ 0x00 ∷ 0x02 ∷ 0x01 ∷ []) refl refl

bare-made : file_of_scans 16 (maker None) 2 1 2 scans [] [] 4 ≡ gives bare
unfolding file_of_scans check_scans fields_bytes mbi_bytes groups part value white residual value_from handed row_value above value_at dot
    begun_bytes count frame dot_of padded_bit byte_at finished upto appended
bare-made = refl

admitted : (strict : Bool) → Admitted (with_strict strict defaults) 2 1
admitted strict = record { wide = refl; high = refl; pixels = refl; bytes = refl }

lenient : ReadsBack 16 defaults fielded 2 1 (bitfield (5 ∷ [])) 2 (λ k. finished (setting dither 2 1 1) (lent_scan 2 1 scans k))
    (λ k. scan_white dither 2 1 (lent_scan 2 1 scans k))
unfolding lent_fields
lenient =
    made-back 16 16 defaults (maker (Some Bitfield00)) 2 1 2 scans (5 ∷ []) [] 4 fielded (bitfield (5 ∷ [])) (omega arith) (omega arith)
    (omega arith) refl (omega arith)
    (admitted false) fielded-made

strict : ReadsBack 16 (with_strict true defaults) bare 2 1 none 2 (λ k. finished (setting dither 2 1 1) (lent_scan 2 1 scans k))
    (λ k. scan_white dither 2 1 (lent_scan 2 1 scans k))
strict =
    made_plain 16 16 (with_strict true defaults) (maker None) 2 1 2 scans [] [] 4 bare (omega arith) (omega arith) (omega arith) refl
    (admitted true) bare-made

-- the first frame alone
first : ReadsBack 1 defaults bare 2 1 none 2 (λ k. finished (setting dither 2 1 1) (lent_scan 2 1 scans k))
    (λ k. scan_white dither 2 1 (lent_scan 2 1 scans k))
first =
    made_plain 16 1 defaults (maker None) 2 1 2 scans [] [] 4 bare (omega arith) (omega arith) (omega arith) refl (admitted false)
    bare-made

exact : sniffed bare ≡ Exact
exact = made-exact (maker None) 2 1 2 scans [] [] 4 bare refl (omega arith) (omega arith) bare-made
