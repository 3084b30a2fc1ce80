-- Writing a header (document 01, header.rs and "Refused").
use Rattle.std.specs.Prelude.{ℕ, ◌+◌, ◌*◌, Bool, ◌||◌, List, [], ◌∷◌, ◌++◌, eqb, Option, Some, None}
use Rattle.ext.specs.declared.ExtFieldType.{ExtFieldType}
use Rattle.error.specs.Choice.{if}
use Rattle.error.specs.Answer.{Answer, gives, refuses, bind, map}
use Rattle.mbi.specs.Bytes.{mbi_bytes}
use Rattle.ext.specs.Kinds.{Fields, none, bitfield, reserved, pairs, kind_number}
use Rattle.ext_write.specs.Write.{fields_bytes, lent_fields}

-- the FixHeader byte of fields: bit 7 says that they follow, bits 6-5 their kind
abbrev pub fix_byte : Fields → ℕ
fix_byte none = 0
fix_byte (bitfield octets) = 128
fix_byte (reserved kind octet) = 128 + kind * 32
fix_byte (pairs ps) = 224

abbrev pub size_bytes : ℕ → ℕ → List ℕ
size_bytes width height = mbi_bytes width ++ mbi_bytes height

-- Type 0, a FixHeader byte, the bytes of the fields, Width, Height
abbrev pub header_bytes : ℕ → List ℕ → ℕ → ℕ → List ℕ
header_bytes fix fields width height = mbi_bytes 0 ++ fix ∷ (fields ++ size_bytes width height)

-- "`write_header` writes zero sizes"
abbrev pub plain_header : ℕ → ℕ → Answer (List ℕ)
plain_header width height = gives (header_bytes 0 [] width height)

-- the header of a size with fields
abbrev pub fields_header : Bool → ℕ → ℕ → Fields → Answer (List ℕ)
fields_header strict width height f = map (λ bytes. header_bytes (fix_byte f) bytes width height) (fields_bytes strict f)

-- the fields that are lent to be written
abbrev pub presented : Option ExtFieldType → List ℕ → List ℕ → Answer Fields
presented None text lengths = gives none
presented (Some kind) text lengths = lent_fields (kind_number kind) text lengths

-- the header of fields that are lent
abbrev pub lent_header : Bool → ℕ → ℕ → ℕ → List ℕ → List ℕ → Answer (List ℕ)
lent_header strict width height kind text lengths = bind (lent_fields kind text lengths) (fields_header strict width height)

-- "`write_header_ext` refuses them" (8, before the fields' own refusals)
abbrev pub ext_header : Bool → ℕ → ℕ → Option ExtFieldType → List ℕ → List ℕ → Answer (List ℕ)
ext_header strict width height presence text lengths =
    if (eqb width 0 || eqb height 0) (refuses 8 0) (bind (presented presence text lengths) (fields_header strict width height))
