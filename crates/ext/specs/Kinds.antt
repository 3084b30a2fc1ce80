-- What extension fields are, and how the code's values stand for them.
use Rattle.std.specs.Prelude.{ℕ, ◌-◌, ◌/◌, ◌%◌, ◌≡◌, Bool, List, leb, length, Option, Some, None, Result, Ok, Err}
use Rattle.error.specs.Answer.{Answer, gives, refusal}
use Rattle.error.specs.declared.WbmpError.{WbmpError}
use Rattle.ext.specs.declared.ExtFieldType.{ExtFieldType}
use Rattle.ext.specs.declared.ExtFieldType.TheVariants.{Bitfield00, Reserved01, Reserved10, ParameterPairs11}
use Rattle.ext.specs.declared.FixHeaderField.{FixHeaderField}
use Rattle.ext.specs.declared.PairHeader.{PairHeader}
use Rattle.ext.specs.declared.ExtFields.{ExtFields}

-- a pair of kind 11, WAP 4.4.3
pub record Pair : Type 0 where
  pub identifier : List ℕ
  pub value : List ℕ

-- Fields of a header: none, octets of 7 bits (kind 00), one octet (its kind, 1 or 2 for 01 or 10, and the octet), or pairs (kind 11).
pub data Fields : Type 0 where
  none : Fields
  bitfield : List ℕ → Fields
  reserved : ℕ → ℕ → Fields
  pairs : List Pair → Fields

-- "FixHeaderField bit 7: fields follow; bits 6-5: kind" (WAP 4.4.2, table 4-3)
abbrev pub fields_follow : ℕ → Bool
fields_follow b = leb 128 b

abbrev pub kind_bits : ℕ → ℕ
kind_bits b = b / 32 % 4

-- "A pair may start at 4,095; the fields are at most 4,118 bytes": such a pair ends them with a header byte and 7 and 15 bytes
abbrev pub longest_fields : ℕ
longest_fields = 4118

-- Where fields stand in an input: their kind's number, their first byte's offset, how many bytes they are, and how many pairs.
pub data Span : Type 0 where
  absent : Span
  span : ℕ → ℕ → ℕ → ℕ → Span

-- the span of fields that start and end at two offsets
abbrev pub span_of : ℕ → Fields × ℕ → Span
span_of start (none, end) = absent
span_of start (bitfield octets, end) = span 0 start (end - start) 0
span_of start (reserved kind octet, end) = span kind start (end - start) 0
span_of start (pairs ps, end) = span 3 start (end - start) (length ps)

-- what the code's values mean
abbrev pub kind_number : ExtFieldType → ℕ
kind_number Bitfield00 = 0
kind_number Reserved01 = 1
kind_number Reserved10 = 2
kind_number ParameterPairs11 = 3

pub record SplitFix (b : ℕ) (r : FixHeaderField) : Type 0 where
  pub raw_is : r.raw ≡ b
  pub follow_is : r.ext_fields_follow ≡ fields_follow b
  pub kind_is : kind_number r.ext_type ≡ kind_bits b

-- "header bit 7 continues, bits 6-4 identifier length, bits 3-0 value length"
abbrev pub pair_header : ℕ → PairHeader
pair_header b = record { identifier_len = b / 16 % 8; value_len = b % 16; more = leb 128 b }

abbrev pub fields_span : ExtFields → Span
fields_span f = span (kind_number f.ext_type) f.start f.len f.pairs

abbrev pub fields_read : Result ExtFields WbmpError → Answer Span
fields_read (Ok f) = gives (fields_span f)
fields_read (Err e) = refusal e

-- fields that were read, or none
abbrev pub ext_span : Option ExtFields → Span
ext_span None = absent
ext_span (Some f) = fields_span f

abbrev pub meaning : Result (Option ExtFields) WbmpError → Answer Span
meaning (Ok f) = gives (ext_span f)
meaning (Err e) = refusal e
