-- The extension fields of a file so far: read with their last byte, before the sizes are.
use Rattle.std.specs.Prelude.{ℕ, ◌+◌, ◌≡◌, ◌&&◌, List, ltb, leb, eqb, length, get_or}
use Rattle.error.specs.Choice.{if}
use Rattle.error.specs.Answer.{Answer, gives, refuses, bind, map}
use Rattle.mbi.specs.Read.{read_mbi}
use Rattle.ext.specs.Kinds.{Span, span_of, ext_span, fields_follow, kind_bits}
use Rattle.ext.specs.Read.{read_fields}
use Rattle.header.specs.Settings.{Settings}
use Rattle.header_reader.specs.Internal.Machine.{State, in_type, at_fix, in_octets, at_octet, at_pair, in_identifier, in_value, in_width}
use Rattle.header_reader.specs.Internal.Machine.{in_height}
use Rattle.header_reader.specs.Internal.Represents.{Represents}
use Rattle.header_reader.specs.declared.FieldsSeen.{FieldsSeen}
use Rattle.header_reader.specs.declared.reader.HeaderReader.{HeaderReader}

-- type, FixHeader and fields, each by the tests of `read_header`; the fields by their span
abbrev pub span_after_fix : Settings → List ℕ → ℕ → ℕ → Answer Span
span_after_fix o s fix at = map (span_of at) (read_fields o.classes (o.honoured && fields_follow fix) (kind_bits fix) s at)

abbrev pub span_at_fix : Settings → List ℕ → ℕ → Answer Span
span_at_fix o s at =
    if (leb (length s) at) (refuses 6 at)
    (if (o.fix_zero && ltb 0 (get_or s at 0)) (refuses 7 at)
    (span_after_fix o s (get_or s at 0) (at + 1)))

unfoldable pub read_span : Settings → List ℕ → Answer Span
read_span o s = bind (read_mbi o.shortest s 0) (λ t. if (eqb t.0 0) (span_at_fix o s t.1) (refuses 5 t.1))

-- what is known of the fields: nothing yet, or their span
pub data Known : Type 0 where
  unknown : Known
  known : Span → Known

abbrev pub known_by : Answer Span → Known
known_by (gives f) = known f
known_by (refuses code place) = unknown

-- what a file so far tells of them
abbrev pub fields_known : Settings → List ℕ → Known
fields_known o s = known_by (read_span o s)

-- what a reading has of them
abbrev pub known_in : State → Known
known_in (in_type at v n) = unknown
known_in (at_fix at) = unknown
known_in (in_octets fix start at) = unknown
known_in (at_octet fix at) = unknown
known_in (at_pair fix start at pairs) = unknown
known_in (in_identifier fix start at pairs begun left size again fault) = unknown
known_in (in_value fix start at pairs begun left again fault) = unknown
known_in (in_width fix f at v n) = known f
known_in (in_height fix f w at v n) = known f

-- what the code's value means
abbrev pub known_meaning : FieldsSeen → Known
known_meaning FieldsSeen.Unread = unknown
known_meaning (FieldsSeen.Seen f) = known (ext_span f)

-- `fields`: for whatever the reader stands for
pub record Knows (r : HeaderReader) (x : FieldsSeen) : Type 0 where
  pub does : (o : Settings) (st : State) → Represents r o st → known_meaning x ≡ known_in st
