-- The fields of a header as single numbers (document 01: "ExtFields: kind, start, length and pair count within the input").
use Rattle.std.specs.Prelude.{ℕ, ◌+◌}
use Rattle.ext.specs.Kinds.{Span, absent, span}

-- 0 where there are none, else 1 more than the kind: 1 to 4 for the kinds 00, 01, 10 and 11
abbrev pub fields_kind : Span → ℕ
fields_kind absent = 0
fields_kind (span kind start len pairs) = 1 + kind

-- each is 0 where there are no fields
abbrev pub fields_start : Span → ℕ
fields_start absent = 0
fields_start (span kind start len pairs) = start

abbrev pub fields_length : Span → ℕ
fields_length absent = 0
fields_length (span kind start len pairs) = len

abbrev pub fields_pairs : Span → ℕ
fields_pairs absent = 0
fields_pairs (span kind start len pairs) = pairs
