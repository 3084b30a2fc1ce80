-- What a header reader demands and honours, each by itself.
use Rattle.std.specs.Prelude.{Bool, true, false}
use Rattle.header.specs.declared.HeaderMode.{HeaderMode}

pub record Settings : Type 0 where
  -- integers do not start with 0x80 (4)
  pub shortest : Bool
  -- the FixHeader byte is 0 (7)
  pub fix_zero : Bool
  -- fields are read where the FixHeader byte says that they follow; where this is false, that byte is skipped whatever it says
  pub honoured : Bool
  -- identifiers and values are in their classes (14, 15)
  pub classes : Bool

-- "`parse_header_inner` strict demands 0x00 (7)"; it reads no fields
abbrev pub inner : Bool → Settings
inner strict = record { shortest = strict; fix_zero = strict; honoured = false; classes = false }

-- "`parse_header_ext_inner` strict accepts fields"
abbrev pub ext_inner : Bool → Settings
ext_inner strict = record { shortest = strict; fix_zero = false; honoured = true; classes = strict }

-- what the code's struct means
abbrev pub settings : HeaderMode → Settings
settings m = record { shortest = m.shortest; fix_zero = m.fix_zero; honoured = m.fields; classes = m.classes }
