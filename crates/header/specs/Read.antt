-- Reading a header (document 01, header.rs): "Type, FixHeader, fields, width, height".
use Rattle.std.specs.Prelude.{ℕ, ◌+◌, Bool, ◌&&◌, ◌||◌, List, ltb, leb, eqb, length, get_or, Result}
use Rattle.error.specs.declared.WbmpError.{WbmpError}
use Rattle.error.specs.Choice.{if}
use Rattle.error.specs.Answer.{Answer, gives, refuses, answered, bind, map}
use Rattle.mbi.specs.Read.{read_mbi}
use Rattle.ext.specs.Kinds.{Fields, Span, span_of, ext_span, fields_follow, kind_bits}
use Rattle.ext.specs.Read.{read_fields}
use Rattle.header.specs.Settings.{Settings}
use Rattle.header.specs.declared.ParsedHeader.{ParsedHeader}

pub record Header : Type 0 where
  pub width : ℕ
  pub height : ℕ
  -- the FixHeader byte
  pub fix : ℕ
  pub fields : Fields
  -- the offsets where the fields, the sizes and the body start
  pub start : ℕ
  pub sizes : ℕ
  pub body : ℕ

-- "8, place after sizes: width or height 0"
abbrev pub read_height : Settings → List ℕ → ℕ → ℕ → Fields × ℕ → ℕ × ℕ → Answer Header
read_height o s fix start f w =
    bind (read_mbi o.shortest s w.1)
    (λ h. if (eqb w.0 0 || eqb h.0 0) (refuses 8 h.1)
    (gives (record { width = w.0; height = h.0; fix = fix; fields = f.0; start = start; sizes = f.1; body = h.1 })))

abbrev pub read_sizes : Settings → List ℕ → ℕ → ℕ → Fields × ℕ → Answer Header
read_sizes o s fix start f = bind (read_mbi o.shortest s f.1) (read_height o s fix start f)

abbrev pub read_after_fix : Settings → List ℕ → ℕ → ℕ → Answer Header
read_after_fix o s fix at =
    bind (read_fields o.classes (o.honoured && fields_follow fix) (kind_bits fix) s at) (read_sizes o s fix at)

-- "6, place: no FixHeader"; "7, its place: strict, FixHeader not 0"
abbrev pub read_fix : Settings → List ℕ → ℕ → Answer Header
read_fix o s at =
    if (leb (length s) at) (refuses 6 at)
    (if (o.fix_zero && ltb 0 (get_or s at 0)) (refuses 7 at)
    (read_after_fix o s (get_or s at 0) (at + 1)))

-- "5, place after it: type not 0"
unfoldable pub read_header : Settings → List ℕ → Answer Header
read_header o s = bind (read_mbi o.shortest s 0) (λ t. if (eqb t.0 0) (read_fix o s t.1) (refuses 5 t.1))

-- A header with its fields by their span in the input.
pub record Outline : Type 0 where
  pub width : ℕ
  pub height : ℕ
  pub fix : ℕ
  pub fields : Span
  pub body : ℕ

abbrev pub outline : Header → Outline
outline h =
    record { width = h.width; height = h.height; fix = h.fix; fields = span_of h.start (h.fields, h.sizes); body = h.body }

-- the sizes of a header whose fields have a span
abbrev pub sized : ℕ → Span → ℕ → ℕ × ℕ → Answer Outline
sized fix f width h =
    if (eqb width 0 || eqb h.0 0) (refuses 8 h.1)
    (gives (record { width = width; height = h.0; fix = fix; fields = f; body = h.1 }))

abbrev pub outline_height : Bool → List ℕ → ℕ → Span → ℕ × ℕ → Answer Outline
outline_height shortest s fix f w = bind (read_mbi shortest s w.1) (sized fix f w.0)

abbrev pub outline_sizes : Bool → List ℕ → ℕ → Span → ℕ → Answer Outline
outline_sizes shortest s fix f at = bind (read_mbi shortest s at) (outline_height shortest s fix f)

-- what the code's values mean
abbrev pub parsed : ParsedHeader → Outline
parsed h =
    record {
      width = h.width;
      height = h.height;
      fix = h.fix_header;
      fields = ext_span h.ext_fields;
      body = h.data_offset;
    }

abbrev pub meaning : Result ParsedHeader WbmpError → Answer Outline
meaning r = map parsed (answered r)
