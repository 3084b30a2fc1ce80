-- The extension bytes of a file so far (document 01, "Reading session"): "Extension bytes go unaltered to a lent buffer .. ; a refused file
-- leaves there those before its refusal's place and all that earlier calls took."
use Rattle.std.specs.Prelude.{ℕ, ◌+◌, true, ◌&&◌, List, [], length, ◌==◌, nat_le, nat_lt, slice_index_or}
use Rattle.std.proofs.Math.Seq.{slice}
use Rattle.error.specs.Choice.{if}
use Rattle.error.specs.Answer.{Answer, gives, refuses, is_end}
use Rattle.mbi.specs.Read.{read_mbi}
use Rattle.ext.specs.Kinds.{Fields, fields_follow, kind_bits}
use Rattle.ext.specs.Read.{read_fields}
use Rattle.header.specs.Settings.{Settings}

-- where the fields that start in s end: after them, before what is refused in them, or with s, which is short of them
abbrev pub fields_end : List ℕ → Answer (Fields × ℕ) → ℕ
fields_end s (gives f) = f.1
fields_end s (refuses code place) = if (is_end code) (length s) place

-- behind the FixHeader byte, where that says that fields follow
abbrev pub field_bytes_at : Settings → List ℕ → ℕ → List ℕ
field_bytes_at o s at =
    let fix = slice_index_or s at 0 in
    if (nat_le (length s) at) []
    (if (o.fix_zero && nat_lt 0 fix) []
    (if (o.honoured && fields_follow fix)
    (slice (at + 1) (fields_end s (read_fields o.classes true (kind_bits fix) s (at + 1))) s)
    []))

abbrev pub after_type : Settings → List ℕ → Answer (ℕ × ℕ) → List ℕ
after_type o s (gives t) = if (t.0 == 0) (field_bytes_at o s t.1) []
after_type o s (refuses code place) = []

unfoldable pub field_bytes : Settings → List ℕ → List ℕ
field_bytes o s = after_type o s (read_mbi o.shortest s 0)
