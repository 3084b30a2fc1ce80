-- P6: nine by two. The body is exact; its last byte 01 sets a padding bit; without it a plane is cut short.
use mathlib.Core.Path.{◌≡◌, refl}
use mathlib.Core.List.{[], ◌∷◌}
use Rattle.error.specs.Answer.{gives}
use Rattle.mbi.specs.Read.{read_rest, read_byte}
use Rattle.ext.specs.Kinds.{absent}
use Rattle.ext.specs.Read.{read_fields}
use Rattle.header.specs.Read.{read_header}
use Rattle.api.specs.Info.{read_info}
use Rattle.api.specs.Sniff.{are_clear, sniff_body, sniffed}
use Rattle.api.specs.declared.Sniffed.TheVariants.{Exact, Truncated, Neither}

exact : sniffed (0 ∷ 0 ∷ 9 ∷ 2 ∷ 0xFF ∷ 0x80 ∷ 0 ∷ 0 ∷ []) ≡ Exact
unfolding sniffed sniff_body are_clear read_header read_rest read_byte read_fields
exact = refl

dirty : sniffed (0 ∷ 0 ∷ 9 ∷ 2 ∷ 0xFF ∷ 0x80 ∷ 0 ∷ 1 ∷ []) ≡ Neither
unfolding sniffed sniff_body are_clear read_header read_rest read_byte read_fields
dirty = refl

truncated : sniffed (0 ∷ 0 ∷ 9 ∷ 2 ∷ 0xFF ∷ 0x80 ∷ 0 ∷ []) ≡ Truncated
unfolding sniffed sniff_body are_clear read_header read_rest read_byte read_fields
truncated = refl

-- a body that is short has 1 frame, and two planes and a rest have 2
short : read_info (0 ∷ 0 ∷ 9 ∷ 2 ∷ 0xFF ∷ []) ≡ gives (record { width = 9; height = 2; frames = 1; fix = 0; fields = absent; body = 4 })
unfolding read_info read_header read_rest read_byte read_fields
short = refl

two : read_info (0 ∷ 0 ∷ 8 ∷ 1 ∷ 0xFF ∷ 0 ∷ []) ≡ gives (record { width = 8; height = 1; frames = 2; fix = 0; fields = absent; body = 4 })
unfolding read_info read_header read_rest read_byte read_fields
two = refl
