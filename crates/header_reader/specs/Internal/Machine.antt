-- Reading a header byte by byte: where a reading stands, what one byte does, and what is left of the reading from there.
use Rattle.std.specs.Prelude.{ℕ, ◌+◌, ◌-◌, ◌/◌, ◌%◌, Bool, true, false, ◌&&◌, ◌||◌, List, [], ◌∷◌, ltb, leb, eqb}
use Rattle.error.specs.Choice.{if}
use Rattle.error.specs.Answer.{Answer, gives, refuses}
use Rattle.mbi.specs.Read.{ByteRead, goes, ends, wrong, read_byte, integer}
use Rattle.ext.specs.Kinds.{Span, absent, span, fields_follow, kind_bits}
use Rattle.ext.specs.Internal.Bytewise.{octets, octet, pairs_from, identifier_from, value_from, fields_from, identifier_fault, value_fault}
use Rattle.header.specs.Settings.{Settings}
use Rattle.header.specs.Read.{Outline}

-- Between two bytes; `at` is how many were taken.
pub data State : Type 0 where
  -- at, value, count of bytes of the integer
  in_type : ℕ → ℕ → ℕ → State
  at_fix : ℕ → State
  -- fix, start of the fields, at
  in_octets : ℕ → ℕ → ℕ → State
  -- fix, at
  at_octet : ℕ → ℕ → State
  -- fix, start of the fields, at, pairs done
  at_pair : ℕ → ℕ → ℕ → ℕ → State
  -- fix, start of the fields, at, pairs done, start of the identifier, bytes left of it, size of the value, more pairs, waiting fault
  in_identifier : ℕ → ℕ → ℕ → ℕ → ℕ → ℕ → ℕ → Bool → ℕ → State
  -- fix, start of the fields, at, pairs done, start of the value, bytes left of it, more pairs, waiting fault
  in_value : ℕ → ℕ → ℕ → ℕ → ℕ → ℕ → Bool → ℕ → State
  -- fix, fields, at, value, count
  in_width : ℕ → Span → ℕ → ℕ → ℕ → State
  -- fix, fields, width, at, value, count
  in_height : ℕ → Span → ℕ → ℕ → ℕ → ℕ → State

abbrev pub start : State
start = in_type 0 0 0

-- whether the next byte is one of the fields
abbrev pub in_fields : State → Bool
in_fields (in_type at v n) = false
in_fields (at_fix at) = false
in_fields (in_octets fix _ at) = true
in_fields (at_octet fix at) = true
in_fields (at_pair fix _ at pairs) = true
in_fields (in_identifier fix _ at pairs begun left size again fault) = true
in_fields (in_value fix _ at pairs begun left again fault) = true
in_fields (in_width fix f at v n) = false
in_fields (in_height fix f w at v n) = false

-- fields that stand from `start` to `end`
abbrev pub found : ℕ → ℕ → ℕ → ℕ → Span
found fix start end pairs = span (kind_bits fix) start (end - start) pairs

-- What is left of a reading, in continuation form.
abbrev pub after_height : ℕ → Span → ℕ → ℕ → ℕ → List ℕ → Answer Outline
after_height fix f width height at τ =
    if (eqb width 0 || eqb height 0) (refuses 8 at)
    (gives (record { width = width; height = height; fix = fix; fields = f; body = at }))

abbrev pub after_width : Settings → ℕ → Span → ℕ → ℕ → List ℕ → Answer Outline
after_width o fix f width at τ = integer o.shortest τ at 0 0 (after_height fix f width)

abbrev pub sizes_from : Settings → ℕ → Span → ℕ → List ℕ → Answer Outline
sizes_from o fix f at τ = integer o.shortest τ at 0 0 (after_width o fix f)

-- what follows fields that were read
abbrev pub after_fields : Settings → ℕ → ℕ → ℕ → ℕ → List ℕ → Answer Outline
after_fields o fix start end pairs τ = sizes_from o fix (found fix start end pairs) end τ

unfoldable pub fix_from : Settings → List ℕ → ℕ → Answer Outline
fix_from o [] at = refuses 6 at
fix_from o (b ∷ τ) at =
    elim (o.fix_zero && ltb 0 b) [
      | true ↦ refuses 7 at
      | false ↦
          elim (o.honoured && fields_follow b) [
            | true ↦ fields_from o.classes true (kind_bits b) τ (at + 1) (after_fields o b (at + 1))
            | false ↦ sizes_from o b absent (at + 1) τ
          ]
    ]

abbrev pub after_type : Settings → ℕ → ℕ → List ℕ → Answer Outline
after_type o type at τ = if (eqb type 0) (fix_from o τ at) (refuses 5 at)

unfoldable pub resume : Settings → State → List ℕ → Answer Outline
resume o (in_type at v n) τ = integer o.shortest τ at v n (after_type o)
resume o (at_fix at) τ = fix_from o τ at
resume o (in_octets fix start at) τ = octets τ start at (after_fields o fix start)
resume o (at_octet fix at) τ = octet τ at (after_fields o fix at)
resume o (at_pair fix start at pairs) τ = pairs_from τ o.classes start at pairs (after_fields o fix start)
resume o (in_identifier fix start at pairs begun left size again fault) τ =
    identifier_from τ o.classes start at pairs begun left size again fault (after_fields o fix start)
resume o (in_value fix start at pairs begun left again fault) τ =
    value_from τ o.classes start at pairs begun left again fault (after_fields o fix start)
resume o (in_width fix f at v n) τ = integer o.shortest τ at v n (after_width o fix f)
resume o (in_height fix f w at v n) τ = integer o.shortest τ at v n (after_height fix f w)

-- What one byte does.
pub data Step : Type 0 where
  more : State → Step
  done : Outline → Step
  refused : ℕ → ℕ → Step

abbrev pub on_byte : ByteRead → (ℕ → Step) → (ℕ → Step) → Step
on_byte (goes v) again last = again v
on_byte (ends v) again last = last v
on_byte (wrong code offset) again last = refused code offset

abbrev pub to_width : ℕ → Span → ℕ → Step
to_width fix f at = more (in_width fix f at 0 0)

abbrev pub to_fields : ℕ → ℕ → Step
to_fields fix at =
    if (eqb (kind_bits fix) 0) (more (in_octets fix at at))
    (if (eqb (kind_bits fix) 3) (more (at_pair fix at at 0))
    (more (at_octet fix at)))

unfoldable pub step_of : Settings → State → ℕ → Step
step_of o (in_type at v n) b =
    on_byte (read_byte o.shortest at v n b) (λ w. more (in_type (at + 1) w (n + 1)))
    (λ w. if (eqb w 0) (more (at_fix (at + 1))) (refused 5 (at + 1)))
step_of o (at_fix at) b =
    if (o.fix_zero && ltb 0 b) (refused 7 at)
    (if (o.honoured && fields_follow b) (to_fields b (at + 1)) (to_width b absent (at + 1)))
step_of o (in_octets fix start at) b =
    if (leb (start + 4096) at) (refused 10 at)
    (if (ltb b 128) (to_width fix (found fix start (at + 1) 0) (at + 1)) (more (in_octets fix start (at + 1))))
step_of o (at_octet fix at) b = to_width fix (found fix at (at + 1) 0) (at + 1)
step_of o (at_pair fix start at pairs) b =
    if (leb (start + 4096) at) (refused 10 at)
    (if (eqb (b / 16 % 8) 0) (refused 11 (at + 1))
    (if (eqb (b % 16) 0) (refused 12 (at + 1))
    (more (in_identifier fix start (at + 1) pairs (at + 1) (b / 16 % 8) (b % 16) (leb 128 b) 0))))
step_of o (in_identifier fix start at pairs begun left size again fault) b =
    if (ltb 1 left) (more (in_identifier fix start (at + 1) pairs begun (left - 1) size again (identifier_fault o.classes fault b)))
    (more (in_value fix start (at + 1) pairs (at + 1) size again (identifier_fault o.classes fault b)))
step_of o (in_value fix start at pairs begun left again fault) b =
    if (ltb 1 left) (more (in_value fix start (at + 1) pairs begun (left - 1) again (value_fault o.classes fault b)))
    (if (eqb (value_fault o.classes fault b) 0)
    (if again (more (at_pair fix start (at + 1) (pairs + 1))) (to_width fix (found fix start (at + 1) (pairs + 1)) (at + 1)))
    (refused (value_fault o.classes fault b) (at + 1)))
step_of o (in_width fix f at v n) b =
    on_byte (read_byte o.shortest at v n b) (λ w. more (in_width fix f (at + 1) w (n + 1))) (λ w. more (in_height fix f w (at + 1) 0 0))
step_of o (in_height fix f w at v n) b =
    on_byte (read_byte o.shortest at v n b) (λ h. more (in_height fix f w (at + 1) h (n + 1)))
    (λ h. if (eqb w 0 || eqb h 0) (refused 8 (at + 1)) (done (record { width = w; height = h; fix = fix; fields = f; body = at + 1 })))

-- a reading over the bytes so far: nothing is looked at after the header's end or a refusal
unfoldable pub steps : Settings → State → List ℕ → Step
steps o st [] = more st
steps o st (b ∷ σ) = elim (step_of o st b) [ more st' ↦ steps o st' σ | done h ↦ done h | refused code offset ↦ refused code offset ]

-- what a reading answers after a step, where the bytes τ are left
abbrev pub after : Settings → Step → List ℕ → Answer Outline
after o (more st) τ = resume o st τ
after o (done h) τ = gives h
after o (refused code offset) τ = refuses code offset
