-- Sniffing (document 01, api.rs): whether bytes are a whole file, the front of one, or neither.
use Rattle.std.specs.Prelude.{ℕ, zero, suc, ◌+◌, ◌-◌, ◌*◌, ◌/◌, ◌%◌, Bool, true, false, ◌&&◌, List, ltb, leb, eqb, length, get_or, drop}
use Rattle.error.specs.Choice.{if}
use Rattle.error.specs.Answer.{Answer, gives, refuses}
use Rattle.header.specs.Settings.{inner}
use Rattle.header.specs.Read.{Outline, outline, read_header}
use Rattle.error.specs.Answer.{map}
use Rattle.image.specs.Geometry.{row_bytes, plane_bytes, padding_bits}
use Rattle.image.specs.Rows.{clear_low}
use Rattle.api.specs.declared.Sniffed.{Sniffed}
use Rattle.api.specs.declared.Sniffed.TheVariants.{Exact, Truncated, Neither}

-- clearing the padding of row y of a body changes nothing
abbrev pub is_clear : ℕ → List ℕ → ℕ → Bool
is_clear width body y =
    let last = get_or body (y * row_bytes width + (row_bytes width - 1)) 0 in
    eqb (clear_low (padding_bits width) last) last

-- so many rows from the top
unfoldable pub are_clear : ℕ → List ℕ → ℕ → Bool
are_clear width body zero = true
are_clear width body (suc rows) = are_clear width body rows && is_clear width body rows

-- "truncated if short of a frame, exact for 1-16 frames and no rest, else neither"
abbrev pub sniff_length : ℕ → ℕ → Sniffed
sniff_length plane size =
    if (ltb size plane) Truncated (if (eqb (size % plane) 0 && leb (size / plane) 16) Exact Neither)

-- "at least one row; clear padding in every whole row present", those past the sixteenth frame too; a begun row is not looked at
unfoldable pub sniff_body : ℕ → ℕ → List ℕ → Sniffed
sniff_body width height body =
    if (leb (row_bytes width) (length body) && are_clear width body (length body / row_bytes width))
    (sniff_length (plane_bytes width height) (length body))
    Neither

-- "needs 00 00, shortest sizes 1..16,384": what a strict header has, and sizes up to 16,384, behind which the body starts
abbrev pub sniff_sizes : List ℕ → ℕ → ℕ → ℕ → Sniffed
sniff_sizes bytes width height start =
    if (leb width 16384 && leb height 16384) (sniff_body width height (drop start bytes)) Neither

abbrev pub sniff_header : List ℕ → Answer Outline → Sniffed
sniff_header bytes (gives h) = sniff_sizes bytes h.width h.height h.body
sniff_header bytes (refuses code offset) = Neither

unfoldable pub sniffed : List ℕ → Sniffed
sniffed bytes = sniff_header bytes (map outline (read_header (inner true) bytes))

-- `probe` is above it
abbrev pub is_exact : Sniffed → Bool
is_exact Exact = true
is_exact Truncated = false
is_exact Neither = false
