-- What it is for the definitions to agree with a row: they give the numbers that it expects.
use Rattle.std.specs.Prelude.{ℕ, ◌≡◌, true, false, List, [], ◌∷◌, length}
use Rattle.error.specs.Answer.{gives, refuses, map}
use Rattle.mbi.specs.Bytes.{mbi_bytes}
use Rattle.mbi.specs.Read.{read_mbi}
use Rattle.ext.specs.Kinds.{Fields, pairs}
use Rattle.header.specs.Settings.{ext_inner}
use Rattle.header.specs.Read.{Header, read_header}
use Rattle.api.specs.Sniff.{sniffed}
use Rattle.image.specs.Geometry.{row_bytes}
use Rattle.image.specs.Rows.{convert_format}
use Rattle.image.specs.declared.PixelFormat.TheVariants.{MonoBlack, MonoWhite}
use Rattle.rules.specs.Diffusion.{round16}
use Rattle.rules.specs.Rule.{dot}
use Rattle.quantize.specs.Finished.{finished}
use Rattle.conformance.specs.Table.{Row, number, value, refused, header, sniffing, mono_white, plane, rounding, corner}

-- what a row expects of a header
abbrev pub expected : Header → ℕ × ℕ × Fields × ℕ
expected h = (h.width, h.height, h.fields, h.body)

-- an integer that is given comes with the offset after it, the end of its bytes
abbrev pub Agrees : Row → Type 0
Agrees (number n bytes) =
    (mbi_bytes n ≡ bytes) × (read_mbi false bytes 0 ≡ gives (n, length bytes)) × (read_mbi true bytes 0 ≡ gives (n, length bytes))
Agrees (value strict bytes v) = read_mbi strict bytes 0 ≡ gives (v, length bytes)
Agrees (refused strict bytes code offset) = read_mbi strict bytes 0 ≡ refuses code offset
Agrees (header bytes w h i v body) =
    map expected (read_header (ext_inner false) bytes) ≡ gives (w, h, pairs (record { identifier = i; value = v } ∷ []), body)
Agrees (sniffing bytes answer) = sniffed bytes ≡ answer
Agrees (mono_white w h body bytes) = convert_format MonoBlack MonoWhite w h (row_bytes w) body ≡ bytes
Agrees (plane rule w h samples bytes) = finished (record { rule = rule; width = w; height = h; frames = 1 }) samples ≡ bytes
Agrees (rounding n r) = round16 n ≡ r
Agrees (corner rule gray white) = dot rule 1 (λ x y. gray) 0 0 ≡ white

abbrev pub AllAgree : List (ℕ × Row) → Type 0
AllAgree [] = Unit {0}
AllAgree (r ∷ rs) = Agrees r.1 × AllAgree rs
