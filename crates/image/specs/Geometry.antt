-- The bytes of rows and planes, and the test of an image's geometry (document 01, image.rs, "Several frames" and "Refused").
use Rattle.std.specs.Prelude.{ℕ, ◌+◌, ◌-◌, ◌*◌, ◌/◌, ◌^◌, ◌||◌, ltb, leb, eqb}
use Rattle.error.specs.Choice.{if}
use Rattle.error.specs.Answer.{Answer, gives, refuses}

-- "Row bytes are width / 8 rounded up"
abbrev pub row_bytes : ℕ → ℕ
row_bytes width = (width + 7) / 8

-- "plane bytes are that times height"
abbrev pub plane_bytes : ℕ → ℕ → ℕ
plane_bytes width height = row_bytes width * height

-- the bits of a row's last byte that are past its width: its low bits
abbrev pub padding_bits : ℕ → ℕ
padding_bits width = row_bytes width * 8 - width

-- the byte whose bits are 1 at a row's last dots and 0 at its padding
abbrev pub padding_mask : ℕ → ℕ
padding_mask width = 256 - 2 ^ padding_bits width

-- "planes end to end, each stride × (height - 1) + row bytes"
abbrev pub needed_bytes : ℕ → ℕ → ℕ → ℕ
needed_bytes width height stride = stride * (height - 1) + row_bytes width

-- the tests of an image whose plane has so many bytes, in "Writing order: 8, 21, 26, 27, 20", without the count's: "width or height 0",
-- "stride below the row; plane size past 64 bits", "plane too short". "Writers return place 0 always."
unfoldable pub check_geometry : ℕ → ℕ → ℕ → ℕ → Answer (Unit {0})
check_geometry width height stride bytes =
    if (eqb width 0 || eqb height 0) (refuses 8 0)
    (if (ltb stride (row_bytes width)) (refuses 26 0)
    (if (leb (2 ^ 64) (needed_bytes width height stride)) (refuses 27 0)
    (if (ltb bytes (needed_bytes width height stride)) (refuses 20 0) (gives tt))))
