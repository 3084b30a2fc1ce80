-- Planes in another format, and the bytes of a plane as a file has them (document 01, image.rs). Rows are worked on from the top.
use Rattle.std.specs.Prelude.{ℕ, zero, suc, ◌+◌, ◌-◌, ◌*◌, ◌/◌, ◌%◌, ◌^◌, Bool, List, [], ◌++◌, map, leb, eqb, length, get_or, take, drop, set, replicate}
use Rattle.error.specs.Choice.{if}
use Rattle.image.specs.Format.{white_bit}
use Rattle.image.specs.Geometry.{row_bytes, padding_bits}
use Rattle.image.specs.declared.PixelFormat.{PixelFormat}
use Rattle.image.specs.declared.PixelFormat.TheVariants.{MonoBlack, MonoWhite}

-- a byte whose low bits are cleared
abbrev pub clear_low : ℕ → ℕ → ℕ
clear_low bits b = b / 2 ^ bits * 2 ^ bits

-- a row whose padding, in its last byte, is cleared
unfoldable pub clear_padding : ℕ → List ℕ → List ℕ
clear_padding width row = set row (length row - 1) (clear_low (padding_bits width) (get_or row (length row - 1) 0))

-- byte `at` of a plane without gaps, with its padding cleared if it is the last of its row
abbrev pub padded : ℕ → ℕ → ℕ → ℕ
padded width at b = if (eqb (at % row_bytes width + 1) (row_bytes width)) (clear_low (padding_bits width) b) b

abbrev pub invert : List ℕ → List ℕ
invert row = map (λ b. 255 - b) row

-- row y of a plane, of so many bytes, and whether they are all there
abbrev pub row_at : ℕ → ℕ → List ℕ → ℕ → List ℕ
row_at count stride plane y = take count (drop (y * stride) plane)

abbrev pub is_present : ℕ → ℕ → List ℕ → ℕ → Bool
is_present count stride plane y = leb (y * stride + count) (length plane)

-- "`convert_format` .. inverts and clears it": row y; the rest of the plane is as it was
unfoldable pub convert_row : ℕ → ℕ → List ℕ → ℕ → List ℕ
convert_row width stride plane y =
    take (y * stride) plane
    ++ (clear_padding width (invert (row_at (row_bytes width) stride plane y)) ++ drop (y * stride + row_bytes width) plane)

-- so many rows from row y on, up to the first that is not wholly there
unfoldable pub convert_rows : ℕ → ℕ → ℕ → ℕ → List ℕ → List ℕ
convert_rows width stride zero y plane = plane
convert_rows width stride (suc rows) y plane =
    if (is_present (row_bytes width) stride plane y)
    (convert_rows width stride rows (y + 1) (convert_row width stride plane y))
    plane

-- nothing is changed where the format stays the same
unfoldable pub convert_format : PixelFormat → PixelFormat → ℕ → ℕ → ℕ → List ℕ → List ℕ
convert_format from to width height stride plane =
    if (eqb (white_bit from) (white_bit to)) plane (convert_rows width stride height 0 plane)

-- row y as it is taken from a plane: zeros where it is not wholly there
abbrev pub source_row : ℕ → ℕ → List ℕ → ℕ → List ℕ
source_row count stride plane y = if (is_present count stride plane y) (row_at count stride plane y) (replicate count 0)

abbrev pub to_native : PixelFormat → List ℕ → List ℕ
to_native MonoBlack row = row
to_native MonoWhite row = invert row

-- "`wire_bits` inverts MonoWhite and clears padding": row y
unfoldable pub wire_row : PixelFormat → ℕ → ℕ → List ℕ → ℕ → List ℕ
wire_row format width stride plane y = clear_padding width (to_native format (source_row (row_bytes width) stride plane y))

-- so many rows, end to end
unfoldable pub wire_bits : PixelFormat → ℕ → ℕ → ℕ → List ℕ → List ℕ
wire_bits format width zero stride plane = []
wire_bits format width (suc height) stride plane =
    wire_bits format width height stride plane ++ wire_row format width stride plane height
