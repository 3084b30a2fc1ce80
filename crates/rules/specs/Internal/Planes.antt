-- What the functions promise that write whole planes, or whole rows, at once.
use Rattle.std.specs.Prelude.{ℕ, ◌+◌, ◌-◌, ◌*◌, ◌%◌, ◌/◌, ◌^◌, ◌≤◌, ◌≡◌, Bool, ◌&&◌, List, ◌++◌, eqb, leb, ltb, length, get_or, drop}
use Rattle.error.specs.Choice.{if}
use Rattle.image.specs.Geometry.{row_bytes}
use Rattle.image.specs.declared.PlaneLayout.{PlaneLayout}
use Rattle.rules.specs.Bits.{upto, bit, digits}
use Rattle.rules.specs.Diffusion.{Scan, white, value_at}
use Rattle.rules.specs.Packed.{byte_at}
use Rattle.rules.specs.Rule.{rightwards}
use Rattle.rules.specs.Internal.Kernels.{threshold_bit}
use Rattle.rules.specs.Internal.Row.{plain_front}

-- the bytes of h rows of w dots, where the dot of sample n is d n
abbrev pub plane : ℕ → ℕ → (ℕ → ℕ) → List ℕ
plane w h d = upto (h * row_bytes w) (byte_at w d)

-- the plane at the output's front
abbrev pub plane_onto : ℕ → ℕ → (ℕ → ℕ) → List ℕ → List ℕ
plane_onto w h d out = plane w h d ++ drop (h * row_bytes w) out

-- the plane at the output's front, where there are samples and room for it, and otherwise the output as it was
abbrev pub plane_where : ℕ → ℕ → (ℕ → ℕ) → ℕ → List ℕ → List ℕ
plane_where w h d samples out = if (leb (w * h) samples && leb (h * row_bytes w) (length out)) (plane_onto w h d out) out

-- there are as many samples as a plane needs, and as many bytes as it has
abbrev pub PlaneFits : PlaneLayout → ℕ → ℕ → Type 0
PlaneFits l samples bytes = (l.width * l.height ≤ samples) × (bytes ≡ l.total_bytes)

-- the byte of a row's last samples, at most eight: their dots, and zeros
abbrev pub ending_byte : ℕ → List ℕ → ℕ
ending_byte t gray = digits (threshold_bit t gray) (length gray) * 2 ^ (8 - length gray)

-- the scan whose samples stand row by row in a list
abbrev pub scan_of : ℕ → List ℕ → Scan
scan_of w gray x y = get_or gray (y * w + x) 0

-- the dot of sample n under dithering
abbrev pub dither_bit : ℕ → List ℕ → ℕ → ℕ
dither_bit w gray n = bit (white (value_at rightwards w (scan_of w gray) (n % w) (n / w)))

-- sample c of a row of w, and 0 behind its last
abbrev pub row_sample : ℕ → List ℕ → ℕ → ℕ
row_sample w gray c = if (ltb c w) (get_or gray c 0) 0

-- how many bytes of a row of w, from the first on, have black and white samples alone: none where samples or room are missing
abbrev pub plain_bytes : ℕ → List ℕ → ℕ → ℕ
plain_bytes w gray room =
    if (leb w (length gray) && leb (row_bytes w) room) (plain_front (row_sample w gray) (8 * row_bytes w) / 8) 0

-- these bytes are written, white where a sample is white, and r says whether they are the whole row
pub record PlainRow (w : ℕ) (gray out : List ℕ) (r : Bool) (out' : List ℕ) : Type 0 where
  pub told : r ≡ eqb (plain_bytes w gray (length out)) (row_bytes w)
  pub written : out' ≡ upto (plain_bytes w gray (length out)) (byte_at w (threshold_bit 128 gray)) ++ drop (plain_bytes w gray (length out)) out
