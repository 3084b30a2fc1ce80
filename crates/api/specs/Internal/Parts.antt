-- What the private functions ask and promise.
use Rattle.std.specs.Prelude.{ℕ, ◌+◌, ◌*◌, ◌<◌, ◌≤◌, ◌≡◌, Bool, true, List, get_or, Option, Some, None}
use Rattle.std.specs.Int.Bits.{bit_or}
use Rattle.error.specs.Answer.{Answer, gives, refuses, map}
use Rattle.mbi.specs.Read.{read_mbi}
use Rattle.ext.specs.Kinds.{absent}
use Rattle.header.specs.Settings.{inner}
use Rattle.header.specs.Read.{Outline, outline, outline_height, read_header}
use Rattle.image.specs.Geometry.{row_bytes, padding_mask}
use Rattle.api.specs.Sniff.{are_clear}
use Rattle.api.specs.declared.front.Front.{Front}

-- the bytes and the mask of rows of a width
pub record Rows (width row mask : ℕ) : Type 0 where
  pub row_is : row ≡ row_bytes width
  pub mask_is : mask ≡ padding_mask width

-- the answer whether so many rows are clear, at each width whose rows these are
abbrev pub AreClear : List ℕ → ℕ → ℕ → ℕ → Bool → Type 0
AreClear body row mask rows r = (width : ℕ) → Rows width row mask → r ≡ are_clear width body rows

-- the last bytes of eight rows, from the one at an offset on, or'ed
abbrev pub eight_ends : List ℕ → ℕ → ℕ → ℕ
eight_ends body row at =
    let end : ℕ → ℕ = λ i. get_or body i 0 in
    bit_or
    (bit_or (bit_or (bit_or (end at) (end (at + row))) (end (at + 2 * row))) (end (at + 3 * row)))
    (bit_or (bit_or (bit_or (end (at + 4 * row)) (end (at + 5 * row))) (end (at + 6 * row))) (end (at + 7 * row)))

-- sizes that sniffing takes for an image's
pub record SniffedSizes (width height : ℕ) : Type 0 where
  pub wide : 0 < width
  pub high : 0 < height
  pub narrow : width ≤ 16384
  pub low : height ≤ 16384

-- sizes that are not 0, and a body within a file
pub record Sized (width height start size : ℕ) : Type 0 where
  pub wide : 0 < width
  pub high : 0 < height
  pub within : start ≤ size

-- an integer that was told is the one at the offset
abbrev pub ShortReads : List ℕ → ℕ → Option (ℕ × ℕ) → Type 0
ShortReads s at (Some i) = read_mbi true s at ≡ gives i
ShortReads s at None = Unit {0}

-- the header without fields
abbrev pub plain : ℕ → ℕ → ℕ → Outline
plain w h b = record { width = w; height = h; fix = 0; fields = absent; body = b }

-- sizes that were told are those of the header
abbrev pub Heights : List ℕ → ℕ → ℕ → Option Front → Type 0
Heights s width at (Some f) = outline_height true s 0 absent (width, at) ≡ gives (plain f.width f.height f.start)
Heights s width at None = Unit {0}

-- those of a short header; of another one nothing is told
abbrev pub Fronts : List ℕ → Option Front → Type 0
Fronts s (Some f) = map outline (read_header (inner true) s) ≡ gives (plain f.width f.height f.start)
Fronts s None = Unit {0}

-- the sizes of a header that was read; a refused one has none
abbrev pub front_of : Answer Outline → Option Front
front_of (gives h) = Some (record { width = h.width; height = h.height; start = h.body })
front_of (refuses code offset) = None

-- the sizes of a file's header
abbrev pub front_in : List ℕ → Option Front
front_in s = front_of (map outline (read_header (inner true) s))
