-- The bytes that samples finish (document 01: Making session). Samples come row by row; frames of width × height samples follow each other,
-- and each one's dots depend on its own samples only.
use Rattle.std.specs.Prelude.{ℕ, zero, suc, ◌+◌, ◌-◌, ◌*◌, ◌/◌, ◌%◌, min, ◌≡◌, Bool, ◌&&◌, List, ltb, leb, eqb, length, get_or, drop}
use Rattle.error.specs.Choice.{if}
use Rattle.image.specs.Geometry.{row_bytes}
use Rattle.rules.specs.Bits.{upto, bit}
use Rattle.rules.specs.Packed.{byte_at}
use Rattle.rules.specs.Diffusion.{Scan}
use Rattle.rules.specs.Rule.{Rule, threshold, dither, ordered, dot}

-- what samples are quantised for: at most so many frames of width × height
pub record Setting : Type 0 where
  pub rule : Rule
  pub width : ℕ
  pub height : ℕ
  pub frames : ℕ

abbrev pub setting : Rule → ℕ → ℕ → ℕ → Setting
setting rule w h frames = record { rule = rule; width = w; height = h; frames = frames }

-- how many bytes c samples of a begun row have finished, where the row is row y of its frame: the rule's say
unfoldable pub begun_bytes : Rule → ℕ → ℕ → ℕ
begun_bytes (threshold t) y c = c / 8
begun_bytes dither y c = c / 8
begun_bytes (ordered side table) y c = c / 8

-- row y is finished byte after byte
abbrev pub Bytewise : Rule → ℕ → Type 0
Bytewise rule y = (c : ℕ) → begun_bytes rule y c ≡ c / 8

-- how many bytes n samples have finished: all of each full row, and what the rule says of the begun one
unfoldable pub count : Setting → ℕ → ℕ
count s n = n / s.width * row_bytes s.width + begun_bytes s.rule (n / s.width % s.height) (n % s.width)

-- frame f of the samples
unfoldable pub frame : ℕ → ℕ → List ℕ → ℕ → Scan
frame w h xs f x y = get_or xs ((f * h + y) * w + x) 0

-- the dot of sample n, as a bit
unfoldable pub dot_of : Setting → List ℕ → ℕ → ℕ
dot_of s xs n =
    let r = n / s.width in
    bit (dot s.rule s.width (frame s.width s.height xs (r / s.height)) (n % s.width) (r % s.height))

-- the bytes that the samples have finished
unfoldable pub finished : Setting → List ℕ → List ℕ
finished s xs = upto (count s (length xs)) (byte_at s.width (dot_of s xs))

-- the most of k samples, after n, whose finished bytes fit in a room
unfoldable pub most : Setting → ℕ → ℕ → ℕ → ℕ
most s n room zero = 0
most s n room (suc k) = if (leb (count s (n + suc k)) (count s n + room)) (suc k) (most s n room k)

-- how many of so many samples are taken after n: none past the last frame
unfoldable pub takes : Setting → ℕ → ℕ → ℕ → ℕ
takes s n samples room = most s n room (min samples (s.frames * s.height * s.width - n))

-- what the samples ys have finished that the samples xs, their first ones, had not
abbrev pub newly : Setting → List ℕ → List ℕ → List ℕ
newly s xs ys = drop (length (finished s xs)) (finished s ys)

-- n samples are whole frames, and at least one
abbrev pub whole_frames : Setting → ℕ → Bool
whole_frames s n = ltb 0 n && eqb (n % (s.width * s.height)) 0
