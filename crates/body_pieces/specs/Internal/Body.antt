-- What the body's part of a piece comes to.
use Rattle.std.specs.Prelude.{ℕ, ◌+◌, ◌-◌, ◌*◌, ◌/◌, ◌%◌, min, ◌≡◌, List, ◌++◌, leb, length, take, drop}
use Rattle.error.specs.Choice.{if}
use Rattle.image.specs.Geometry.{plane_bytes}
use Rattle.image.specs.declared.PixelFormat.{PixelFormat}
use Rattle.body_pieces.specs.InFormat.{body_from}
use Rattle.body_pieces.specs.declared.BodyFed.{BodyFed}

-- behind byte `at` of a body, over bytes that are written
abbrev pub fed_up_to : ℕ → ℕ → ℕ → ℕ → BodyFed
fed_up_to plane at taken written =
    record { taken = taken; written = written; whole = (at + written) / plane; begun = (at + written) % plane }

-- From so many whole planes and bytes of the begun one: the bytes that are left up to a ceiling of planes, and all that is given is taken;
-- or, short of them, what is given and has room. Where the begun plane would be a whole one there is no such place, and nothing is done.
unfoldable pub advanced : ℕ → ℕ → ℕ → ℕ → ℕ → ℕ → BodyFed
advanced ceiling plane whole begun given room =
    let at = whole * plane + begun in
    let left = ceiling * plane - at in
    let most = min given room in
    if (leb plane begun) (record { taken = 0; written = 0; whole = whole; begun = begun })
    (if (leb left most) (fed_up_to plane at given left) (fed_up_to plane at most most))

pub record Bodies (format : PixelFormat) (width height ceiling whole begun : ℕ) (piece out : List ℕ) (r : BodyFed)
    (out' : List ℕ) : Type 0 where
  pub advances : r ≡ advanced ceiling (plane_bytes width height) whole begun (length piece) (length out)
  pub output : out' ≡ body_from format width begun (take r.written piece) ++ drop r.written out
