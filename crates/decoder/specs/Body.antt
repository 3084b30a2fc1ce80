-- The body of a file: its planes follow each other without gaps (document 01, decoder.rs).
use Rattle.std.specs.Prelude.{ℕ, zero, suc, ◌+◌, ◌-◌, ◌*◌, ◌/◌, List, [], ◌++◌, leb, take, drop}
use Rattle.error.specs.Choice.{if}
use Rattle.header.specs.Read.{Outline}
use Rattle.image.specs.Geometry.{row_bytes, plane_bytes}
use Rattle.image.specs.Rows.{convert_format}
use Rattle.image.specs.declared.PixelFormat.{PixelFormat}
use Rattle.image.specs.declared.PixelFormat.TheVariants.{MonoBlack}

-- "Extra frames are whole planes only, at most 15; the rest is ignored": those behind the first plane of a body of so many bytes
abbrev pub extra_frames : ℕ → ℕ → ℕ → ℕ
extra_frames most plane body = if (leb ((body - plane) / plane) most) ((body - plane) / plane) most

abbrev pub plane_of : Outline → ℕ
plane_of h = plane_bytes h.width h.height

-- the frames of a file of so many bytes, up to a ceiling: 1 where the body is short of a plane
abbrev pub frames_in : ℕ → ℕ → Outline → ℕ
frames_in ceiling size h = 1 + extra_frames (ceiling - 1) (plane_of h) (size - h.body)

-- plane k as the file has it, and in the asked format: "Native reading copies padding verbatim; `convert_format` to MonoWhite inverts and
-- clears it"
abbrev pub source_plane : List ℕ → Outline → ℕ → List ℕ
source_plane bytes h k = take (plane_of h) (drop (h.body + k * plane_of h) bytes)

unfoldable pub plane_at : PixelFormat → List ℕ → Outline → ℕ → List ℕ
plane_at format bytes h k = convert_format MonoBlack format h.width h.height (row_bytes h.width) (source_plane bytes h k)

-- so many planes, end to end
unfoldable pub planes : PixelFormat → List ℕ → Outline → ℕ → List ℕ
planes format bytes h zero = []
planes format bytes h (suc k) = planes format bytes h k ++ plane_at format bytes h k
