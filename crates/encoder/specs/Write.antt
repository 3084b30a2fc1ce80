-- Whole writing (document 01, encoder.rs and "Several frames"): "Writing takes planes end to end, each stride × (height - 1) + row bytes,
-- with one stride and format. Surplus is ignored; a total past 64 bits is too short".
use Rattle.std.specs.Prelude.{ℕ, zero, suc, ◌*◌, List, [], ◌++◌, ltb, length, take, drop}
use Rattle.error.specs.Choice.{if}
use Rattle.error.specs.Answer.{Answer, gives, refuses, bind}
use Rattle.image.specs.Geometry.{needed_bytes, check_geometry}
use Rattle.image.specs.Rows.{wire_bits}
use Rattle.image.specs.declared.PixelFormat.{PixelFormat}
use Rattle.options.specs.declared.EncodeOptions.{EncodeOptions}
use Rattle.encoder.specs.File.{check_count, file_of}

-- "Writing order: 8, 21, 26, 27, 20": one plane is 27 past 64 bits, and 20 where not all planes are among so many bytes, as they never are
-- where their total passes 64 bits
unfoldable pub check_planes : ℕ → ℕ → ℕ → ℕ → ℕ → ℕ → Answer (Unit {0})
check_planes ceiling width height count stride bytes =
    bind (check_count ceiling width height count)
    (λ _. bind (check_geometry width height stride bytes)
    (λ _. if (ltb bytes (count * needed_bytes width height stride)) (refuses 20 0) (gives tt)))

-- plane k of those that are lent
abbrev pub lent_plane : ℕ → ℕ → ℕ → List ℕ → ℕ → List ℕ
lent_plane width height stride planes k =
    take (needed_bytes width height stride) (drop (k * needed_bytes width height stride) planes)

-- so many planes as a file has them, end to end
unfoldable pub wire_planes : PixelFormat → ℕ → ℕ → ℕ → List ℕ → ℕ → List ℕ
wire_planes format width height stride planes zero = []
wire_planes format width height stride planes (suc k) =
    wire_planes format width height stride planes k ++ wire_bits format width height stride (lent_plane width height stride planes k)

-- the file of the lent planes
unfoldable pub file_of_planes : ℕ → EncodeOptions → PixelFormat → ℕ → ℕ → ℕ → ℕ → List ℕ → List ℕ → List ℕ → Answer (List ℕ)
file_of_planes ceiling o format width height count stride planes text lengths =
    bind (check_planes ceiling width height count stride (length planes))
    (λ _. file_of o width height text lengths (wire_planes format width height stride planes count))
