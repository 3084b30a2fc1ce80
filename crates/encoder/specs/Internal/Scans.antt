-- What whole making leaves where nothing is refused.
use Rattle.std.specs.Prelude.{ℕ, ◌*◌, ◌≡◌, false, List, ◌++◌, ℤ, drop}
use Rattle.image.specs.Geometry.{plane_bytes}
use Rattle.rules.specs.Rule.{Rule, carries}
use Rattle.encoder.specs.Make.{scan_bytes}

-- so many scans' planes at the front of an output; the work buffer as `Makes` says
pub record PutsScans (rule : Rule) (width height count : ℕ) (gray out : List ℕ) (work : List ℤ) (out' : List ℕ)
    (work' : List ℤ) : Type 0 where
  pub bytes : out' ≡ scan_bytes rule width height gray count ++ drop (count * plane_bytes width height) out
  pub beyond : drop width work' ≡ drop width work
  pub spared : carries rule ≡ false → work' ≡ work
