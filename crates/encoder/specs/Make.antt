-- Whole making (document 01, encoder.rs and "Several frames"): "Whole making takes a count and that many scans end to end, width × height
-- samples each. Surplus is ignored; a total past 64 bits is too short".
use Rattle.std.specs.Prelude.{ℕ, ◌*◌, ◌≡◌, false, List, ltb, ℤ, length, take, drop}
use Rattle.error.specs.Choice.{if}
use Rattle.error.specs.Answer.{Answer, gives, refuses, bind}
use Rattle.error.specs.Emits.{Emits}
use Rattle.options.specs.declared.EncodeOptions.{EncodeOptions}
use Rattle.rules.specs.Rule.{Rule, carries, enough_work, rule_asked, rule_given}
use Rattle.quantize.specs.Finished.{setting, finished}
use Rattle.encoder.specs.File.{check_count, file_of}

-- "Whole making: 8, 21, 29, 28, 22", of so many samples and numbers of work
unfoldable pub check_scans : ℕ → EncodeOptions → ℕ → ℕ → ℕ → ℕ → ℕ → Answer (Unit {0})
check_scans ceiling o width height count gray work =
    bind (check_count ceiling width height count)
    (λ _. bind (rule_asked o)
    (λ asked. if (enough_work asked width work)
    (if (ltb gray (count * (width * height))) (refuses 22 0) (gives tt))
    (refuses 28 0)))

-- so many scans' bytes: what their samples finish
abbrev pub scan_bytes : Rule → ℕ → ℕ → List ℕ → ℕ → List ℕ
scan_bytes rule width height gray count = finished (setting rule width height count) (take (count * (width * height)) gray)

-- the file of the lent scans
unfoldable pub file_of_scans : ℕ → EncodeOptions → ℕ → ℕ → ℕ → List ℕ → List ℕ → List ℕ → ℕ → Answer (List ℕ)
file_of_scans ceiling o width height count gray text lengths work =
    bind (check_scans ceiling o width height count (length gray) work)
    (λ _. file_of o width height text lengths (scan_bytes (rule_given (rule_asked o)) width height gray count))

-- the file or the refusal; a work buffer is altered in its first `width` numbers at most, and only by a rule that keeps carries, where
-- nothing is refused
pub record Makes (ceiling : ℕ) (o : EncodeOptions) (width height count : ℕ) (gray text lengths out : List ℕ) (work : List ℤ) (r : Answer ℕ)
    (out' : List ℕ) (work' : List ℤ) : Type 0 where
  pub emits : Emits (file_of_scans ceiling o width height count gray text lengths (length work)) r out out'
  pub beyond : drop width work' ≡ drop width work
  pub spared : carries (rule_given (rule_asked o)) ≡ false → work' ≡ work
  pub refused : (code place : ℕ) → r ≡ refuses code place → work' ≡ work
