-- Headers of 00 00 and short sizes.
use Prim.Native.Nat.{ℕ, ◌+◌, ◌-◌, ◌*◌, ◌%◌, ◌≤◌, ◌<◌}
use mathlib.Core.Path.{◌≡◌, ap, ◌∙◌}
use mathlib.Core.Bool.{true, false}
use mathlib.Core.List.{List, ◌∷◌}
use native.Mathlib.Omega.{arith}
use borrow.Author.Tests.{lt-leb}
use lib.Dec.{eqb}
use lib.ListN.{length, get_or, drop}
use Rattle.std.proofs.Common.{Option, Some, None}
use Rattle.error.specs.Choice.{if}
use Rattle.error.specs.Answer.{gives, refuses, bind, map}
use Rattle.laws.proofs.Lists.{drop_at}
use Rattle.mbi.specs.Read.{goes, ends, read_byte, read_rest, read_mbi}
use Rattle.mbi.proofs.Step.{ends_by, goes_by}
use Rattle.ext.specs.Kinds.{absent, kind_bits}
use Rattle.header.specs.Settings.{inner}
use Rattle.header.specs.Read.{outline, read_header, read_fix, read_after_fix, outline_sizes, outline_height}
use Rattle.header.proofs.HeaderParts.{no_fields}
use Rattle.api.specs.declared.front.Front.{Front}
use Rattle.api.specs.Internal.Parts.{Heights, Fronts}

-- ---- an integer of one or two bytes, and 81 80 00

byte-ends : (at a : ℕ) → a < 128 → read_byte true at 0 0 a ≡ ends a
byte-ends at a h =
    let m : 0 * 128 + a % 128 ≡ a = omega arith in
    ends_by true 0 0 a at (λ z e. omega arith) (omega arith) (omega arith) h ∙ ap ends m

byte-goes : (at a : ℕ) → 128 < a → a < 256 → read_byte true at 0 0 a ≡ goes (a - 128)
byte-goes at a h l =
    let m : 0 * 128 + a % 128 ≡ a - 128 = omega arith in
    goes_by true 0 0 a at (λ z e. omega arith) (omega arith) (omega arith) (omega arith) ∙ ap goes m

byte-second : (at v b : ℕ) → v < 128 → b < 128 → read_byte true at v 1 b ≡ ends (v * 128 + b)
byte-second at v b h l =
    let m : v * 128 + b % 128 ≡ v * 128 + b = omega arith in
    ends_by true v 1 b at (λ z e. omega arith) (omega arith) (omega arith) l ∙ ap ends m

byte-middle : (at : ℕ) → read_byte true at 1 1 128 ≡ goes 128
byte-middle at = goes_by true 1 1 128 at (λ z e. omega arith) (omega arith) (omega arith) (omega arith)

byte-third : (at : ℕ) → read_byte true at 128 2 0 ≡ ends 16384
byte-third at = ends_by true 128 2 0 at (λ z e. omega arith) (omega arith) (omega arith) (omega arith)

module _ (s : List ℕ) (at : ℕ) where
  pub read_one : at < length s → get_or s at 0 < 128 → read_mbi true s at ≡ gives (get_or s at 0, at + 1)
  unfolding read_rest
  read_one h k = ap (λ (l : List ℕ). read_rest true l at 0 0) (drop_at s at h) ∙ rw (byte-ends at (get_or s at 0) k, read_rest)

  pub read-two : at + 1 < length s → 128 < get_or s at 0 → get_or s at 0 < 256 → get_or s (at + 1) 0 < 128
      → read_mbi true s at ≡ gives ((get_or s at 0 - 128) * 128 + get_or s (at + 1) 0, at + 1 + 1)
  unfolding read_rest
  read-two h k l m =
      let p : at < length s = omega arith in
      ap (λ (t : List ℕ). read_rest true t at 0 0) (drop_at s at p)
      ∙ rw (byte-goes at (get_or s at 0) k l, read_rest)
      (ap (λ (t : List ℕ). read_rest true t (at + 1) (get_or s at 0 - 128) 1) (drop_at s (at + 1) h)
      ∙ rw (byte-second (at + 1) (get_or s at 0 - 128) (get_or s (at + 1) 0) (omega arith) m, read_rest))

  pub read-largest : (rest : List ℕ) → drop at s ≡ 129 ∷ 128 ∷ 0 ∷ rest → read_mbi true s at ≡ gives (16384, at + 3)
  unfolding read_rest
  read-largest rest k =
      let e : at + 1 + 1 + 1 ≡ at + 3 = omega arith in
      ap (λ (t : List ℕ). read_rest true t at 0 0) k
      ∙ rw (byte-goes at 129 (omega arith) (omega arith), read_rest)
      (rw (byte-middle (at + 1), read_rest) (rw (byte-third (at + 1 + 1), read_rest) (ap (λ (n : ℕ). gives (16384, n)) e)))

-- ---- 00 00 before them

module _ (s rest : List ℕ) (starts : s ≡ 0 ∷ 0 ∷ rest) where
  long : 2 ≤ length s
  long = rw starts (omega arith)

  type : get_or s 0 0 ≡ 0
  type = rw starts

  fix : get_or s 1 0 ≡ 0
  fix = rw starts

  after-fix : map outline (read_after_fix (inner true) s 0 2) ≡ outline_sizes true s 0 absent 2
  after-fix = no_fields (inner true) s 0 2 false (kind_bits 0)

  fix-read : map outline (read_fix (inner true) s 1) ≡ outline_sizes true s 0 absent 2
  fix-read = rw (lt-leb (length s) 1 (omega (arith, long)), fix) after-fix

  pub front_read : map outline (read_header (inner true) s) ≡ outline_sizes true s 0 absent 2
  unfolding read_header
  front_read =
      ap (λ x. map outline (bind x (λ t. if (eqb t.0 0) (read_fix (inner true) s t.1) (refuses 5 t.1))))
      (read_one s 0 (omega (arith, long)) (omega (arith, type)))
      ∙ rw type fix-read

  pub front-on : (r : Option Front) (w at : ℕ) → read_mbi true s 2 ≡ gives (w, at) → Heights s w at r → Fronts s r
  front-on (Some f) w at e k = front_read ∙ ap (λ x. bind x (outline_height true s 0 absent)) e ∙ k
  front-on None w at e k = tt
