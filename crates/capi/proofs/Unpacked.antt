-- A packed refusal is told from an acceptance, and its number and place are had back from the returned number r: r % 256 and r / 256.
use Prim.Native.Nat.{ℕ, ◌/◌, ◌%◌, ◌<◌}
use mathlib.Core.Path.{◌≡◌, refl}
use mathlib.Core.List.{List}
use native.Mathlib.Omega.{arith}
use Rattle.error.specs.Answer.{Answer, gives, refuses}
use Rattle.api.specs.Info.{read_info}
use Rattle.capi.specs.Returned.{packed}
use Rattle.capi.specs.Asked.{settings_of, read_asked}
use Rattle.capi.proofs.RefusalPlaces.{Numbered, asked-numbered, info-numbered}

pub record Unpacked (code offset r : ℕ) : Type 0 where
  pub refused : 0 < r
  pub code_is : r % 256 ≡ code
  pub offset_is : r / 256 ≡ offset

-- what a returned number says of the answer
abbrev pub Returned : {A : Type 0} → Answer A → ℕ → Type 0
Returned (gives a) r = r ≡ 0
Returned (refuses code offset) r = Unpacked code offset r

returned : {A : Type 0} (a : Answer A) → Numbered a → Returned a (packed a)
returned (gives a) n = refl
returned (refuses code offset) n =
    record { refused = omega (arith, n.some); code_is = omega (arith, n.small); offset_is = omega (arith, n.small) }

pub info-returned : (bytes : List ℕ) → Returned (read_info bytes) (packed (read_info bytes))
info-returned bytes = returned (read_info bytes) (info-numbered bytes)

pub read-returned : (format strict width height pixels bytes : ℕ) (s : List ℕ) (room : ℕ)
    → let a = read_asked (settings_of format strict width height pixels bytes) s room in
    Returned a (packed a)
read-returned format strict width height pixels bytes s room =
    returned (read_asked (settings_of format strict width height pixels bytes) s room)
    (asked-numbered format strict width height pixels bytes s room)
