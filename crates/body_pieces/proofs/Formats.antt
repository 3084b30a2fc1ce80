-- A stretch of a body in each format.
use Prim.Native.Nat.{ℕ, ◌+◌}
use mathlib.Core.Path.{◌≡◌, refl, sym, ap, ◌∙◌, subst⁻¹}
use mathlib.Core.List.{List, ◌++◌, append-nil}
use native.Mathlib.Omega.{arith}
use borrow.Author.Tests.{le-leb}
use lib.Dec.{leb}
use lib.ListN.{length, get_or, drop}
use lib.Seq.{drop-length, ext_get_or}
use Rattle.error.specs.Answer.{Answer, gives}
use Rattle.error.specs.Emits.{Emits}
use Rattle.laws.proofs.Tests.{if-true}
use Rattle.image.specs.Geometry.{row_bytes}
use Rattle.image.specs.Rows.{invert, convert_format}
use Rattle.image.specs.declared.PixelFormat.{PixelFormat}
use Rattle.image.specs.declared.PixelFormat.TheVariants.{MonoBlack, MonoWhite}
use Rattle.image.proofs.ConvertLoop.{unchanged}
use Rattle.image.proofs.InvertedBytes.{invert-length, invert-at}
use Rattle.body_pieces.specs.InFormat.{padded, body_from}
use Rattle.image.specs.Internal.Parts.{Cleared}
use Rattle.body_pieces.proofs.BodyBytes.{body-length, body_at, body-black}

-- bytes that fill their output
filled : (bytes old new : List ℕ) (r : Answer ℕ) → length bytes ≡ length old → Emits (gives bytes) r old new → new ≡ bytes
filled bytes old new r n e =
    e.bytes
    ∙ if-true (leb (length bytes) (length old)) (bytes ++ drop (length bytes) old) old (le-leb (length bytes) (length old) (omega arith))
    ∙ ap (λ (k : ℕ). bytes ++ drop k old) n
    ∙ ap (λ (l : List ℕ). bytes ++ l) (drop-length old)
    ∙ append-nil bytes

-- inverted bytes whose padding is cleared
pub white-is : (w at : ℕ) (xs old mid new : List ℕ) (r : Answer ℕ) → length xs ≡ length old → Emits (gives (invert xs)) r old mid
    → Cleared w at mid new → new ≡ body_from MonoWhite w at xs
white-is w at xs old mid new r l i c =
    let e = filled (invert xs) old mid r (invert-length xs ∙ l) i in
    let n = ap length e ∙ invert-length xs in
    let m = c.same in
    ext_get_or 0 new (body_from MonoWhite w at xs) (m ∙ n ∙ sym (body-length MonoWhite w xs at))
    (λ j h. c.byte j (omega arith)
    ∙ ap (λ (l : List ℕ). padded w (at + j) (get_or l j 0)) e
    ∙ ap (padded w (at + j)) (invert-at xs j (omega arith))
    ∙ sym (body_at MonoWhite w xs at j (omega arith)))

-- bytes that are only copied
pub black-is : (f : PixelFormat) (w at : ℕ) (xs old new : List ℕ) (r : Answer ℕ) → length xs ≡ length old
    → Emits (gives (convert_format f f w 0 (row_bytes w) xs)) r old new → new ≡ body_from MonoBlack w at xs
black-is f w at xs old new r n e =
    filled xs old new r n (subst⁻¹ (λ (l : List ℕ). Emits (gives l) r old new) (unchanged f f w 0 (row_bytes w) xs refl) e)
    ∙ body-black w xs at
