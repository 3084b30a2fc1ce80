-- What a feeding call comes to, case by case, on a machine that is open and has met nothing.
use Prim.Native.Nat.{ℕ}
use mathlib.Core.Path.{◌≡◌, refl}
use mathlib.Core.Bool.{Bool, true, false}
use mathlib.Core.List.{List, ◌++◌}
use lib.Dec.{leb}
use lib.ListN.{length}
use Rattle.error.specs.Choice.{if}
use Rattle.error.specs.Answer.{Answer, gives, refuses, is_end}
use Rattle.header.specs.Read.{Outline}
use Rattle.decoder.specs.Image.{read_image}
use Rattle.decode_session.specs.Model.{nothing, met_at, Model, Outcome, met_by, meets, fed_by, unaltered, after_met}

module _ (m : Model) (piece out ext : List ℕ) where
  by_answer : (P : Outcome → Type 0) → P (fed_by m piece out ext nothing)
      → ((code place : ℕ) → read_image m.options (m.bytes ++ piece) ≡ refuses code place → is_end code ≡ false
      → P (fed_by m piece out ext (met_at code place)))
      → (a : Answer Outline) → read_image m.options (m.bytes ++ piece) ≡ a → P (fed_by m piece out ext (met_by a))
  by_answer P f g (gives h) e = f
  by_answer P f g (refuses code place) e = go (is_end code) refl
    where
      go : (t : Bool) → is_end code ≡ t → P (fed_by m piece out ext (if t nothing (met_at code place)))
      go true p = f
      go false p = g code place e p

  -- 28, counts, or a refusal of the file
  pub by-case : (P : Outcome → Type 0) → P (unaltered m 28 0 out ext) → P (fed_by m piece out ext nothing)
      → ((code place : ℕ) → read_image m.options (m.bytes ++ piece) ≡ refuses code place → is_end code ≡ false
      → P (fed_by m piece out ext (met_at code place)))
      → P (after_met m piece out ext nothing)
  by-case P s f g = go (leb 4118 (length ext))
    where
      go : (t : Bool) → P (if t (fed_by m piece out ext (meets m piece)) (unaltered m 28 0 out ext))
      go true = by_answer P f g (read_image m.options (m.bytes ++ piece)) refl
      go false = s
