-- Replies of the plain machine, part by part, and the order of a call's tests.
use Prim.Native.Nat.{ℕ, ◌≤◌, ◌<◌}
use mathlib.Core.Path.{◌≡◌, refl, sym, ap, subst, ◌∙◌}
use mathlib.Core.Bool.{true, false}
use mathlib.Core.List.{List}
use borrow.Author.Tests.{le-leb, lt-leb}
use lib.Dec.{leb}
use lib.ListN.{length, drop}
use lib.Seq.{sets, drop-length}
use Rattle.std.proofs.Common.{Result}
use Rattle.error.specs.Answer.{Answer}
use Rattle.error.specs.declared.Fed.{Fed}
use Rattle.error.specs.declared.WbmpError.{WbmpError}
use Rattle.laws.proofs.Tests.{if-true, if-false}
use Rattle.decoder.specs.Image.{image_settings}
use Rattle.header_pieces.specs.Extension.{field_bytes}
use Rattle.decode_session.specs.Model.{nothing, met_at, Model, feed, Told, Reply, Outcome, meets, stored, fed_by, unaltered, after_met}
use Rattle.decode_session.specs.Model.{outcome}
use Rattle.decode_session.specs.Session.{fed_meaning, Stands}
use Rattle.decode_session.specs.Internal.Stages.{FedAs}
use Rattle.decode_session.specs.declared.DecodeSession.{DecodeSession}

pub replied : {a a' : Answer Told} {o o' e e' : List ℕ} → a ≡ a' → o ≡ o' → e ≡ e'
    → ◌≡◌ {A = Reply} (record { answer = a; output = o; extension = e }) (record { answer = a'; output = o'; extension = e' })
replied p q r = cc

module _ (m : Model) (ext : List ℕ) where
  abbrev fields : List ℕ → List ℕ
  fields s = field_bytes (image_settings m.options.mode) s

  -- files of the same extension bytes
  pub stored-as : (s t : List ℕ) → fields s ≡ fields t → stored m s ext ≡ stored m t ext
  stored-as s t e = ap (λ (l : List ℕ). sets ext (length (fields m.bytes)) (drop (length (fields m.bytes)) l)) e

  -- no extension byte is new
  pub stored-none : (s : List ℕ) → fields s ≡ fields m.bytes → stored m s ext ≡ ext
  stored-none s e = stored-as s m.bytes e ∙ ap (sets ext (length (fields m.bytes))) (drop-length (fields m.bytes))

module _ (m : Model) (piece out ext : List ℕ) where
  pub reading : m.live ≡ true → m.met ≡ nothing → 4118 ≤ length ext
      → outcome m (feed piece out ext) ≡ fed_by m piece out ext (meets m piece)
  unfolding outcome
  reading l n h =
      if-true m.live _ _ l ∙ ap (after_met m piece out ext) n ∙ if-true (leb 4118 (length ext)) _ _ (le-leb 4118 (length ext) h)

  pub closed : m.live ≡ false → outcome m (feed piece out ext) ≡ unaltered m 30 0 out ext
  unfolding outcome
  closed l = if-false m.live _ _ l

  pub met-earlier : (code place : ℕ) → m.live ≡ true → m.met ≡ met_at code place
      → outcome m (feed piece out ext) ≡ unaltered m code place out ext
  unfolding outcome
  met-earlier code place l n = if-true m.live _ _ l ∙ ap (after_met m piece out ext) n

  pub short : m.live ≡ true → m.met ≡ nothing → length ext < 4118 → outcome m (feed piece out ext) ≡ unaltered m 28 0 out ext
  unfolding outcome
  short l n h =
      if-true m.live _ _ l ∙ ap (after_met m piece out ext) n ∙ if-false (leb 4118 (length ext)) _ _ (lt-leb 4118 (length ext) h)

  -- what a feeding call promises of a plain machine
  abbrev pub Fits : Result Fed WbmpError → DecodeSession → List ℕ → List ℕ → Type 0
  Fits r s' out' ext' =
      ((outcome m (feed piece out ext)).reply ≡ record { answer = fed_meaning r; output = out'; extension = ext' })
      × Stands s' (outcome m (feed piece out ext)).next

  pub agreed : (r : Result Fed WbmpError) (s' : DecodeSession) (out' ext' ext'' : List ℕ) (x : Outcome)
      → outcome m (feed piece out ext) ≡ x → ext'' ≡ ext'
      → FedAs r s' out' ext'' x → Fits r s' out' ext'
  agreed r s' out' ext' ext'' x e q a =
      subst (λ (y : Outcome). (y.reply ≡ record { answer = fed_meaning r; output = out'; extension = ext' })
      × Stands s' y.next) (sym e)
      (a.reply ∙ replied refl refl q, a.stands)
