-- Opening a session.
use Rattle.std.proofs.Common.{Result, Ok, Err, is_ok}
use Prim.Native.Nat.{ℕ}
use mathlib.Core.Path.{◌≡◌, refl, sym, ap, subst, ◌∙◌}
use mathlib.Core.Bool.{Bool}
use mathlib.Core.List.{[]}
use borrow.Author.Tests.{le-leb, lt-leb}
use lib.Dec.{leb}
use Rattle.error.specs.Choice.{if}
use Rattle.error.specs.Answer.{Answer, gives, refuses, refusal, bind}
use Rattle.error.specs.declared.WbmpError.{WbmpError}
use Rattle.laws.proofs.Tests.{if-true, if-false}
use Rattle.header.specs.Settings.{Settings}
use Rattle.header_pieces.specs.declared.HeadReading.{HeadReading}
use Rattle.options.specs.Limits.{Decoding, mode_of, decoding}
use Rattle.options.specs.declared.DecodeOptions.{DecodeOptions}
use Rattle.options.proofs.Ceilings.{passes}
use Rattle.decoder.specs.Image.{image_settings}
use Rattle.decode_session.specs.Model.{opened, opening}
use Rattle.header_pieces.specs.Internal.Head.{HasRead}
use Rattle.decode_session.specs.Session.{StageOf, Opens}
use Rattle.decode_session.specs.Internal.Stages.{ChecksBuffer}
use Rattle.decode_session.specs.declared.Stage.{Stage}

-- the settings pass their test, so the buffer's decides
pub opening-is : (d : Decoding) (n : ℕ) → opening d n ≡ if (leb 4118 n) (gives tt) (refuses 28 0)
opening-is d n = ap (λ (a : Answer Decoding). bind a (λ _. if (leb 4118 n) (gives tt) (refuses 28 0))) (passes d)

module _ (o : DecodeOptions) (r : HeadReading) (n : ℕ) (s : Settings) (p : HasRead s [] r)
    (q : s ≡ image_settings (mode_of o.mode)) where
  -- before the first byte
  begun : StageOf (Stage.Header r) (opened (decoding o))
  begun = (refl, subst (λ (s : Settings). HasRead s [] r) q p)

  pub opens : (a : Result (Unit {0}) WbmpError) (live : Bool) → ChecksBuffer n a → live ≡ is_ok a
      → Opens (opening (decoding o) n) (record { options = o; stage = Stage.Header r; live = live }) a
      (opened (decoding o))
  opens (Ok u) live h l =
      let e = opening-is (decoding o) n ∙ if-true (leb 4118 n) (gives tt) (refuses 28 0) (le-leb 4118 n h) in
      record {
        answer = sym e;
        stands = λ _. record { tested = passes (decoding o); options = refl; live = l; stage = begun };
        refused = λ code place w. let z = sym e ∙ w in cc;
      }
  opens (Err x) live h l =
      let k = opening-is (decoding o) n ∙ if-false (leb 4118 n) (gives tt) (refuses 28 0) (lt-leb 4118 n h.0) in
      record {
        answer = ap refusal h.1 ∙ sym k;
        stands = λ w. let z = sym k ∙ w in cc;
        refused = λ code place w. record { tested = passes (decoding o); options = refl; live = l; stage = begun };
      }
