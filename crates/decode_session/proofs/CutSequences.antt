-- Bytes that follow add to what a reading puts out and alter nothing of it.
use Prim.Native.Nat.{ℕ, ◌+◌, ◌*◌}
use mathlib.Core.Path.{◌≡◌, refl, ap, ◌∙◌}
use mathlib.Core.List.{List, [], ◌++◌}
use lib.ListN.{length, take, drop}
use Rattle.error.specs.Answer.{Answer, gives, refuses}
use Rattle.ext.proofs.Prefix.{decided}
use Rattle.mbi.specs.Read.{read_rest}
use Rattle.header.specs.Read.{Outline, read_header}
use Rattle.image.specs.declared.PixelFormat.{PixelFormat}
use Rattle.options.specs.Limits.{Decoding}
use Rattle.decoder.specs.Body.{plane_of}
use Rattle.decoder.specs.Image.{header_of}
use Rattle.decoder.proofs.After.{header-kept}
use Rattle.body_pieces.specs.InFormat.{body_from}
use Rattle.decode_session.specs.Sequence.{sequence_of, sequence}
use Rattle.body_pieces.proofs.BodyBytes.{body-append}
use Rattle.decode_session.proofs.Extends.{Extends, drop-extends, take-extends}

module _ (format : PixelFormat) (width : ℕ) where
  body-extends : (at : ℕ) (s t : List ℕ) → Extends s t → Extends (body_from format width at s) (body_from format width at t)
  body-extends at s t e =
      record {
        rest = body_from format width (at + length s) e.rest;
        whole_is = ap (body_from format width at) e.whole_is ∙ body-append format width s e.rest at;
      }

pub sequence-none : (ceiling : ℕ) (d : Decoding) → sequence ceiling d [] ≡ []
unfolding sequence read_header read_rest
sequence-none ceiling d = refl

module _ (ceiling : ℕ) (d : Decoding) (s ρ : List ℕ) where
  pub sequence-extends : Extends (sequence ceiling d s) (sequence ceiling d (s ++ ρ))
  unfolding sequence
  sequence-extends = go (header_of d.mode s) refl
    where
      go : (a : Answer Outline) → header_of d.mode s ≡ a
          → Extends (sequence_of ceiling d.format s a) (sequence_of ceiling d.format (s ++ ρ) (header_of d.mode (s ++ ρ)))
      go (gives h) e = rw (header-kept s ρ d.mode (ap decided e) ∙ e)
          (body-extends d.format h.width 0 (take (ceiling * plane_of h) (drop h.body s))
          (take (ceiling * plane_of h) (drop h.body (s ++ ρ)))
          (let a = drop-extends h.body s ρ in
          let b = take-extends (ceiling * plane_of h) (drop h.body s) a.rest in
          record { rest = b.rest; whole_is = ap (take (ceiling * plane_of h)) a.whole_is ∙ b.whole_is }))
      go (refuses code place) e = record { rest = sequence_of ceiling d.format (s ++ ρ) (header_of d.mode (s ++ ρ)); whole_is = refl }
