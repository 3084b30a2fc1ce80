-- Which refusals of a file a call meets.
use Prim.Native.Nat.{ℕ, ◌-◌, ◌*◌}
use mathlib.Core.Path.{◌≡◌, refl, sym, ap, ◌∙◌}
use mathlib.Core.Bool.{Bool, true, false}
use mathlib.Core.List.{List, ◌++◌}
use lib.Dec.{ltb}
use lib.ListN.{length}
use Rattle.error.specs.Choice.{if}
use Rattle.error.specs.Answer.{Answer, gives, refuses, bind, is_end}
use Rattle.header.specs.Read.{Outline}
use Rattle.options.specs.Limits.{Decoding, admits, check_limits}
use Rattle.decoder.specs.Body.{plane_of}
use Rattle.decoder.specs.Image.{header_of, test_body}
use Rattle.decoder.proofs.Headed.{image-by, image-limited}
use Rattle.decode_session.specs.Model.{nothing, met_at, Model, met_by, meets}

-- a limit's refusal is no end of the file
pub limit-code : (d : Decoding) (w h bytes start code place : ℕ) → check_limits d w h bytes start ≡ refuses code place → is_end code ≡ false
unfolding check_limits
limit-code d w h bytes start code place =
    go (admits d.max_width w) (admits d.max_height h) (admits d.max_pixels (w * h)) (admits d.max_bytes bytes)
  where
    is : (n : ℕ) → is_end n ≡ false → ◌≡◌ {A = Answer (Unit {0})} (refuses n start) (refuses code place) → is_end code ≡ false
    is n e q = let p : n ≡ code = cc in ap is_end (sym p) ∙ e

    go : (a b c e : Bool)
        → ◌≡◌ {A = Answer (Unit {0})} (if a (if b (if c (if e (gives tt) (refuses 19 start)) (refuses 18 start)) (refuses 17 start))
        (refuses 16 start)) (refuses code place)
        → is_end code ≡ false
    go true true true true q = cc
    go true true true false q = is 19 refl q
    go true true false e q = is 18 refl q
    go true false c e q = is 17 refl q
    go false b c e q = is 16 refl q

module _ (m : Model) (piece : List ℕ) where
  abbrev file : List ℕ
  file = m.bytes ++ piece

  -- by the header's answer
  header-met : (x : Answer Outline) → header_of m.options.mode file ≡ x
      → meets m piece ≡ met_by (bind x (test_body m.options (length file)))
  header-met x e = ap met_by (image-by m.options file x e)

  -- the header is refused, or ends too early
  pub header_refused : (code place : ℕ) → header_of m.options.mode file ≡ refuses code place → is_end code ≡ false
      → meets m piece ≡ met_at code place
  header_refused code place e f = header-met (refuses code place) e ∙ ap (λ (t : Bool). if t nothing (met_at code place)) f

  pub header-short : (code place : ℕ) → header_of m.options.mode file ≡ refuses code place → is_end code ≡ true → meets m piece ≡ nothing
  header-short code place e f = header-met (refuses code place) e ∙ ap (λ (t : Bool). if t nothing (met_at code place)) f

  module _ (h : Outline) (read : header_of m.options.mode file ≡ gives h) where
    limits-met : (x : Answer (Unit {0})) → check_limits m.options h.width h.height (plane_of h) h.body ≡ x
        → meets m piece ≡ met_by (bind x (λ _. if (ltb (length file - h.body) (plane_of h)) (refuses 20 h.body) (gives h)))
    limits-met x e = ap met_by (image-limited m.options file h x read e)

    pub limit-over : (code place : ℕ) → check_limits m.options h.width h.height (plane_of h) h.body ≡ refuses code place
        → meets m piece ≡ met_at code place
    limit-over code place e =
        limits-met (refuses code place) e
        ∙ ap (λ (t : Bool). if t nothing (met_at code place))
        (limit-code m.options h.width h.height (plane_of h) h.body code place e)

    pub admitted : check_limits m.options h.width h.height (plane_of h) h.body ≡ gives tt → meets m piece ≡ nothing
    admitted e = limits-met (gives tt) e ∙ go (ltb (length file - h.body) (plane_of h))
      where
        go : (t : Bool) → met_by (if t (refuses 20 h.body) (gives h)) ≡ nothing
        go true = refl
        go false = refl
