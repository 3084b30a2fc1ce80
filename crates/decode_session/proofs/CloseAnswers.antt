-- What closing answers in each stage.
use Rattle.std.proofs.Common.{Ok, Err, min}
use Prim.Native.Nat.{ℕ, ◌+◌, ◌-◌, ◌*◌, ◌/◌, ◌≤◌, ◌<◌}
use mathlib.Core.Path.{◌≡◌, sym, ap, ◌∙◌}
use mathlib.Core.Logic.{⊎_elim}
use native.Mathlib.Nat.{pos_of_ne-zero, div-eq_of_lt-le, le-div_iff_mul-le}
use native.Mathlib.Omega.{arith}
use borrow.Author.Tests.{lt-ltb, le-ltb}
use lib.Dec.{ltb}
use lib.ListN.{length}
use Rattle.error.specs.Choice.{if}
use Rattle.error.specs.Answer.{Answer, gives, refuses, map, refusal}
use Rattle.error.specs.declared.Refusal.TheVariants.{PlaneTooShort}
use Rattle.error.specs.declared.WbmpError.{WbmpError}
use Rattle.laws.proofs.Tests.{if-true, if-false}
use Rattle.header.specs.Read.{Outline}
use Rattle.header.specs.declared.ParsedHeader.{ParsedHeader}
use Rattle.header_pieces.specs.declared.HeadReading.{HeadReading}
use Rattle.options.specs.Limits.{ceiling_of}
use Rattle.decoder.specs.Body.{extra_frames, plane_of, frames_in}
use Rattle.decoder.specs.Image.{image_settings, read_image}
use Rattle.header_pieces.specs.Internal.Head.{TellsEnd}
use Rattle.decoder.proofs.Headed.{image-by, image-limited}
use Rattle.decoder.proofs.Counted.{few, many}
use Rattle.decode_session.specs.Model.{nothing, Model, Told, frames, closing}
use Rattle.decode_session.specs.Session.{InBody, Settled}
use Rattle.decode_session.specs.Internal.Stages.{Finishes}
use Rattle.decode_session.specs.declared.Stage.{Stage}
use Rattle.decode_session.proofs.StageFacts.{staged, in-body, ceiling-some, ceiling-few}

-- closing by the image's answer
pub closes_by : (m : Model) (x : Answer Outline) → m.met ≡ nothing → read_image m.options m.bytes ≡ x
    → closing m m.met ≡ map frames (map (frames_in (ceiling_of m.options) (length m.bytes)) x)
closes_by m x n e =
    ap (closing m) n ∙ ap (λ (x : Answer Outline). map {B = Told} frames (map (frames_in (ceiling_of m.options) (length m.bytes)) x)) e

module _ {m : Model} {h : Outline} {whole begun : ℕ} (b : InBody m h whole begun) (settles : Settled m.options) where
  abbrev size : ℕ
  size = length m.bytes - h.body

  image-is : read_image m.options m.bytes ≡ if (ltb size (plane_of h)) (refuses 20 h.body) (gives h)
  image-is = image-limited m.options m.bytes h (gives tt) b.header_is b.admitted

  -- no whole plane is there
  short-size : whole ≡ 0 → size < plane_of h
  short-size z =
      let e : whole * plane_of h ≡ 0 * plane_of h = ap (λ (k : ℕ). k * plane_of h) z in
      ⊎_elim (λ v. omega (arith, v.1, b.below)) (λ v. let f : ⊥ = omega (arith, v.0, ceiling-some settles) in absurd f) b.place

  pub none-whole : whole ≡ 0 → closing m m.met ≡ refuses 20 h.body
  none-whole z =
      closes_by m (refuses 20 h.body) b.nothing_met
      (image-is ∙ if-true (ltb size (plane_of h)) _ _ (lt-ltb size (plane_of h) (short-size z)))

  module _ (some : 0 < whole) where
    enough : plane_of h + (whole - 1) * plane_of h ≤ size
    enough =
        let e : whole * plane_of h ≡ plane_of h + (whole - 1) * plane_of h = spread whole some in
        ⊎_elim (λ v. omega (arith, v.1)) (λ v. omega (arith, v.1.1)) b.place
      where
        spread : (n : ℕ) → 0 < n → n * plane_of h ≡ plane_of h + (n - 1) * plane_of h
        spread n l = let e : n ≡ 1 + (n - 1) = omega arith in ap (λ (k : ℕ). k * plane_of h) e ∙ omega arith

    -- the planes behind the first
    extra : extra_frames (ceiling_of m.options - 1) (plane_of h) size ≡ whole - 1
    extra = ⊎_elim inside behind b.place
      where
        inside : (whole < ceiling_of m.options) × (h.body + (whole * plane_of h + begun) ≡ length m.bytes)
            → extra_frames (ceiling_of m.options - 1) (plane_of h) size ≡ whole - 1
        inside v =
            let n : whole - 1 + 1 ≡ whole = omega arith in
            let t : (whole - 1 + 1) * plane_of h ≡ whole * plane_of h = ap (λ (k : ℕ). k * plane_of h) n in
            let q : (size - plane_of h) / plane_of h ≡ whole - 1 =
            div-eq_of_lt-le (plane_of h) (omega (arith, enough)) (omega (arith, v.1, b.below)) in
            sym (few (ceiling_of m.options - 1) (plane_of h) size (omega (arith, v.0))) ∙ q

        behind : (whole ≡ ceiling_of m.options) × ((begun ≡ 0) × (h.body + whole * plane_of h ≤ length m.bytes))
            → extra_frames (ceiling_of m.options - 1) (plane_of h) size ≡ whole - 1
        behind v = sym (many (ceiling_of m.options - 1) (plane_of h) size (omega (arith, most, v.0))) ∙ omega (arith, v.0)
          where
            most : whole - 1 ≤ (size - plane_of h) / plane_of h
            most = (le-div_iff_mul-le {k = plane_of h} (omega (arith, b.below))).1 (omega (arith, enough))

    pub all_whole : closing m m.met ≡ gives (frames whole)
    all_whole =
        let n : 1 + (whole - 1) ≡ whole = omega arith in
        closes_by m (gives h) b.nothing_met
        (image-is ∙ if-false (ltb size (plane_of h)) _ _ (le-ltb size (plane_of h) (omega (arith, enough))))
        ∙ ap (λ (k : ℕ). gives (frames (1 + k))) extra ∙ ap (λ (k : ℕ). gives (frames k)) n

  pub at_most : whole ≤ 16
  at_most = ⊎_elim (λ v. omega (arith, v.0, ceiling-few settles)) (λ v. omega (arith, v.0, ceiling-few settles)) b.place

module _ (s : Stage) where
  pub finish-header : (r : HeadReading) (e : WbmpError) → s ≡ Stage.Header r → TellsEnd r e
      → Finishes s (Err e)
  finish-header r e g d =
      record {
        does =
            λ m c st.
            let u = staged m g st in
            let o = image_settings m.options.mode in
            sym (closes_by m (refusal e) u.0 (image-by m.options m.bytes (refusal e) (sym (d o m.bytes u.1))));
      }

  module _ (p : ParsedHeader) (whole begun : ℕ) (g : s ≡ Stage.Body p whole begun) where
    pub finish-short : (e : WbmpError) → whole ≡ 0 → e ≡ record { kind = PlaneTooShort; offset = p.data_offset } → Finishes s (Err e)
    finish-short e z f = record { does = λ m c st. ap refusal f ∙ sym (none-whole (in-body m g st) c z) }

    pub finish-body : (n : ℕ) → (whole ≡ 0 → ⊥) → n ≡ min whole 16 → Finishes s (Ok n)
    finish-body n z i =
        record {
          does =
              λ m c st.
              let b = in-body m g st in
              let e : n ≡ whole = omega (arith, at_most b c) in
              ap (λ (k : ℕ). gives (frames k)) e ∙ sym (all_whole b c (pos_of_ne-zero z));
        }
