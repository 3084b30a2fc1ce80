-- A piece of the body is fed as the plain machine says.
use Prim.Native.Nat.{ℕ, ◌+◌, ◌*◌, ◌≤◌, ◌<◌}
use mathlib.Core.Path.{◌≡◌, refl, sym, ap, subst, ◌∙◌}
use mathlib.Core.List.{List, ◌++◌}
use mathlib.Core.Logic.{◌⊎◌, ⊎_elim, inl, inr}
use native.Mathlib.Omega.{arith}
use lib.ListN.{length, take, drop}
use Rattle.std.proofs.Common.{Ok}
use Rattle.laws.proofs.Lists.{length-append-take, append-take-drop}
use Rattle.header.specs.Read.{parsed}
use Rattle.header.specs.declared.ParsedHeader.{ParsedHeader}
use Rattle.image.specs.declared.PixelFormat.{PixelFormat}
use Rattle.options.specs.Limits.{Decoding, ceiling_of, decoding}
use Rattle.options.specs.declared.DecodeOptions.{DecodeOptions}
use Rattle.decoder.specs.Body.{plane_of}
use Rattle.decoder.specs.Image.{image_settings}
use Rattle.body_pieces.specs.InFormat.{body_from}
use Rattle.body_pieces.specs.Internal.Body.{Bodies}
use Rattle.header_pieces.specs.Extension.{field_bytes}
use Rattle.decode_session.specs.Model.{Model, nothing, grown, written, stored, fed_by}
use Rattle.decode_session.specs.Session.{InBody, Settled}
use Rattle.decode_session.specs.Internal.Stages.{in_stage, FedAs, having, Enters, FeedsPlanes}
use Rattle.decode_session.specs.declared.Stage.{Stage}
use Rattle.body_pieces.specs.declared.BodyFed.{BodyFed}
use Rattle.body_pieces.proofs.BodyCounts.{Advanced, Placed, from_place}
use Rattle.decode_session.proofs.Headers.{header-later}
use Rattle.decode_session.proofs.FieldBytes.{fields-kept}
use Rattle.decode_session.proofs.Replies.{replied, stored-as}
use Rattle.decode_session.proofs.PieceTaken.{advanced, below_left, takes-is, grown-is, written_is, written-length}

module _ (o : DecodeOptions) (p : ParsedHeader) (most whole begun from : ℕ) (piece out out' : List ℕ) (within : from ≤ length piece)
    (r : BodyFed)
    (b : Bodies o.format p.width p.height most whole begun (drop from piece) out r out') where
  module _ (m : Model) (settles : Settled m.options) (full : ceiling_of m.options ≡ most) (options : decoding o ≡ m.options)
      (en : Enters m piece from (parsed p) whole begun) where
    abbrev plane : ℕ
    plane = plane_of (parsed p)

    abbrev bytes : List ℕ
    bytes = m.bytes ++ take from piece

    abbrev rest : List ℕ
    rest = drop from piece

    advances : Placed most plane whole begun → Advanced most plane whole begun (length rest) (length out) r
    advances = from_place _ _ _ _ _ _ _ b.advances

    ends : Advanced most plane whole begun (length rest) (length out) r
    ends = advanced full within en advances

    next-length : length (bytes ++ take r.taken rest) ≡ length bytes + r.taken
    next-length = length-append-take bytes rest r.taken ends.takes

    next_place : ((r.whole < ceiling_of m.options)
        × (p.data_offset + (r.whole * plane + r.begun) ≡ length (bytes ++ take r.taken rest)))
        ⊎ ((r.whole ≡ ceiling_of m.options)
        × ((r.begun ≡ 0) × (p.data_offset + r.whole * plane ≤ length (bytes ++ take r.taken rest))))
    next_place =
        ⊎_elim
        (λ w. ⊎_elim (λ v. inl (omega (arith, full, w.0), omega (arith, next-length, ends.sum, v.1, w.1.0)))
        (λ v.
        let a : whole * plane ≡ ceiling_of m.options * plane = ap (λ (k : ℕ). k * plane) v.0 in
        let l = below_left full within en advances w.0 in
        let z : ⊥ = omega (arith, v.1.0) in
        absurd z)
        en.in_body.place)
        (λ w. inr (
          w.0 ∙ sym full,
          (
            w.1.0,
            ⊎_elim (λ v. omega (arith, next-length, ends.sum, ends.writes, v.1))
                (λ v. let a : r.whole * plane ≡ whole * plane =
                ap (λ (k : ℕ). k * plane) (w.0 ∙ sym full ∙ sym v.0) in omega (arith, next-length, v.1.1))
                en.in_body.place,
          ),
        ))
        ends.ends

    next-body : InBody (having m (bytes ++ take r.taken rest)) (parsed p) r.whole r.begun
    next-body =
        record {
          nothing_met = refl;
          header_is = header-later (image_settings m.options.mode) bytes (parsed p) en.in_body.header_is (take r.taken rest);
          admitted = en.in_body.admitted;
          start = omega (arith, next-length, en.in_body.start);
          below = ends.below;
          place = next_place;
        }

    pub planed : (ext : List ℕ)
        → FedAs (Ok (record { taken = from + r.taken; written = r.written })) (in_stage o (Stage.Body p r.whole r.begun))
        out' (stored m (m.bytes ++ piece) ext) (fed_by m piece out ext nothing)
    planed ext =
        let count = takes-is full within en advances in
        let all = grown-is full within en advances in
        let new = written_is full within en advances in
        let size = written-length full within en advances in
        let f : o.format ≡ m.options.format = ap (λ (d : Decoding). d.format) options in
        record {
          reply =
              replied (cc)
              (ap (λ (k : ℕ). written m piece (length out) ++ drop k out) size
              ∙ ap (λ (l : List ℕ). l ++ drop r.written out)
              (new ∙ ap (λ (f : PixelFormat). body_from f p.width begun (take r.written rest)) (sym f))
              ∙ sym b.output)
              (stored-as m ext (grown m piece (length out)) (m.bytes ++ piece)
              (ap (field_bytes (image_settings m.options.mode)) all
              ∙ fields-kept (image_settings m.options.mode) bytes (take r.taken rest) (parsed p) en.in_body.header_is
              ∙ sym (fields-kept (image_settings m.options.mode) bytes rest (parsed p) en.in_body.header_is)
              ∙ ap (field_bytes (image_settings m.options.mode)) (append-take-drop m.bytes piece from)));
          stands =
              record {
                tested = settles;
                options = options;
                live = refl;
                stage = subst (λ (l : List ℕ). InBody (having m l) (parsed p) r.whole r.begun) (sym all) next-body;
              };
        }

-- as the code has it: the part of the piece that is lent, and the header that is built anew
pub planes : (o : DecodeOptions) (p k : ParsedHeader) (most whole begun from : ℕ) (piece out out' part : List ℕ) (r : BodyFed)
    → most ≡ ceiling_of (decoding o) → from ≤ length piece → part ≡ drop from piece
    → Bodies o.format p.width p.height most whole begun part out r out' → k ≡ p
    → FeedsPlanes o p whole begun from piece out
    (Stage.Body k r.whole r.begun) (record { taken = from + r.taken; written = r.written }) out'
planes o p k most whole begun from piece out out' part r n within same b e =
    let b' = subst (λ (l : List ℕ). Bodies o.format p.width p.height most whole begun l out r out') same b in
    record {
      does =
          λ m ext c q en.
          subst
          (λ (k : ParsedHeader). FedAs
          (Ok (record { taken = from + r.taken; written = r.written })) (in_stage o (Stage.Body k r.whole r.begun)) out'
          (stored m (m.bytes ++ piece) ext) (fed_by m piece out ext nothing)) (sym e)
          (planed o p most whole begun from piece out out' within r b' m c (sym (n ∙ ap ceiling_of q)) q en ext);
    }
