-- Under a cut of a file that whole reading accepts, the outputs joined are what the whole file puts out.
use Prim.Native.Nat.{ℕ, ◌+◌, ◌≤◌}
use mathlib.Core.Path.{◌≡◌, refl, sym, ap, ap₂, ◌∙◌, subst}
use mathlib.Core.Bool.{Bool, true, false}
use mathlib.Core.List.{List, [], ◌++◌}
use native.Mathlib.Omega.{arith}
use lib.ListN.{length, take, drop, take-append-drop}
use lib.Seq.{take_all, take-append_seam, drop-length, take-add, sets}
use Rattle.error.specs.Answer.{Answer, gives, refuses, map}
use Rattle.header.specs.Read.{Outline}
use Rattle.options.specs.Limits.{Decoding, ceiling_of}
use Rattle.decoder.specs.Image.{image_settings, read_image}
use Rattle.decoder.specs.Frames.{frames_of}
use Rattle.decode_session.specs.Sequence.{sequence}
use Rattle.header_pieces.specs.Extension.{field_bytes}
use Rattle.decode_session.specs.Model.{nothing, Model, Call, feed, close, Told, frames, Reply, takes, grown, written, stored}
use Rattle.decode_session.specs.Model.{outcome, replies}
use Rattle.decode_session.specs.Trace.{bytes_of, joined, took_of, is_met, Cut, part, taken}
use Rattle.decode_session.specs.Trace as Traces
use Rattle.decode_session.proofs.MostTaken.{most-small}
use Rattle.decode_session.proofs.CutCases.{by-case}
use Rattle.decode_session.proofs.Cuts.{next-part, midway, met-whole}
use Rattle.decode_session.proofs.CutSequences.{sequence-extends}
use Rattle.decode_session.proofs.Extends.{Extends, seams}

module _ (d : Decoding) (file : List ℕ) (h : Outline) (accepted : read_image d file ≡ gives h) where
  abbrev ceiling : ℕ
  ceiling = ceiling_of d

  -- what is put out of the first bytes
  abbrev pub sent : ℕ → List ℕ
  sent at = sequence ceiling d (take at file)

  abbrev still : ℕ → Model
  still at = midway d file at nothing

  -- more of the file: none of what was put out changes
  grows : (at n : ℕ) → Extends (sent at) (sent (at + n))
  grows at n =
      subst (λ (l : List ℕ). Extends (sent at) (sequence ceiling d l)) (sym (take-add at n file))
      (sequence-extends ceiling d (take at file) (take n (drop at file)))

  to_end : (at : ℕ) → Extends (sent at) (sequence ceiling d file)
  to_end at =
      subst (λ (l : List ℕ). Extends (sent at) (sequence ceiling d l)) (take-append-drop at file)
      (sequence-extends ceiling d (take at file) (drop at file))

  -- a buffer with the extension bytes stored of the bytes from `at` to `to`
  abbrev pub stored_to : ℕ → ℕ → List ℕ → List ℕ
  stored_to at to ext = stored (still at) (take to file) ext

  -- what a feeding call comes to: nothing, or the next bytes
  pub record Sends (at : ℕ) (ext : List ℕ) (next : Model) (r : Reply) : Type 0 where
    pub next_is : next ≡ still (at + took_of r.answer)
    pub sends : bytes_of r.answer r.output ≡ drop (length (sent at)) (sent (at + took_of r.answer))
    pub stores : r.extension ≡ stored_to at (at + took_of r.answer) ext
    pub unmet : is_met r.answer ≡ false
    pub there : at + took_of r.answer ≤ length file

  module _ (at size : ℕ) (out ext : List ℕ) (l : at ≤ length file) where
    abbrev piece : List ℕ
    piece = take size (drop at file)

    pub sending : Sends at ext (outcome (still at) (feed piece out ext)).next (outcome (still at) (feed piece out ext)).reply
    unfolding outcome grown written
    sending =
        by-case (still at) piece out ext (λ o. Sends at ext o.next o.reply)
        (let z : at ≡ at + 0 = omega arith in
        record {
          next_is = ap still z;
          sends = sym (drop-length (sent at)) ∙ ap (λ (n : ℕ). drop (length (sent at)) (sent n)) z;
          stores =
              ap (sets ext _) (sym (drop-length (field_bytes (image_settings d.mode) (take at file))))
              ∙ ap (λ (n : ℕ). stored_to at n ext) z;
          unmet = refl;
          there = omega arith;
        })
        (let n = next-part file at size (takes (still at) piece (length out)) l
        (most-small ceiling d (take at file) piece (length out) (length piece)) in
        record {
          next_is = ap (λ (bytes : List ℕ). record { options = d; live = true; bytes = bytes; met = nothing }) n.0;
          sends =
              take-append_seam (written (still at) piece (length out)) _
              ∙ ap (λ (bytes : List ℕ). drop (length (sent at)) (sequence ceiling d bytes)) n.0;
          stores = ap (λ (bytes : List ℕ). stored (still at) bytes ext) n.0;
          unmet = refl;
          there = n.1;
        })
        (λ code place e f. let m = met-whole d file at size code place f e in cc)

  closing-sends : (a : Answer ℕ) → bytes_of (map frames a) [] ≡ []
  closing-sends (gives n) = refl
  closing-sends (refuses code place) = refl

  pub outputs : {at : ℕ} {flag : Bool} {cs : List Call} {rs : List Reply} {a : Answer Told} → at ≤ length file → flag ≡ false
      → Cut file at flag cs rs a → rs ≡ replies (still at) cs → joined rs ≡ drop (length (sent at)) (sequence ceiling d file)
  unfolding replies joined outcome
  outputs {at} l f (part {out = out} {ext = ext} {cs = cs} {r = r} {rs = rs} size c) e =
      let o = outcome (still at) (feed (take size (drop at file)) out ext) in
      let p : o.reply ≡ r = cc in
      let q : rs ≡ replies o.next cs = cc in
      let n = subst (Sends at ext o.next) p (sending at size out ext l) in
      let to = at + took_of r.answer in
      let ih = outputs {at = to} n.there (rw f n.unmet) c (q ∙ ap (λ (m : Model). replies m cs) n.next_is) in
      ap₂ ◌++◌ n.sends ih ∙ seams (sent at) (sent to) (sequence ceiling d file) (grows at (took_of r.answer)) (to_end to)
  outputs {at} l f (taken {r = r} k) e =
      let p : r ≡ (outcome (still at) close).reply = cc in
      ap (λ (r : Reply). bytes_of r.answer r.output ++ []) p
      ∙ ap (λ (l : List ℕ). l ++ []) (closing-sends (frames_of ceiling d (take at file)))
      ∙ sym (drop-length (sent at))
      ∙ ap (λ (l : List ℕ). drop (length (sent at)) (sequence ceiling d l)) (take_all at file k)
  outputs {at} l f Traces.after_refusal e = cc
