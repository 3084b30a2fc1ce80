-- Reading a file under a cut: closing ends as whole reading does.
use Prim.Native.Nat.{ℕ, ◌+◌, ◌≤◌}
use mathlib.Core.Path.{◌≡◌, sym, ap, ◌∙◌, subst}
use mathlib.Core.Bool.{Bool, true, false, not, ◌||◌}
use mathlib.Core.List.{List, ◌++◌}
use native.Mathlib.Omega.{arith}
use lib.ListN.{length, take, drop, length-take, length-drop, take-append-drop}
use lib.Seq.{take_all, take-add, take-take}
use Rattle.error.specs.Answer.{Answer, refuses, map, is_end}
use Rattle.laws.proofs.Lists.{append-take-drop}
use Rattle.ext.proofs.Prefix.{decided}
use Rattle.options.specs.Limits.{Decoding, ceiling_of}
use Rattle.header.specs.Read.{Outline}
use Rattle.decoder.specs.Body.{frames_in}
use Rattle.decoder.specs.Image.{read_image}
use Rattle.decoder.specs.Frames.{frames_of}
use Rattle.decoder.proofs.After.{image-kept}
use Rattle.decode_session.specs.Model.{Met, nothing, met_at, Model, Call, feed, close, Told, frames, Reply, Outcome, takes, grown}
use Rattle.decode_session.specs.Model.{fed_by, unaltered, outcome, replies}
use Rattle.decode_session.specs.Trace.{took_of, is_met, Cut, part, taken}
use Rattle.decode_session.specs.Trace as Traces
use Rattle.decode_session.proofs.MostTaken.{most-small}
use Rattle.decode_session.proofs.CutCases.{by-case}

-- the next of a list's parts behind its first ones
pub next-part : (file : List ℕ) (at size n : ℕ) → at ≤ length file → n ≤ length (take size (drop at file))
    → (take at file ++ take n (take size (drop at file)) ≡ take (at + n) file) × (at + n ≤ length file)
next-part file at size n l h =
    let p : n ≤ size = omega (arith, length-take size (drop at file)) in (
      ap (λ (r : List ℕ). take at file ++ r) (take-take n size (drop at file) p) ∙ sym (take-add at n file),
      omega (arith, length-take size (drop at file), length-drop at file),
    )

module _ (d : Decoding) (file : List ℕ) where
  abbrev ceiling : ℕ
  ceiling = ceiling_of d

  -- the machine with the first bytes of the file taken
  abbrev pub midway : ℕ → Met → Model
  midway at met = record { options = d; live = true; bytes = take at file; met = met }

  -- a met refusal is the whole file's
  pub data Meets : Bool → Met → Type 0 where
    unmet : Meets false nothing
    met : {flag : Bool} {code place : ℕ} → read_image d file ≡ refuses code place → Meets flag (met_at code place)

  pub record CutNext (at : ℕ) (flag : Bool) (o : Outcome) : Type 0 where
    pub met' : Met
    pub next_is : o.next ≡ midway (at + took_of o.reply.answer) met'
    pub holds : Meets (flag || is_met o.reply.answer) met'
    pub there : at + took_of o.reply.answer ≤ length file

  rest_of : (at size : ℕ) → (take at file ++ take size (drop at file)) ++ drop size (drop at file) ≡ file
  rest_of at size = append-take-drop (take at file) (drop at file) size ∙ take-append-drop at file

  -- a refusal of the bytes so far other than an early end is the whole file's
  pub met-whole : (at size code place : ℕ) → is_end code ≡ false
      → read_image d (take at file ++ take size (drop at file)) ≡ refuses code place
      → read_image d file ≡ refuses code place
  met-whole at size code place f e =
      ap (read_image d) (sym (rest_of at size))
      ∙ image-kept (take at file ++ take size (drop at file)) (drop size (drop at file)) d (ap decided e ∙ ap not f)
      ∙ e

  module _ (at size : ℕ) (out ext : List ℕ) (l : at ≤ length file) where
    abbrev piece : List ℕ
    piece = take size (drop at file)

    stays : (code place : ℕ) (flag : Bool) (x : Met) → Meets (flag || is_met (refuses code place)) x
        → CutNext at flag (unaltered (midway at x) code place out ext)
    stays code place flag x h =
        let z : at + 0 ≡ at = omega arith in
        record {
          met' = x;
          next_is = ap (λ (n : ℕ). midway n x) (sym z);
          holds = h;
          there = omega arith;
        }

    abbrev count : ℕ
    count = takes (midway at nothing) piece (length out)

    goes_on : CutNext at false (fed_by (midway at nothing) piece out ext nothing)
    unfolding grown
    goes_on =
        let n = next-part file at size count l (most-small ceiling d (take at file) piece (length out) (length piece)) in
        record {
          met' = nothing;
          next_is = ap (λ (bytes : List ℕ). record { options = d; live = true; bytes = bytes; met = nothing }) n.0;
          holds = unmet;
          there = n.1;
        }

    pub step : (flag : Bool) (x : Met) → Meets flag x → CutNext at flag (outcome (midway at x) (feed piece out ext))
    unfolding outcome
    step flag x (met {code = code} {place = place} e) = stays code place flag x (met e)
    step flag x unmet =
        by-case (midway at nothing) piece out ext (CutNext at false)
        (stays 28 0 false nothing unmet)
        goes_on
        (λ code place e f.
        let z : at + 0 ≡ at = omega arith in
        record {
          met' = met_at code place;
          next_is = ap (λ (n : ℕ). midway n (met_at code place)) (sym z);
          holds = met (met-whole at size code place f e);
          there = omega arith;
        })

  -- what closing answers then
  refused-whole : (code place : ℕ) → read_image d file ≡ refuses code place → refuses code place ≡ map frames (frames_of ceiling d file)
  refused-whole code place e = ap (λ (a : Answer Outline). map frames (map (frames_in ceiling (length file)) a)) (sym e)

  taken-whole : {flag : Bool} (at : ℕ) (x : Met) → Meets flag x → length file ≤ at
      → (outcome (midway at x) close).reply.answer ≡ map frames (frames_of ceiling d file)
  unfolding outcome
  taken-whole at x unmet k = ap (λ (l : List ℕ). map frames (frames_of ceiling d l)) (take_all at file k)
  taken-whole at x (met {code = code} {place = place} e) k = refused-whole code place e

  met-closing : (at : ℕ) (x : Met) → Meets true x → (outcome (midway at x) close).reply.answer ≡ map frames (frames_of ceiling d file)
  unfolding outcome
  met-closing at x (met {code = code} {place = place} e) = refused-whole code place e

  pub whole : {at : ℕ} {flag : Bool} {cs : List Call} {rs : List Reply} {a : Answer Told} (x : Met) → Meets flag x → at ≤ length file
      → Cut file at flag cs rs a → rs ≡ replies (midway at x) cs → a ≡ map frames (frames_of ceiling d file)
  unfolding replies
  whole {at} {flag} x h l (part {out = out} {ext = ext} {cs = cs} {r = r} {rs = rs} size c) e =
      let o = outcome (midway at x) (feed (take size (drop at file)) out ext) in
      let p : o.reply ≡ r = cc in
      let q : rs ≡ replies o.next cs = cc in
      let n = step at size out ext l flag x h in
      whole n.met' (subst (λ (r : Reply). Meets (flag || is_met r.answer) n.met') p n.holds)
      (subst (λ (r : Reply). at + took_of r.answer ≤ length file) p n.there) c
      (q ∙ ap (λ (m : Model). replies m cs) (n.next_is ∙ ap (λ (r : Reply). midway (at + took_of r.answer) n.met') p))
  whole {at} x h l (taken {r = r} k) e =
      let p : r ≡ (outcome (midway at x) close).reply = cc in
      ap (λ (r : Reply). r.answer) p ∙ taken-whole at x h k
  whole {at} x h l (Traces.after_refusal {r = r}) e =
      let p : r ≡ (outcome (midway at x) close).reply = cc in
      ap (λ (r : Reply). r.answer) p ∙ met-closing at x h
