-- Under a cut of a file that whole reading accepts: the session that closing leaves, and the extension buffer as left.
use Prim.Native.Nat.{ℕ, ◌+◌, ◌≤◌}
use mathlib.Core.Path.{◌≡◌, sym, ap, subst}
use mathlib.Core.Bool.{Bool, false}
use mathlib.Core.List.{List}
use native.Mathlib.Omega.{arith}
use lib.ListN.{length, take, drop}
use Rattle.std.proofs.Common.{Result}
use Rattle.error.specs.Answer.{Answer, gives}
use Rattle.error.specs.declared.Fed.{Fed}
use Rattle.error.specs.declared.WbmpError.{WbmpError}
use Rattle.header.specs.Read.{Outline}
use Rattle.options.specs.Limits.{Decoding}
use Rattle.decoder.specs.Image.{read_image}
use Rattle.decode_session.specs.Model.{nothing, Model, Call, feed, Told, Reply, shut, outcome}
use Rattle.decode_session.specs.Session.{Stands, fed_meaning, Feeds, Closes}
use Rattle.decode_session.specs.Trace.{took_of, is_met, Trace, Cut, part, taken}
use Rattle.decode_session.specs.Trace as Traces
use Rattle.decode_session.specs.declared.DecodeSession.{DecodeSession}
use Rattle.decode_session.proofs.Cuts.{midway}
use Rattle.decode_session.proofs.CutOutputs.{stored_to, Sends, sending}

module _ (d : Decoding) (file : List ℕ) (h : Outline) (accepted : read_image d file ≡ gives h) (K : ℕ → List ℕ → Type 0)
    (more : (at n : ℕ) (ext : List ℕ) → at + n ≤ length file → K at ext → K (at + n) (stored_to d file h accepted at (at + n) ext)) where
  abbrev still : ℕ → Model
  still at = midway d file at nothing

  -- the session stands for the machine closed after the whole file, and the buffer holds all of it
  pub record Ended (s : DecodeSession) (ext : List ℕ) : Type 0 where
    pub stands : Stands s (shut (still (length file)))
    pub holds : K (length file) ext

  -- what feeding leaves
  pub record FeedLeaves (at : ℕ) (ext : List ℕ) (s : DecodeSession) (r : Reply) : Type 0 where
    pub stands : Stands s (still (at + took_of r.answer))
    pub holds : K at ext → K (at + took_of r.answer) r.extension
    pub unmet : is_met r.answer ≡ false
    pub there : at + took_of r.answer ≤ length file

  left : (at size : ℕ) (s : DecodeSession) (out ext out' ext' : List ℕ) (r : Result Fed WbmpError) (s' : DecodeSession)
      → at ≤ length file → Stands s (still at)
      → Feeds s (take size (drop at file)) out ext r s' out' ext'
      → FeedLeaves at ext s' (record { answer = fed_meaning r; output = out'; extension = ext' })
  left at size s out ext out' ext' r s' l st f =
      let o = outcome (still at) (feed (take size (drop at file)) out ext) in
      let g = f.does (still at) st in
      let n = subst (Sends d file h accepted at ext o.next) g.0 (sending d file h accepted at size out ext l) in
      record {
        stands = subst (Stands s') n.next_is g.1;
        holds =
            λ k. subst (K (at + took_of (fed_meaning r))) (sym n.stores)
            (more at (took_of (fed_meaning r)) ext n.there k);
        unmet = n.unmet;
        there = n.there;
      }

  ended : (at : ℕ) (s : DecodeSession) (ext : List ℕ) (r : Result ℕ WbmpError) (s' : DecodeSession) → at ≤ length file
      → length file ≤ at → Stands s (still at)
      → K at ext
      → Closes s r s' → Ended s' ext
  unfolding outcome
  ended at s ext r s' l k st b c =
      let e : at ≡ length file = omega arith in
      record {
        stands = subst (λ (n : ℕ). Stands s' (shut (still n))) e (c.does (still at) st).1;
        holds = subst (λ (n : ℕ). K n ext) e b;
      }

  pub buffers : {s s' : DecodeSession} {ext end : List ℕ} {at : ℕ} {flag : Bool} {cs : List Call} {rs : List Reply} {a : Answer Told}
      → at ≤ length file → flag ≡ false → Stands s (still at) → K at ext → Trace s ext cs rs s' end → Cut file at flag cs rs a
      → Ended s' end
  buffers l e st k Traces.none x = elim x [ ]
  buffers {s} {ext = ext} l e st k (Traces.fed {next = next} {out = out} {out' = out'} {ext' = ext'} {r = r} f t) (part {at = at} size c) =
      let n = left at size s out ext out' ext' r next l st f in
      buffers n.there (rw e n.unmet) n.stands (n.holds k) t c
  buffers {s} {ext = ext} l e st k (Traces.refused {next = next} {out = out} {out' = out'} {any = any} {r = r} f q t)
      (part {at = at} size c) =
      let n = left at size s out any out' any r next l st f in
      let z : at ≡ at + took_of (fed_meaning r) = omega (arith, ap took_of q) in
      buffers n.there (rw e n.unmet) n.stands (subst (λ (n : ℕ). K n ext) z k) t c
  buffers {s} {ext = ext} l e st k (Traces.shut {next = next} {r = r} f Traces.none) (taken {at = at} j) = ended at s ext r next l j st k f
  buffers l e st k (Traces.shut f t) Traces.after_refusal = cc
