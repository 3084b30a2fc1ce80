-- Any file that whole reading accepts, read under a cut: the outputs begin with what whole reading writes.
use Prim.Native.Nat.{ℕ, ◌+◌, ◌-◌, ◌*◌, ◌≤◌}
use mathlib.Core.Path.{◌≡◌, refl, sym, ap, ◌∙◌}
use mathlib.Core.Bool.{false}
use mathlib.Core.List.{List}
use native.Mathlib.Omega.{arith}
use lib.ListN.{length, take}
use Rattle.error.specs.Answer.{Answer, gives, refuses, map}
use Rattle.laws.proofs.Tests.{zero_one}
use Rattle.header.specs.Read.{Outline}
use Rattle.options.specs.Limits.{Decoding, ceiling_of}
use Rattle.decoder.specs.Body.{plane_of, frames_in, planes}
use Rattle.decoder.specs.Image.{read_image}
use Rattle.decoder.specs.Frames.{shown}
use Rattle.decoder.proofs.Counted.{at_most, frames-fit}
use Rattle.decoder.proofs.Fitted.{image-parts}
use Rattle.decoder.proofs.Planed.{planes-length}
use Rattle.decode_session.specs.Model.{Call, Told, Reply}
use Rattle.decode_session.specs.Trace.{Cut, joined}
use Rattle.decode_session.specs.declared.DecodeSession.{DecodeSession}
use Rattle.decode_session.proofs.WholeReading.{sequence-planes}
use Rattle.conformance.specs.Lists.{ReadingList}
use Rattle.conformance.proofs.CutShown.{some_read, joined_is}

pub begins : {d : Decoding} {file : List ℕ} {cs : List Call} {rs : List Reply} {last : DecodeSession} {extension : List ℕ}
    {closing : Answer Told}
    → ReadingList d cs rs last extension → Cut file 0 false cs rs closing → (out : List ℕ) → shown (ceiling_of d) d file ≡ gives out
    → take (length out) (joined rs) ≡ out
unfolding shown
begins {d} {file} {rs = rs} l cut out e = go (read_image d file) refl e
  where
    go : (x : Answer Outline) → read_image d file ≡ x
        → map (λ h. planes d.format file h (frames_in (ceiling_of d) (length file) h)) x ≡ gives out → take (length out) (joined rs) ≡ out
    go (refuses code place) p q = zero_one (cc)
    go (gives h) p q =
        let r = image-parts d file h p in
        let n = frames_in (ceiling_of d) (length file) h in
        let few = at_most (ceiling_of d - 1) (plane_of h) (length file - h.body) in
        let fit = frames-fit (ceiling_of d - 1) (plane_of h) (length file - h.body) (omega (arith, r.1)) in
        let there : h.body + n * plane_of h ≤ length file = omega (arith, fit, r.1) in
        let is : planes d.format file h n ≡ out = cc in
        let size : length out ≡ n * plane_of h = ap length (sym is) ∙ planes-length d.format file h n there in
        ap (λ (k : ℕ). take k (joined rs)) size
        ∙ ap (take (n * plane_of h)) (joined_is d file h p l cut)
        ∙ sequence-planes (ceiling_of d) d file h n r.0 (omega (arith, few, some_read l)) there
        ∙ is
