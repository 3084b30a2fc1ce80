-- The bytes of all replies, joined: what the samples taken finish.
-- Assumes nothing.
use Prim.Native.Nat.{ℕ, ◌<◌}
use mathlib.Core.Path.{◌≡◌, sym, ap, ◌∙◌, subst}
use mathlib.Core.List.{List, [], ◌∷◌, ◌++◌, append_assoc, append-nil}
use lib.ListN.{length, drop}
use lib.Seq.{take-append_seam}
use Rattle.quantize.specs.Finished.{finished}
use Rattle.quantize.proofs.FinishedGrows.{finished-more}
use Rattle.encode_session.specs.Model.{Opening, setting_of, Model, Call, feed, close, taken, written, Outcome, fed_by, outcome, replies}
use Rattle.encode_session.specs.Model.{finally}
use Rattle.encode_session.specs.Trace.{bytes_of, joined}
use Rattle.encode_session.proofs.OutcomeCases.{by-feed, by-close}
use Rattle.encode_session.proofs.ModelReached.{Reached, reached-next}

-- what one call adds
abbrev Adds : Model → Outcome → Type 0
Adds m x =
    finished (setting_of m.opening) m.samples ++ bytes_of x.reply.answer x.reply.output
    ≡ finished (setting_of m.opening) x.next.samples

adds-feed : (m : Model) (xs out : List ℕ) → 0 < m.opening.width → Adds m (fed_by m xs out)
unfolding written
adds-feed m xs out wide =
    let S = setting_of m.opening in
    let W = written m xs (length out) in
    ap (λ (l : List ℕ). finished S m.samples ++ l) (take-append_seam W (drop (length W) out))
    ∙ sym (finished-more S wide m.samples (taken m xs (length out)))

adds : (m : Model) (c : Call) → 0 < m.opening.width → Adds m (outcome m c)
adds m (feed xs out work) wide =
    let none = append-nil (finished (setting_of m.opening) m.samples) in
    by-feed m xs out work (Adds m) none none (adds-feed m xs out wide)
adds m close wide = let none = append-nil (finished (setting_of m.opening) m.samples) in by-close m (Adds m) none none (λ _. none)

pub joined-from : (a : Opening) (m : Model) (cs : List Call) → 0 < a.width → Reached a m
    → finished (setting_of a) m.samples ++ joined (replies m cs) ≡ finished (setting_of a) (finally m cs).samples
unfolding joined replies finally
joined-from a m [] wide r = append-nil (finished (setting_of a) m.samples)
joined-from a m (c ∷ cs) wide r =
    let B = bytes_of (outcome m c).reply.answer (outcome m c).reply.output in
    let J = joined (replies (outcome m c).next cs) in
    let one = adds m c (subst (λ (x : Opening). 0 < x.width) (sym r.same) wide) in
    sym (append_assoc (finished (setting_of a) m.samples) B J)
    ∙ ap (λ (l : List ℕ). l ++ J)
    (subst (λ (x : Opening). finished (setting_of x) m.samples ++ B ≡ finished (setting_of x) (outcome m c).next.samples) r.same one)
    ∙ joined-from a (outcome m c).next cs wide (reached-next a m c r)
