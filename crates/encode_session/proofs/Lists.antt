-- Lists of calls: from a session that stands for a machine, the replies are the machine's.
-- Assumes nothing.
use Prim.Native.Nat.{ℕ}
use mathlib.Core.Path.{◌≡◌, refl, sym, ◌∙◌, subst}
use mathlib.Core.List.{List, [], ◌∷◌}
use lib.IntN.{ℤ}
use lib.ListN.{length}
use Rattle.error.specs.Answer.{Answer}
use Rattle.encode_session.specs.declared.EncodeSession.{EncodeSession}
use Rattle.encode_session.specs.Model.{Model, Call, feed, close, Told, Reply, Outcome, outcome, replies, finally}
use Rattle.encode_session.specs.Session.{Stands, Holds}
use Rattle.encode_session.specs.Trace.{Trace, none, fed, refused, shut}
use Rattle.encode_session.proofs.OutcomeCases.{by-close, feed-refused}

one_more : {a b : Answer Told} {x y : List ℕ} {rs qs : List Reply} → a ≡ b → x ≡ y → rs ≡ qs
    → (record { answer = a; output = x } ∷ rs) ≡ (record { answer = b; output = y } ∷ qs)
one_more e f g = rw (e, f, g)

close-writes : (m : Model) → [] ≡ (outcome m close).reply.output
close-writes m = by-close m (λ (x : Outcome). [] ≡ x.reply.output) refl refl (λ _. refl)

pub lists-from : {s s' : EncodeSession} {work : List ℤ} {cs : List Call} {rs : List Reply} (m : Model) → Holds s work m
    → Trace s work cs rs s'
    → (rs ≡ replies m cs) × Stands s' (finally m cs)
unfolding replies finally
lists-from m h none = (refl, h.stands)
lists-from m h (fed {xs = xs} {out = out} {work = work} f t) =
    let d = f.does m h in
    let n = lists-from (outcome m (feed xs out (length work))).next d.1 t in
    (one_more (f.counts m h.stands).0 d.0 n.0, n.1)
lists-from m h (refused {s = s} {next = next} {xs = xs} {out = out} {work = work} {any = any} {code = code} {place = place} f e t) =
    let c = f.counts m h.stands in
    let q = f.refused code place e in
    let i = feed-refused m xs out (length any) code place (sym c.0 ∙ e) in
    let k : Holds next work (outcome m (feed xs out (length any))).next =
    subst (λ (z : EncodeSession). Holds z work (outcome m (feed xs out (length any))).next) (sym q.0)
    (subst (λ (z : Model). Holds s work z) (sym i.1) h) in
    let n = lists-from (outcome m (feed xs out (length any))).next k t in
    (one_more c.0 (q.1.0 ∙ sym i.0) n.0, n.1)
lists-from m h (shut {work = work} c t) =
    let n = lists-from (outcome m close).next (c.does m work h) t in
    (one_more (c.counts m h.stands).0 (close-writes m) n.0, n.1)
