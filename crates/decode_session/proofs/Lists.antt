-- Every list of calls replies as the plain machine does, and its last session stands for where that machine ends.
use mathlib.Core.Path.{◌≡◌, refl, sym, ap₂}
use mathlib.Core.List.{List, ◌∷◌}
use Prim.Native.Nat.{ℕ}
use Rattle.decode_session.specs.Model.{Model, Call, feed, close, Reply, outcome, replies, finally}
use Rattle.decode_session.specs.Session.{Stands}
use Rattle.decode_session.specs.Trace.{Trace, none, fed, refused, shut}
use Rattle.decode_session.specs.declared.DecodeSession.{DecodeSession}

pub lists : {s s' : DecodeSession} {ext end : List ℕ} {cs : List Call} {rs : List Reply} (m : Model) → Stands s m → Trace s ext cs rs s' end
    → (rs ≡ replies m cs) × Stands s' (finally m cs)
unfolding replies finally
lists m h none = (refl, h)
lists m h (fed {piece = piece} {out = out} {ext = ext} f t) =
    let d = f.does m h in
    let ih = lists (outcome m (feed piece out ext)).next d.1 t in
    (ap₂ ◌∷◌ (sym d.0) ih.0, ih.1)
lists m h (refused {piece = piece} {out = out} {any = any} f e t) =
    let d = f.does m h in
    let ih = lists (outcome m (feed piece out any)).next d.1 t in
    (ap₂ ◌∷◌ (sym d.0) ih.0, ih.1)
lists m h (shut f t) =
    let d = f.does m h in
    let ih = lists (outcome m close).next d.1 t in
    (ap₂ ◌∷◌ (sym d.0) ih.0, ih.1)
