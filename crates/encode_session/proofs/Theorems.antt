-- Lists of calls: an accepted opening, then any calls, over any work buffer. Condition 3 cites these.
-- Assumes nothing.
use Prim.Native.Nat.{ℕ}
use mathlib.Core.Path.{◌≡◌, sym, ap, ◌∙◌}
use mathlib.Core.Bool.{false}
use mathlib.Core.List.{List, ◌++◌}
use lib.IntN.{ℤ}
use lib.ListN.{length}
use Rattle.std.proofs.Common.{Result}
use Rattle.error.specs.Answer.{gives, written}
use Rattle.error.specs.declared.WbmpError.{WbmpError}
use Rattle.quantize.specs.Finished.{finished}
use Rattle.quantize.proofs.FinishedGrows.{finished-none}
use Rattle.encode_session.specs.declared.EncodeSession.{EncodeSession}
use Rattle.encode_session.specs.Model.{Opening, setting_of, opened, Call, Reply, replies, finally}
use Rattle.encode_session.specs.Session.{Stands, Opens}
use Rattle.encode_session.specs.Trace.{Trace, joined}
use Rattle.encode_session.proofs.OpenCorrect.{Passed, accepted}
use Rattle.encode_session.proofs.Lists.{lists-from}
use Rattle.encode_session.proofs.ModelReached.{reached-start, reached, Frames, whole-frames}
use Rattle.encode_session.proofs.BytesJoined.{joined-from}

module _ {a : Opening} {room : ℕ} {opened-as : EncodeSession} {r : Result ℕ WbmpError} {old new : List ℕ}
    (o : Opens a room opened-as r old new) (n : ℕ) (e : written r ≡ gives n) where
  passed : Passed a room (accepted o n e).0
  passed = (accepted o n e).1

  module _ {s : EncodeSession} {work : List ℤ} {cs : List Call} {rs : List Reply} (t : Trace opened-as work cs rs s) where
    -- the replies are the plain machine's, and the session stands for what it becomes
    pub lists : (rs ≡ replies (opened a) cs) × Stands s (finally (opened a) cs)
    lists = lists-from (opened a) (o.holds n e work) t

    -- the bytes written, header aside, are the finished bytes of the samples taken
    pub bytes-joined : joined rs ≡ finished (setting_of a) (finally (opened a) cs).samples
    bytes-joined =
        ap joined lists.0
        ∙ ap (λ (l : List ℕ). l ++ joined (replies (opened a) cs)) (sym (finished-none (setting_of a) passed.wide))
        ∙ joined-from a (opened a) cs passed.wide (reached-start a)

    -- a session that closed has 1 to 16 whole frames
    pub closed-whole : (finally (opened a) cs).live ≡ false → Frames a (length (finally (opened a) cs).samples)
    closed-whole l = whole-frames a (finally (opened a) cs) (reached a (opened a) cs (reached-start a)) passed.wide passed.high l
