-- A run on a making session, as the model's.
use Rattle.std.proofs.Common.{Result, Ok, Err}
use Prim.Native.Nat.{ℕ, suc, ◌≤◌}
use mathlib.Core.Path.{◌≡◌, refl, sym, ap, ap₂, subst, ◌∙◌}
use mathlib.Core.List.{List, [], ◌++◌}
use native.Mathlib.Omega.{arith}
use lib.IntN.{ℤ}
use lib.ListN.{length, drop}
use Rattle.error.specs.Answer.{refuses}
use Rattle.error.specs.declared.Fed.{Fed}
use Rattle.error.specs.declared.WbmpError.{WbmpError}
use Rattle.laws.proofs.Tests.{zero_one}
use Rattle.quantize.specs.Internal.Machine.{MachineState}
use Rattle.quantize.specs.Internal.Turn.{state_of}
use Rattle.encode_session.specs.Model.{Model, Call, close, Outcome, outcome, replies, finally}
use Rattle.encode_session.specs.Session.{fed_meaning, closed_meaning, Stands, Holds, Feeds, Closes}
use Rattle.encode_session.specs.declared.EncodeSession.{EncodeSession}
use Rattle.encode_session.proofs.OutcomeCases.{by-close}
use Rattle.replay.specs.declared.call.Named.{Named}
use Rattle.replay.specs.declared.call.Named.TheVariants.{Close, Feed}
use Rattle.replay.specs.Calls.{room_of, concat_map, over, three_of}
use Rattle.replay.specs.Run.{Calls, Runs, ended, goes, Ran}
use Rattle.replay.specs.Encode.{numbers_of, told, output, call_of, calls_of, kept_by, kept_from, Leaves, RunsCalls, Closing, taken_by}
use Rattle.replay.proofs.EncodeFed.{Tracks, answer-is, fed-stands, fed-leaves, fed-tracks, fed-calls}
use Rattle.replay.proofs.RunSpared.{spares}
use Rattle.replay.proofs.WorkLeft.{next-same, next-longer, same-leaves, leaves-on}

-- DecodeRun has the same of its machine: replies and their numbers are other types there
fed-numbers : (r : Result Fed WbmpError) → three_of r ≡ numbers_of (fed_meaning r)
fed-numbers (Ok f) = refl
fed-numbers (Err e) = refl

closed-numbers : (r : Result (Unit {0}) WbmpError) → three_of (taken_by r) ≡ numbers_of (closed_meaning r)
closed-numbers (Ok u) = refl
closed-numbers (Err e) = refl

-- ---- closing

close-output : (m : Model) → (outcome m close).reply.output ≡ []
close-output m = by-close m (λ (x : Outcome). x.reply.output ≡ []) refl refl (λ _. refl)

closed-tracks : (s : EncodeSession) (m : Model) (work : List ℤ) (q : MachineState) (a : Result (Unit {0}) WbmpError) (s' : EncodeSession)
    → Closes s a s' → Stands s m → Tracks s m work q → Tracks s' (outcome m close).next work q
closed-tracks s m work q a s' C st T =
    by-close m (λ (x : Outcome). closed_meaning a ≡ x.reply.answer → Tracks s' x.next work q)
    (λ e. refused e)
    (λ e. refused e)
    (λ w e. record { numbers = T.numbers; state = λ l. zero_one (cc) })
    (C.counts m st).0
  where
    refused : {code place : ℕ} → closed_meaning a ≡ refuses code place → Tracks s' m work q
    refused e = subst (λ (z : EncodeSession). Tracks z m work q) (sym (C.refused _ _ e)) T

-- ---- one call

-- what the model says of it
record Says (m : Model) (call : Call) (r : Result Fed WbmpError) (s next : EncodeSession) (part : List ℕ) (work work' : List ℤ) : Type 0 where
  answer : three_of r ≡ told (outcome m call).reply
  stands : Stands next (outcome m call).next
  tracks : (q : MachineState) → Tracks s m work q → Tracks next (outcome m call).next work' (kept_by m call q)
  leaves : Leaves m (outcome m call).next work work'
  does : Holds s work m → (part ≡ output (outcome m call).reply) × Holds next work' (outcome m call).next

says : (samples : List ℕ) (c : Named) (s : EncodeSession) (out : List ℕ) (work : List ℤ) (r : Result Fed WbmpError) (next : EncodeSession)
    (part : List ℕ) (work' : List ℤ) → Calls Feeds Closing samples c s out work r next part work' → (m : Model) → Stands s m
    → Says m (call_of c samples out) r s next part work work'
says samples Close s out work r next part work' C m st =
    let d = C.does.does in
    let n = (outcome m close).next in
    record {
      answer = ap three_of C.does.is ∙ closed-numbers C.does.answer ∙ ap numbers_of (d.counts m st).0;
      stands = (d.counts m st).1;
      tracks = λ q T. subst (λ (w : List ℤ). Tracks next n w q) (sym C.work_is) (closed-tracks s m work q C.does.answer next d st T);
      leaves = same-leaves m n work work' C.work_is;
      does = λ h. (C.part_is ∙ sym (close-output m), subst (λ (w : List ℤ). Holds next w n) (sym C.work_is) (d.does m work h));
    }
says samples (Feed p) s out work r next part work' F m st =
    record {
      answer = fed-numbers r ∙ ap numbers_of (answer-is p s samples out work r next part work' F m st);
      stands = fed-stands p s samples out work r next part work' F m st;
      tracks = fed-tracks p s samples out work r next part work' F m st;
      leaves = fed-leaves p s samples out work r next part work' F m st;
      does = fed-calls p s samples out work r next part work' F m st;
    }

-- ---- calls one after the other

record Replied (m : Model) (cs : List Call) (many : ℕ) (tells written : List ℕ) (s : EncodeSession) (work : List ℤ) (s' : EncodeSession)
    (work' : List ℤ) : Type 0 where
  many_is : many ≡ length (replies m cs)
  told_is : tells ≡ concat_map told (replies m cs)
  stands : Stands s' (finally m cs)
  longer : length m.samples ≤ length (finally m cs).samples
  tracks : (q : MachineState) → Tracks s m work q → Tracks s' (finally m cs) work' (kept_from m cs q)
  leaves : Leaves m (finally m cs) work work'
  does : Holds s work m → (written ≡ concat_map output (replies m cs)) × Holds s' work' (finally m cs)

replied : (samples : List ℕ) {cs : List Named} {s s' : EncodeSession} {out : List ℕ} {work : List ℤ} {tells written : List ℕ} {work' : List ℤ}
    → Runs Feeds Closing samples cs s out work s' tells written work' → (m : Model) → Stands s m
    → Replied m (calls_of cs samples out) (length cs) tells written s work s' work'
unfolding replies finally calls_of concat_map kept_from
replied samples {work = work} ended m st =
    record {
      many_is = refl;
      told_is = refl;
      stands = st;
      longer = omega arith;
      tracks = λ q T. T;
      leaves = same-leaves m m work work refl;
      does = λ h. (refl, h);
    }
replied samples (goes {c} {cs} {s} {s'} {out} {work} {work'} r next part tells written left C rest) m st =
    let d = says samples c s out work r next part left C m st in
    let call = call_of c samples out in
    let n = (outcome m call).next in
    let q = replied samples rest n d.stands in
    let l = next-longer m call in
    let k = q.longer in
    record {
      many_is = ap (λ (n : ℕ). suc n) q.many_is;
      told_is = ap₂ ◌++◌ d.answer q.told_is;
      stands = q.stands;
      longer = omega arith;
      tracks = λ x T. q.tracks (kept_by m call x) (d.tracks x T);
      leaves = leaves-on m n (finally n (calls_of cs samples (drop (room_of c) out))) work left work' (next-same m call) l k d.leaves q.leaves;
      does = λ h. let a = d.does h in let b = q.does a.1 in (ap₂ ◌++◌ a.0 b.0, b.1);
    }

pub runs-calls : (samples : List ℕ) (cs : List Named) (s : EncodeSession) (out : List ℕ) (work : List ℤ) (answers : List ℕ)
    (n : ℕ) (s' : EncodeSession) (out' : List ℕ) (work' : List ℤ) (answers' : List ℕ)
    → Ran Feeds Closing samples cs s out work answers n s' out' work' answers'
    → RunsCalls s cs samples work out answers n s' work' out' answers'
runs-calls samples cs s out work answers n s' out' work' answers' R =
    record {
      counts = λ m st.
          let q = replied samples R.runs m st in
          record {
            calls = R.made ∙ q.many_is;
            answered = R.answers_is ∙ ap (λ (l : List ℕ). over l answers) q.told_is;
            stands = q.stands;
          };
      keeps = λ m st. ((replied samples R.runs m st).tracks (state_of s.quantizer.place work) (record { numbers = refl; state = λ _. refl })).numbers;
      leaves = λ m st. (replied samples R.runs m st).leaves;
      does = λ m h.
          let d = (replied samples R.runs m h.stands).does h in
          record { outputs = R.out_is ∙ ap (λ (l : List ℕ). over l out) d.0; holds = d.1 };
      spares = spares Feeds Closing samples cs s out work answers n s' out' work' answers' R;
    }
