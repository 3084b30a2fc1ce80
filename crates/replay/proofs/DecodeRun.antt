-- A run on a reading session, as the model's.
use Rattle.std.proofs.Common.{Result, Ok, Err}
use Prim.Native.Nat.{ℕ, suc}
use mathlib.Core.Path.{◌≡◌, refl, sym, ap, ap₂, subst, ◌∙◌}
use mathlib.Core.List.{List, ◌++◌}
use lib.ListN.{length, drop}
use Rattle.error.specs.declared.Fed.{Fed}
use Rattle.error.specs.declared.WbmpError.{WbmpError}
use Rattle.decode_session.specs.Model.{Model, Call, Reply, outcome, replies, finally}
use Rattle.decode_session.specs.Session.{fed_meaning, closed_meaning, Stands, Feeds}
use Rattle.decode_session.specs.declared.DecodeSession.{DecodeSession}
use Rattle.replay.specs.declared.call.Named.{Named}
use Rattle.replay.specs.declared.call.Named.TheVariants.{Close, Feed}
use Rattle.replay.specs.Calls.{room_of, concat_map, over, three_of}
use Rattle.replay.specs.Run.{Calls, Runs, ended, goes, Ran}
use Rattle.replay.specs.Decode.{numbers_of, told, output, left, call_of, calls_of, RunsCalls, Closing, taken_by}
use Rattle.replay.proofs.RunSpared.{spares}

-- EncodeRun has the same of its machine: replies and their numbers are other types there
fed-numbers : (r : Result Fed WbmpError) → three_of r ≡ numbers_of (fed_meaning r)
fed-numbers (Ok f) = refl
fed-numbers (Err e) = refl

closed-numbers : (r : Result ℕ WbmpError) → three_of (taken_by r) ≡ numbers_of (closed_meaning r)
closed-numbers (Ok n) = refl
closed-numbers (Err e) = refl

-- what the model says of a call
record Says (m : Model) (call : Call) (r : Result Fed WbmpError) (next : DecodeSession) (part ext ext' : List ℕ) : Type 0 where
  answer : three_of r ≡ told (outcome m call).reply
  output_is : part ≡ output (outcome m call).reply
  ext_is : ext' ≡ over (outcome m call).reply.extension ext
  stands : Stands next (outcome m call).next

says : (file : List ℕ) (c : Named) (s : DecodeSession) (out ext : List ℕ) (r : Result Fed WbmpError) (next : DecodeSession)
    (part ext' : List ℕ) → Calls Feeds Closing file c s out ext r next part ext' → (m : Model) → Stands s m
    → Says m (call_of c file out ext) r next part ext ext'
says file Close s out ext r next part ext' C m h =
    let d = C.does.does.does m h in
    record {
      answer = ap three_of C.does.is ∙ closed-numbers C.does.answer ∙ ap told (sym d.0);
      output_is = C.part_is ∙ ap output (sym d.0);
      ext_is = C.work_is ∙ ap (λ (q : Reply). over q.extension ext) (sym d.0);
      stands = d.1;
    }
says file (Feed p) s out ext r next part ext' F m h =
    let d = F.does.does m h in
    record {
      answer = fed-numbers r ∙ ap told (sym d.0);
      output_is = ap output (sym d.0);
      ext_is =
          F.work_is
          ∙ ap (λ (n : ℕ). F.front ++ drop n ext) (sym F.front_long)
          ∙ ap (λ (q : Reply). over q.extension ext) (sym d.0);
      stands = d.1;
    }

-- what it says of calls one after the other
record Replied (m : Model) (cs : List Call) (many : ℕ) (tells written ext ext' : List ℕ) (s : DecodeSession) : Type 0 where
  many_is : many ≡ length (replies m cs)
  told_is : tells ≡ concat_map told (replies m cs)
  written_is : written ≡ concat_map output (replies m cs)
  ext_is : ext' ≡ left (replies m cs) ext
  stands : Stands s (finally m cs)

replied : (file : List ℕ) {cs : List Named} {s s' : DecodeSession} {out ext tells written ext' : List ℕ}
    → Runs Feeds Closing file cs s out ext s' tells written ext' → (m : Model) → Stands s m
    → Replied m (calls_of m cs file out ext) (length cs) tells written ext ext' s'
unfolding replies finally calls_of concat_map left
replied file ended m h = record { many_is = refl; told_is = refl; written_is = refl; ext_is = refl; stands = h }
replied file (goes {c} {cs} {s} {s'} {out} {work = ext} {work' = ext'} r next part tells written ext₁ C rest) m h =
    let d = says file c s out ext r next part ext₁ C m h in
    let o = outcome m (call_of c file out ext) in
    let q = subst (λ (e : List ℕ). Replied o.next (calls_of o.next cs file (drop (room_of c) out) e) (length cs) tells written e ext' s')
    d.ext_is (replied file rest o.next d.stands) in
    record {
      many_is = ap (λ (n : ℕ). suc n) q.many_is;
      told_is = ap₂ ◌++◌ d.answer q.told_is;
      written_is = ap₂ ◌++◌ d.output_is q.written_is;
      ext_is = q.ext_is;
      stands = q.stands;
    }

pub runs-calls : (file : List ℕ) (cs : List Named) (s : DecodeSession) (out ext answers : List ℕ) (n : ℕ) (s' : DecodeSession)
    (out' ext' answers' : List ℕ) → Ran Feeds Closing file cs s out ext answers n s' out' ext' answers'
    → RunsCalls s cs file out ext answers n s' out' ext' answers'
runs-calls file cs s out ext answers n s' out' ext' answers' R =
    record {
      does = λ m h.
          let q = replied file R.runs m h in
          record {
            calls = R.made ∙ q.many_is;
            outputs = R.out_is ∙ ap (λ (l : List ℕ). over l out) q.written_is;
            extension = q.ext_is;
            answered = R.answers_is ∙ ap (λ (l : List ℕ). over l answers) q.told_is;
            stands = q.stands;
          };
      spares = spares Feeds Closing file cs s out ext answers n s' out' ext' answers' R;
    }
