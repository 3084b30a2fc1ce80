-- A feeding call of a run on a making session: what its model says of it.
use Rattle.std.proofs.Common.{Result, Ok, Err}
use Prim.Native.Nat.{ℕ}
use mathlib.Core.Path.{◌≡◌, refl, sym, ap, subst, ◌∙◌}
use mathlib.Core.Bool.{true}
use mathlib.Core.List.{List, ◌++◌}
use native.Mathlib.Omega.{arith}
use lib.IntN.{ℤ}
use lib.ListN.{length, take, drop, take-append-drop}
use lib.Seq.{take_all, take-take, take_at}
use Rattle.error.specs.declared.Fed.{Fed}
use Rattle.error.specs.declared.WbmpError.{WbmpError}
use Rattle.error.specs.Answer.{gives, refuses}
use Rattle.error.specs.Answer as Answers
use Rattle.rules.specs.Rule.{carries}
use Rattle.quantize.specs.Internal.Machine.{MachineState, carried}
use Rattle.quantize.specs.Internal.Turn.{state_of}
use Rattle.quantize.proofs.DotsByRule.{carries_same}
use Rattle.encode_session.specs.Model.{Opening, setting_of, serves, Model, feed, Told, Outcome, outcome}
use Rattle.encode_session.specs.Session.{fed_meaning, Stands, Holds, Feeds}
use Rattle.encode_session.specs.Trace.{took_of}
use Rattle.encode_session.specs.declared.EncodeSession.{EncodeSession}
use Rattle.encode_session.proofs.OutcomeCases.{feed-refused}
use Rattle.replay.specs.declared.call.Lending.{Lending}
use Rattle.replay.specs.Run.{FeedsPart}
use Rattle.replay.specs.Encode.{kept_by, Leaves, Closing}
use Rattle.replay.proofs.CarriedFront.{behind, carried-front}
use Rattle.replay.proofs.WorkLeft.{drop-front, none-taken, took, next-same, same-leaves}
use Rattle.replay.proofs.WorkLent.{lent_same, served-room, feed-served}

-- what the running machine keeps is in the work buffer and, while the session is open, in its engine
pub record Tracks (s : EncodeSession) (m : Model) (work : List ℤ) (st : MachineState) : Type 0 where
  pub numbers : work ≡ st.carry.kept
  pub state : m.live ≡ true → st ≡ state_of s.quantizer.place work

-- where nothing is altered
tracks_same : (s s' : EncodeSession) (m m' : Model) (work work' : List ℤ) (q q' : MachineState) → s' ≡ s → m' ≡ m → work' ≡ work → q' ≡ q
    → Tracks s m work q → Tracks s' m' work' q'
tracks_same s s' m m' work work' q q' a b c d T =
    subst (λ (z : EncodeSession). Tracks z m' work' q') (sym a)
    (subst (λ (z : Model). Tracks s z work' q') (sym b)
    (subst (λ (z : List ℤ). Tracks s m z q') (sym c) (subst (λ (z : MachineState). Tracks s m work z) (sym d) T)))

-- what the model says of a feeding call
module _ (p : Lending) (s : EncodeSession) (samples out : List ℕ) (work : List ℤ) (r : Result Fed WbmpError) (s' : EncodeSession)
    (part : List ℕ) (work' : List ℤ) (F : FeedsPart Feeds Closing samples p s out work r s' part work') (m : Model) (st : Stands s m) where
  abbrev pub xs : List ℕ
  xs = take p.size (drop p.start samples)

  abbrev pub o : List ℕ
  o = take p.room out

  abbrev pub x : Outcome
  x = outcome m (feed xs o p.lent)

  pub answer-is : fed_meaning r ≡ x.reply.answer
  answer-is = subst (λ (n : ℕ). fed_meaning r ≡ (outcome m (feed xs o n)).reply.answer) F.lent_long (F.does.counts m st).0

  pub fed-stands : Stands s' x.next
  fed-stands = subst (λ (n : ℕ). Stands s' (outcome m (feed xs o n)).next) F.lent_long (F.does.counts m st).1

  work-same : F.front ≡ take p.lent work → work' ≡ work
  work-same u = F.work_is ∙ ap (λ (l : List ℤ). l ++ drop p.lent work) u ∙ take-append-drop p.lent work

  took-leaves : (f : Fed) → r ≡ Ok f → Leaves m x.next work work'
  took-leaves f q =
      let t = took m xs o p.lent f.taken f.written (sym answer-is ∙ ap fed_meaning q) in
      let Q = st.place t.0 in
      let R = F.does.runs f.taken f.written q in
      let w = s.quantizer.width in
      record {
        quiet = λ e.
            let z : f.taken ≡ 0 = omega (arith, t.1, e) in
            work-same (none-taken _ _ _ _ _ _ _ _ _ _ (R.machine _ _ Q) z);
        spared = λ e.
            work-same (R.spared (sym (carries_same s.quantizer.rule s.quantizer.table) ∙ ap carries (sym Q.rule) ∙ e));
        beyond =
            subst (λ (k : ℕ). drop k work' ≡ drop k work) (sym Q.width)
            (ap (drop w) F.work_is
            ∙ drop-front w F.front (take p.lent work) (drop p.lent work) (F.front_long ∙ sym F.lent_long) R.beyond
            ∙ ap (drop w) (take-append-drop p.lent work));
      }

  leaves_by : (y : Result Fed WbmpError) → r ≡ y → Leaves m x.next work work'
  leaves_by (Ok f) q = took-leaves f q
  leaves_by (Err e) q = same-leaves m x.next work work' (work-same (F.does.refused _ _ (ap fed_meaning q)).1.1)

  pub fed-leaves : Leaves m x.next work work'
  fed-leaves = leaves_by r refl

  -- the numbers of the work buffer that were not lent stand behind those that the engine keeps
  took-tracks : (f : Fed) → r ≡ Ok f → (q : MachineState) → Tracks s m work q
      → Tracks s' x.next work' (kept_by m (feed xs o p.lent) q)
  took-tracks f e q T =
      let a = sym answer-is ∙ ap fed_meaning e in
      let t = took m xs o p.lent f.taken f.written a in
      let Q = st.place t.0 in
      let i = Q.at.in_row in
      let rest = drop p.lent work in
      let S = setting_of m.opening in
      let k = length m.samples in
      let front : q ≡ behind rest (state_of s.quantizer.place (take p.lent work)) =
      T.state t.0 ∙ ap (state_of s.quantizer.place) (sym (take-append-drop p.lent work)) in
      let kept : kept_by m (feed xs o p.lent) q ≡ state_of s'.quantizer.place work' =
      ap (λ (y : Answers.Answer Told). carried S k q xs (took_of y)) a
      ∙ ap (λ (z : MachineState). carried S k z xs f.taken) front
      ∙ carried-front S k (state_of s.quantizer.place (take p.lent work)) xs rest (omega arith)
      (λ c. let h = served-room m p.lent (feed-served m xs o p.lent _ a) c in let l = F.lent_long in omega arith) f.taken
      ∙ ap (behind rest) ((F.does.runs f.taken f.written e).machine S k Q).keeps
      ∙ ap (state_of s'.quantizer.place) (sym F.work_is) in
      record { numbers = ap (λ (z : MachineState). z.carry.kept) (sym kept); state = λ _. kept }

  refused-tracks : (code place : ℕ) → fed_meaning r ≡ refuses code place → (q : MachineState) → Tracks s m work q
      → Tracks s' x.next work' (kept_by m (feed xs o p.lent) q)
  unfolding carried
  refused-tracks code place e q T =
      let a = sym answer-is ∙ e in
      let u = F.does.refused code place e in
      let i = feed-refused m xs o p.lent code place a in
      tracks_same s s' m x.next work work' q (kept_by m (feed xs o p.lent) q) u.0 i.1 (work-same u.1.1)
      (ap (λ (y : Answers.Answer Told). carried (setting_of m.opening) (length m.samples) q xs (took_of y)) a) T

  tracks-by : (y : Result Fed WbmpError) → r ≡ y → (q : MachineState) → Tracks s m work q
      → Tracks s' x.next work' (kept_by m (feed xs o p.lent) q)
  tracks-by (Ok f) e = took-tracks f e
  tracks-by (Err f) e = refused-tracks _ _ (ap fed_meaning e)

  pub fed-tracks : (q : MachineState) → Tracks s m work q → Tracks s' x.next work' (kept_by m (feed xs o p.lent) q)
  fed-tracks = tracks-by r refl

  by-refusal : (code place : ℕ) → x.reply.answer ≡ refuses code place → Holds s work m → (part ≡ x.reply.output) × Holds s' work' x.next
  by-refusal code place q h =
      let i = feed-refused m xs o p.lent code place q in
      let u = F.does.refused code place (answer-is ∙ q) in
      let w : work' ≡ work = work-same u.1.1 in (
        u.1.0 ∙ sym i.0,
        subst (λ (z : EncodeSession). Holds z work' x.next) (sym u.0)
            (subst (λ (l : List ℤ). Holds s l x.next) (sym w) (subst (λ (n : Model). Holds s work n) (sym i.1) h)),
      )

  by-giving : (t : Told) → x.reply.answer ≡ gives t → Holds s work m → (part ≡ x.reply.output) × Holds s' work' x.next
  by-giving t q h =
      let v = feed-served m xs o p.lent t q in
      let k : Holds s (take p.lent work) m =
      lent_same s m p.lent work (take p.lent work) v (sym (take-take p.lent p.lent work (omega arith))) h in
      let d = subst (λ (n : ℕ). (part ≡ (outcome m (feed xs o n)).reply.output) × Holds s' F.front
      (outcome m (feed xs o n)).next) F.lent_long
      (F.does.does m k) in
      let f : take p.lent F.front ≡ F.front = take_all p.lent F.front (let l = F.front_long in omega arith) in
      let g : take p.lent work' ≡ F.front =
      ap (take p.lent) F.work_is ∙ take_at F.front (drop p.lent work) p.lent F.front_long in
      let z : serves x.next.opening p.lent ≡ true =
      subst (λ (o : Opening). serves o p.lent ≡ true) (sym (next-same m (feed xs o p.lent))) v in
      (d.0, lent_same s' x.next p.lent F.front work' z (f ∙ sym g) d.1)

  by_answer : (y : Answers.Answer Told) → x.reply.answer ≡ y → Holds s work m → (part ≡ x.reply.output) × Holds s' work' x.next
  by_answer (gives t) q = by-giving t q
  by_answer (refuses code place) q = by-refusal code place q

  pub fed-calls : Holds s work m → (part ≡ x.reply.output) × Holds s' work' x.next
  fed-calls = by_answer x.reply.answer refl
