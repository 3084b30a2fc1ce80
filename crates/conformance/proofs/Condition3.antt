-- Condition 3 of the tender.
use Prim.Native.Nat.{ℕ, ◌*◌, ◌≤◌}
use mathlib.Core.Path.{◌≡◌, sym, ap, ◌∙◌, subst}
use mathlib.Core.Bool.{true, ◌||◌}
use mathlib.Core.List.{List, ◌++◌}
use native.Mathlib.Omega.{arith}
use lib.Dec.{eqb}
use lib.ListN.{length, take, drop}
use lib.Seq.{take_all, take-append_seam}
use Rattle.error.specs.Answer.{Answer, gives, map}
use Rattle.error.specs.Emits.{Emits}
use Rattle.laws.proofs.Answers.{bind-gives, unless}
use Rattle.laws.proofs.Emitted.{emitted-is}
use Rattle.header.specs.Write.{presented}
use Rattle.quantize.specs.Finished.{setting, finished}
use Rattle.quantize.proofs.FramesJoined.{finished-frames}
use Rattle.encoder.specs.Make.{file_of_scans}
use Rattle.encoder.proofs.ScanTests.{passes}
use Rattle.encode_session.specs.Model as Making
use Rattle.encode_session.specs.Trace as MakingTrace
use Rattle.encode_session.proofs.OpenCorrect.{work-numbers-enough, Passed, passed}
use Rattle.encode_session.proofs.Theorems.{lists, bytes-joined, closed-whole}
use Rattle.decode_session.specs.Model.{nothing}
use Rattle.decode_session.proofs.Cuts.{unmet, whole}
use Rattle.conformance.specs.Lists.{MakingList, Card, samples_of, was_closed, Condition3}
use Rattle.conformance.proofs.Made.{made-is}
use Rattle.conformance.proofs.SamplesTaken.{samples-taken, closed-machine}
use Rattle.conformance.proofs.CutShown.{admitted, some_read, replied, shows}
use Rattle.conformance.proofs.CutRead.{begins}

-- ---- making

module _ {a : Making.Opening} {header : List ℕ} {cs : List Making.Call} {rs : List Making.Reply} (l : MakingList a header cs rs) where
  header-written : (Making.header a (length l.work) ≡ gives header) × (l.new ≡ header ++ drop (length header) l.old)
  header-written =
      let e = emitted-is (Making.header a (length l.work)) (length header) l.old l.new
      (subst (λ (r : Answer ℕ). Emits (Making.header a (length l.work)) r l.old l.new) l.accepted l.opens.emits) in
      let same : e.0 ≡ header =
      sym (take-append_seam e.0 (drop (length e.0) l.old))
      ∙ ap (λ (n : ℕ). take n (e.0 ++ drop (length e.0) l.old)) (sym e.2)
      ∙ ap (take (length header)) (sym e.3) ∙ l.front in
      (e.1 ∙ ap gives same, e.3 ∙ ap (λ (b : List ℕ). b ++ drop (length b) l.old) same)

  tests : Passed a (length l.work) header
  tests = passed a (length l.work) header header-written.0

  replied-as : rs ≡ Making.replies (Making.opened a) cs
  replied-as = (lists l.opens (length header) l.accepted l.trace).0

  abbrev scans : List ℕ
  scans = samples_of cs rs

  scans-are : scans ≡ (Making.finally (Making.opened a) cs).samples
  scans-are = ap (samples_of cs) replied-as ∙ samples-taken (Making.opened a) cs

  bytes-are : MakingTrace.joined rs ≡ finished (Making.setting_of a) scans
  bytes-are =
      bytes-joined l.opens (length header) l.accepted l.trace ∙ ap (finished (Making.setting_of a)) (sym scans-are)

  bytes-finish : map (λ front. front ++ finished (Making.setting_of a) scans) (Making.header a (length l.work))
      ≡ gives (header ++ MakingTrace.joined rs)
  bytes-finish =
      ap (map (λ (front : List ℕ). front ++ finished (Making.setting_of a) scans)) header-written.0
      ∙ ap (λ (b : List ℕ). gives (header ++ b)) (sym bytes-are)

  -- the bytes of k scans are those of whole making
  file-is : (k work : ℕ) → 1 ≤ k → k ≤ 16 → length scans ≡ k * (a.width * a.height) → Making.serves a work ≡ true
      → file_of_scans 16 a.options a.width a.height k scans a.text a.lengths work ≡ gives (header ++ MakingTrace.joined rs)
  file-is k work some most all served =
      let p = tests in
      let rule = (Making.setting_of a).rule in
      made-is 16 a.options a.width a.height k scans a.text a.lengths work header
      (passes 16 a.options a.width a.height k (length scans) work
      (record {
        sized = record { wide = p.wide; high = p.high; some = some; few = most };
        known = p.known;
        room = served;
        enough =
            omega arith;
      }))
      p.headed
      ∙ ap (λ (b : List ℕ). gives (header ++ b))
      (ap (finished (setting rule a.width a.height k)) (take_all (k * (a.width * a.height)) scans (omega arith))
      ∙ finished-frames rule a.width a.height k 16 scans
      ∙ sym bytes-are)

  card-closed : was_closed rs ≡ true → (k : ℕ) × Card a scans (header ++ MakingTrace.joined rs) k
  card-closed e =
      let f =
      closed-whole l.opens (length header) l.accepted l.trace
      (closed-machine (Making.opened a) cs (ap was_closed (sym replied-as) ∙ e)) in
      let all = ap length scans-are ∙ f.all in
      let t = unless (eqb a.width 0 || eqb a.height 0) 8 0 _ header tests.headed in
      let g = bind-gives (presented a.options.ext a.text a.lengths) _ header t.1 in
      let w = 2 * a.width in (
        f.count,
        record {
          some = f.some;
          most = f.most;
          samples = all;
          file = λ work. file-is f.count work f.some f.most all;
          fields = g.0;
          presents = g.1;
          shown = λ {d = d} t adm r cut.
              shows d a g.0 f.count _ _ w l.wide l.high (some_read r) g.1 t adm
              (file-is f.count w f.some f.most all (work-numbers-enough (Making.setting_of a).rule a.width)) r cut;
        },
      )

pub condition-3 : Condition3
condition-3 =
    record {
      maker_opens = header-written;
      reader_opens = admitted;
      making = replied-as;
      reading = replied;
      finishes = bytes-finish;
      card = card-closed;
      whole = λ {file = file} {d = d} l cut. (whole d file nothing unmet (omega arith) cut (replied l), begins l cut);
    }
