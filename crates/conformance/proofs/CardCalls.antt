-- Lists of calls that code makes.
use Rattle.std.proofs.Common.{Option, Result, Ok, Err}
use Rattle.header.specs.declared.ParsedHeader.{ParsedHeader}
use Prim.Native.Nat.{ℕ, ◌%◌, ◌^◌, ◌<◌}
use mathlib.Core.Path.{◌≡◌, refl, sym, ap, ◌∙◌, subst}
use mathlib.Core.List.{List, [], ◌++◌}
use native.Mathlib.Nat.{zero-mod}
use native.Mathlib.Omega.{arith}
use lib.IntN.{ℤ, pos, sub_ℕ}
use lib.ListN.{length, take, drop}
use lib.Seq.{take-append_seam}
use Rattle.error.specs.Answer.{Answer, gives, written}
use Rattle.error.specs.declared.Fed.{Fed}
use Rattle.error.specs.declared.WbmpError.{WbmpError}
use Rattle.error.specs.Emits.{Emits}
use Rattle.laws.proofs.Emitted.{emitted-is}
use Rattle.mbi.specs.Read.{read_rest, read_byte}
use Rattle.header.specs.Read.{read_header}
use Rattle.options.specs.Limits.{Mode, lenient, strict, Decoding}
use Rattle.rules.specs.Rule.{carries}
use Rattle.quantize.specs.Internal.Engine.{QuantizerAt}
use Rattle.quantize.specs.Internal.Machine.{MachineState, carried}
use Rattle.quantize.proofs.DotsByRule.{carries_same}
use Rattle.quantize.proofs.Places.{column-is}
use Rattle.decoder.specs.Image.{header_of}
use Rattle.decode_session.specs.Model as Reading
use Rattle.decode_session.specs.Session as ReadingSession
use Rattle.decode_session.specs.Trace as ReadingTrace
use Rattle.decode_session.specs.declared.DecodeSession.{DecodeSession}
use Rattle.encode_session.specs.Model as Making
use Rattle.encode_session.specs.Session as MakingSession
use Rattle.encode_session.specs.Trace as MakingTrace
use Rattle.encode_session.specs.declared.EncodeSession.{EncodeSession}
use Rattle.conformance.specs.Lists.{MakingList}
use Rattle.conformance.specs.Calls.{KeepsWork, MakesCard, ReadsCard}

-- no header is read of no bytes
none_seen : (mode : Mode) → ReadingSession.seen_of (header_of mode []) Reading.nothing ≡ ReadingSession.unread
unfolding read_header read_rest read_byte
none_seen lenient = refl
none_seen strict = refl

-- the calls of a decode session
pub reads-card : (d : Decoding) (piece out ext out' ext' : List ℕ) (s t u : DecodeSession) (o : Result (Unit {0}) WbmpError)
    (f : Result Fed WbmpError) (c : Result ℕ WbmpError) (seen : Option ParsedHeader)
    → ReadingSession.Opens (Reading.opening d (length ext)) s o (Reading.opened d)
    → ReadingSession.Feeds s piece out ext f t out' ext'
    → ReadingSession.Closes t c u → ReadingSession.Sees u seen
    → ReadsCard d piece out ext (record { opening = o; feeding = f; closing = c; seen = seen }) out' ext'
unfolding Reading.outcome
reads-card d piece out ext out' ext' s t u o f c seen p q r v =
    record {
      last = u;
      opening = p.answer;
      list =
          λ given. record {
            lent = ext;
            opened = s;
            answer = o;
            opens = p;
            accepted = given;
            trace =
                ReadingTrace.fed q (ReadingTrace.shut r ReadingTrace.none);
          };
      sees = v;
      refused = λ code place e.
          let m = Reading.shut (Reading.opened d) in
          let a = q.does m (p.refused code place (sym p.answer ∙ e)) in
          let b = r.does m a.1 in (
            sym (ap (λ (x : Reading.Reply). x.answer) a.0),
            sym (ap (λ (x : Reading.Reply). x.answer) b.0),
            sym (ap (λ (x : Reading.Reply). x.output) a.0),
            sym (ap (λ (x : Reading.Reply). x.extension) a.0),
            v.does m b.1 ∙ none_seen d.mode,
          );
    }

-- calls behind an accepted opening
pub made_list : (a : Making.Opening) (work : List ℤ) (old new : List ℕ) (s last : EncodeSession) (o : Result ℕ WbmpError)
    (cs : List Making.Call) (rs : List Making.Reply)
    → a.width < 2 ^ 32 → a.height < 2 ^ 32 → MakingSession.Opens a (length work) s o old new
    → MakingTrace.Trace s work cs rs last
    → (n : ℕ) → written o ≡ gives n → MakingList a (take n new) cs rs
made_list a work old new s last o cs rs wide high p t n given =
    let e = emitted-is (Making.header a (length work)) n old new
    (subst (λ (r : Answer ℕ). Emits (Making.header a (length work)) r old new) given p.emits) in
    let front : take n new ≡ e.0 =
    ap (take n) e.3 ∙ ap (λ (k : ℕ). take k (e.0 ++ drop (length e.0) old)) e.2
    ∙ take-append_seam e.0 (drop (length e.0) old) in
    let long : length (take n new) ≡ n = ap length front ∙ sym e.2 in
    record {
      work = work;
      old = old;
      new = new;
      opened = s;
      answer = o;
      last = last;
      wide = wide;
      high = high;
      opens = p;
      accepted = given ∙ ap gives (sym long);
      front = ap (λ (k : ℕ). take k new) long;
      trace = t;
    }

-- a work buffer that the first piece of a new session is fed with
module _ (a : Making.Opening) (samples out out' : List ℕ) (work work' : List ℤ) (s t : EncodeSession) (f : Result Fed WbmpError)
    (st : MakingSession.Stands s (Making.opened a)) (q : MakingSession.Feeds s samples out work f t out' work') where
  engine : QuantizerAt s.quantizer (Making.setting_of a) 0
  engine = st.place refl

  -- no byte is begun
  clean : s.quantizer.place.begun ≡ 0
  clean =
      let e : s.quantizer.place.column ≡ 0 = sym (column-is (Making.setting_of a) 0 _ _ _ engine.at) ∙ zero-mod a.width in
      let b : s.quantizer.place.begun < 1 = subst (λ (k : ℕ). s.quantizer.place.begun < 2 ^ (k % 8)) e engine.begun_small in
      omega arith

  ran : (n b : ℕ) → f ≡ Ok (record { taken = n; written = b }) → KeepsWork a samples n work work'
  ran n b e =
      let R = q.runs n b e in
      let S = Making.setting_of a in
      let c = sub_ℕ s.quantizer.place.corner 128 in
      record {
        corner = c;
        kept =
            sym (ap (λ (z : MachineState). z.carry.kept)
            (ap (λ (k : ℕ). carried S 0 (record { begun = k; carry = record { corner = c; kept = work } }) samples n) (sym clean)
            ∙ (R.machine S 0 engine).keeps));
        spared = λ g.
            R.spared (sym (carries_same s.quantizer.rule s.quantizer.table) ∙ ap carries (sym engine.rule) ∙ g);
        beyond = subst (λ (k : ℕ). drop k work' ≡ drop k work) (sym engine.width) R.beyond;
      }

  idle : work' ≡ work → KeepsWork a samples 0 work work'
  unfolding carried
  idle e = record { corner = pos 0; kept = e; spared = λ _. e; beyond = ap (drop a.width) e }

  by_answer : (y : Result Fed WbmpError) → f ≡ y → KeepsWork a samples (MakingTrace.took_of (MakingSession.fed_meaning y)) work work'
  by_answer (Ok y) e = ran y.taken y.written e
  by_answer (Err x) e = idle (q.refused _ _ (ap MakingSession.fed_meaning e)).1.1

  keeps-work : KeepsWork a samples (MakingTrace.took_of (MakingSession.fed_meaning f)) work work'
  keeps-work = by_answer f refl

-- the calls of an encode session
pub makes-card : (a : Making.Opening) (samples : List ℕ) (work : List ℤ) (head out : List ℕ) (work' : List ℤ) (head' out' : List ℕ)
    (s t u : EncodeSession) (o : Result ℕ WbmpError) (f : Result Fed WbmpError) (c : Result (Unit {0}) WbmpError)
    → a.width < 2 ^ 32 → a.height < 2 ^ 32
    → MakingSession.Opens a (length work) s o head head'
    → MakingSession.Feeds s samples out work f t out' work' → MakingSession.Closes t c u
    → MakesCard a samples work head out (record { header = o; feeding = f; closing = c }) work' head' out'
unfolding Making.outcome
makes-card a samples work head out work' head' out' s t u o f c wide high p q r =
    record {
      header = p.emits;
      list = made_list a work head head' s u o _ _ wide high p (MakingTrace.fed q (MakingTrace.shut r MakingTrace.none));
      keeps = λ n e. keeps-work a samples out out' work work' s t f (p.holds n e work).stands q;
      refused = λ code place e.
          let m = Making.shut (Making.opened a) in
          let x = q.counts m (p.refused code place e work).stands in
          let y = q.refused 30 0 x.0 in
          (x.0, (r.counts m x.1).0, y.1.0, y.1.1);
    }
