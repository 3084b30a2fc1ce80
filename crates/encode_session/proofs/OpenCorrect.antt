-- Opening: the refusals in their order, and what an accepted opening hands back.
-- Assumes nothing.
use Rattle.std.proofs.Common.{Result, Ok, Err, is_ok}
use Rattle.error.specs.declared.WbmpError.{WbmpError}
use Prim.Native.Nat.{ℕ, ◌+◌, ◌*◌, ◌/◌, ◌<◌}
use mathlib.Core.Path.{◌≡◌, refl, sym, ap, ◌∙◌, subst}
use mathlib.Core.Bool.{Bool, true, false, ◌||◌}
use mathlib.Core.List.{List}
use native.Mathlib.Nat.{zero-div}
use native.Mathlib.Omega.{arith}
use borrow.Author.Tests.{le-leb, ne_eqb, eqb-false}
use lib.Dec.{eqb}
use lib.IntN.{ℤ}
use Rattle.error.specs.Choice.{if}
use Rattle.error.specs.Answer.{Answer, gives, refuses, refusal, bind, written}
use Rattle.error.specs.Emits.{Emits, emitted}
use Rattle.laws.proofs.Tests.{if-false}
use Rattle.header.specs.Write.{ext_header}
use Rattle.quantize.specs.declared.engine.Quantizer.{Quantizer}
use Rattle.quantize.proofs.RuleChecked.{rule_checked, checked-first}
use Rattle.rules.specs.Rule.{Rule, threshold, dither, ordered, enough_work, known_rule}
use Rattle.rules.proofs.RuleAsked.{asked-if, known-named}
use Rattle.quantize.specs.Internal.Engine.{NewQuantizer, QuantizerAfter}
use Rattle.encode_session.specs.declared.EncodeSession.{EncodeSession}
use Rattle.encode_session.specs.Model.{Opening, setting_of, serves, header, opened}
use Rattle.encode_session.specs.Session.{Opens}

-- a work buffer that serves
pub work-numbers-enough : (rule : Rule) (width : ℕ) → enough_work rule width (2 * width) ≡ true
work-numbers-enough (threshold t) width = refl
work-numbers-enough dither width = le-leb (2 * width) (2 * width) (omega arith)
work-numbers-enough (ordered side table) width = refl

-- what is written was given
headed-by : (n : ℕ) (old : List ℕ) (h : Answer (List ℕ)) → gives n ≡ emitted h old → (bytes : List ℕ) × (h ≡ gives bytes)
headed-by n old (gives bytes) e = (bytes, refl)
headed-by n old (refuses code place) e = cc

when_given : (r : Result ℕ WbmpError) (n : ℕ) → written r ≡ gives n → is_ok r ≡ true
when_given (Ok k) n e = refl
when_given (Err x) n e = cc

when_refused : (r : Result ℕ WbmpError) (code place : ℕ) → written r ≡ refuses code place → is_ok r ≡ false
when_refused (Ok k) code place e = cc
when_refused (Err x) code place e = refl

module _ (a : Opening) (work : ℕ) where
  -- the header of the fields, behind the tests
  abbrev fields : Answer (List ℕ)
  fields = ext_header a.options.strict a.width a.height a.options.ext a.text a.lengths

  header_is :
      header a work
      ≡ if (eqb a.width 0 || eqb a.height 0) (refuses 8 0)
      (if (known_rule a.options.quantize) (if (serves a work) fields (refuses 28 0)) (refuses 29 0))
  unfolding header
  header_is =
      ap (λ (r : Answer (List ℕ)). if (eqb a.width 0 || eqb a.height 0) (refuses 8 0) r)
      (asked-if a.options (λ (rule : Rule). if (enough_work rule a.width work) fields (refuses 28 0)))

  pub no-width : a.width ≡ 0 → header a work ≡ refuses 8 0
  unfolding header
  no-width e = rw e

  module _ (pw : a.width ≡ 0 → ⊥) where
    pub no-height : a.height ≡ 0 → header a work ≡ refuses 8 0
    unfolding header
    no-height e = rw (ne_eqb a.width 0 pw, e)

    module _ (ph : a.height ≡ 0 → ⊥) where
      pub tested : (r : Answer (Unit {0})) → r ≡ rule_checked a.options.quantize a.width work → header a work ≡ bind r (λ _. fields)
      unfolding header
      tested r e =
          let sized : (eqb a.width 0 || eqb a.height 0) ≡ false = rw (ne_eqb a.width 0 pw, ne_eqb a.height 0 ph) in
          if-false _ _ _ sized ∙ checked-first a.options.quantize a.width work fields
          ∙ ap (λ (x : Answer (Unit {0})). bind x (λ _. fields)) (sym e)

  -- where a header is given, all tests passed
  pub record Passed (bytes : List ℕ) : Type 0 where
    pub given : header a work ≡ gives bytes
    pub wide : 0 < a.width
    pub high : 0 < a.height
    pub known : known_rule a.options.quantize ≡ true
    pub served : serves a work ≡ true
    pub headed : fields ≡ gives bytes

  pub passed : (bytes : List ℕ) → header a work ≡ gives bytes → Passed bytes
  passed bytes given =
      go (eqb a.width 0) (eqb a.height 0) (known_rule a.options.quantize) (serves a work) refl refl refl refl
      (sym header_is ∙ given)
    where
      go : (p q r s : Bool) → eqb a.width 0 ≡ p → eqb a.height 0 ≡ q → known_rule a.options.quantize ≡ r → serves a work ≡ s
          → if (p || q) (refuses 8 0) (if r (if s fields (refuses 28 0)) (refuses 29 0)) ≡ gives bytes → Passed bytes
      go true q r s e1 e2 e3 e4 z = cc
      go false true r s e1 e2 e3 e4 z = cc
      go false false false s e1 e2 e3 e4 z = cc
      go false false true false e1 e2 e3 e4 z = cc
      go false false true true e1 e2 e3 e4 z =
          record {
            given = given;
            wide = omega (arith, eqb-false a.width 0 e1);
            high = omega (arith, eqb-false a.height 0 e2);
            known = e3;
            served = e4;
            headed = z;
          }

  -- a refusal by the tests writes nothing
  pub untested : (e : WbmpError) → header a work ≡ refusal e → (out : List ℕ) → Emits (header a work) (refusal e) out out
  untested e h out = subst (λ (x : Answer (List ℕ)). Emits x (refusal e) out out) (sym h) (record { answer = refl; bytes = refl })

  pub opens : (q : Quantizer) (live : Bool) (r : Result ℕ WbmpError) (old new : List ℕ)
      → NewQuantizer a.options.quantize a.width a.height 16 q → live ≡ is_ok r
      → Emits (header a work) (written r) old new
      → Opens a work (record { quantizer = q; live = live }) r old new
  opens q live r old new o l h =
      record {
        emits = h;
        holds = λ n e any.
            let k = held (headed-by n old (header a work) (sym e ∙ h.answer)) any in
            record { stands = record { live = l ∙ when_given r n e; left = none_done; place = λ _. k.stands }; keeps = λ _. k };
        refused = λ code place e any.
            record {
              stands = record { live = l ∙ when_refused r code place e; left = none_done; place = λ f. cc };
              keeps = λ f. cc;
            };
      }
    where
      none_done : q.place.frames + 0 / (a.width * a.height) ≡ 16
      none_done = rw (o.frames_are, zero-div)

      held : (bytes : List ℕ) × (header a work ≡ gives bytes) → (any : List ℤ) → QuantizerAfter q any (setting_of a) (opened a).samples
      held b any =
          let p = passed b.0 b.1 in
          o.holds (setting_of a).rule (known-named a.options.quantize p.known) p.wide p.high any

-- an accepted opening had a header to write
pub accepted : {a : Opening} {work : ℕ} {s : EncodeSession} {r : Result ℕ WbmpError} {old new : List ℕ} → Opens a work s r old new
    → (n : ℕ) → written r ≡ gives n
    → (bytes : List ℕ) × Passed a work bytes
accepted {a} {work} {old = old} o n e =
    let b = headed-by n old (header a work) (sym e ∙ o.emits.answer) in
    (b.0, passed a work b.0 b.1)
