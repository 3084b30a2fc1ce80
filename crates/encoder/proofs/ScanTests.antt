-- The tests of whole making, case by case.
use Prim.Native.Nat.{ℕ, ◌*◌, ◌/◌, ◌≤◌, ◌<◌}
use mathlib.Core.Path.{◌≡◌, refl, sym, ap, ◌∙◌}
use mathlib.Core.Bool.{Bool, true, false}
use native.Mathlib.Nat.{mul-pos, div-lt_iff_lt-mul}
use native.Mathlib.Omega.{arith}
use borrow.Author.Tests.{lt-ltb, le-ltb, ltb-false}
use lib.Dec.{ltb}
use Rattle.error.specs.Choice.{if}
use Rattle.error.specs.Answer.{Answer, gives, refuses, bind}
use Rattle.laws.proofs.Tests.{zero_one}
use Rattle.options.specs.declared.EncodeOptions.{EncodeOptions}
use Rattle.options.specs.declared.Quantize.{Quantize}
use Rattle.rules.specs.Rule.{Rule, enough_work, known_rule, rule_asked, rule_named, rule_given}
use Rattle.rules.proofs.RuleAsked.{asked-if}
use Rattle.quantize.proofs.RuleChecked.{rule_checked, checked-first}
use Rattle.encoder.specs.File.{check_count}
use Rattle.encoder.specs.Make.{check_scans}
use Rattle.encoder.proofs.CountTests.{Counted, counted, accepted}

-- what the tests say of scans that they accept
pub record Passed (ceiling : ℕ) (rule : Quantize) (w h n gray work : ℕ) : Type 0 where
  pub sized : Counted ceiling w h n
  pub known : known_rule rule ≡ true
  pub room : enough_work (rule_given (rule_named rule)) w work ≡ true
  pub enough : n * (w * h) ≤ gray

-- the tests behind those of the size and the count
abbrev tests : Bool → Bool → Bool → Answer (Unit {0})
tests known room short = if known (if room (if short (refuses 22 0) (gives tt)) (refuses 28 0)) (refuses 29 0)

module _ (ceiling : ℕ) (o : EncodeOptions) (w h n gray work : ℕ) where
  abbrev rule : Quantize
  rule = o.quantize

  abbrev scans : Answer (Unit {0})
  scans = check_scans ceiling o w h n gray work

  abbrev rest : Answer (Unit {0})
  rest = tests (known_rule rule) (enough_work (rule_given (rule_named rule)) w work) (ltb gray (n * (w * h)))

  -- the last test, and those behind the count's
  abbrev short : Answer (Unit {0})
  short = if (ltb gray (n * (w * h))) (refuses 22 0) (gives tt)

  abbrev behind : Rule → Answer (Unit {0})
  behind asked = if (enough_work asked w work) short (refuses 28 0)

  by_count : (a : Answer (Unit {0})) → check_count ceiling w h n ≡ a → scans ≡ bind a (λ _. rest)
  unfolding check_scans
  by_count a e =
      ap (λ (a : Answer (Unit {0})). bind a (λ _. bind (rule_asked o) behind)) e
      ∙ ap (λ (r : Answer (Unit {0})). bind a (λ _. r)) (asked-if o behind)

  pub not-counted : (code place : ℕ) → check_count ceiling w h n ≡ refuses code place → scans ≡ refuses code place
  not-counted code place e = by_count (refuses code place) e

  module _ (c : check_count ceiling w h n ≡ gives tt) where
    by-rule : (r : Answer (Unit {0})) → r ≡ rule_checked rule w work → scans ≡ bind r (λ _. short)
    unfolding check_scans
    by-rule r e =
        ap (λ (a : Answer (Unit {0})). bind a (λ _. bind (rule_asked o) behind)) c
        ∙ checked-first rule w work short
        ∙ ap (λ (a : Answer (Unit {0})). bind a (λ _. short)) (sym e)

    pub not-served : (code place : ℕ) → refuses code place ≡ rule_checked rule w work → scans ≡ refuses code place
    not-served code place e = by-rule (refuses code place) e

    module _ (served : gives tt ≡ rule_checked rule w work) where
      area : 0 < w * h
      area = let s = counted ceiling w h n c in mul-pos s.wide s.high

      pub too_short : gray / (w * h) < n → scans ≡ refuses 22 0
      too_short l =
          let s : gray < n * (w * h) = (div-lt_iff_lt-mul {k = w * h} {x = gray} {y = n} area).0 l in
          by-rule (gives tt) served ∙ rw (lt-ltb gray (n * (w * h)) s)

      pub long-enough : n ≤ gray / (w * h) → scans ≡ gives tt
      long-enough l =
          let s : n * (w * h) ≤ gray = le-or-lt
          (λ s. let b = (div-lt_iff_lt-mul {k = w * h} {x = gray} {y = n} area).1 s in omega arith) in
          by-rule (gives tt) served ∙ rw (le-ltb gray (n * (w * h)) s)
        where
          le-or-lt : (gray < n * (w * h) → ⊥) → n * (w * h) ≤ gray
          le-or-lt f = omega arith

  pub passes : Passed ceiling rule w h n gray work → scans ≡ gives tt
  passes p =
      let s = p.sized in
      by_count (gives tt) (accepted ceiling w h n s.wide s.high s.some s.few)
      ∙ rw (p.room, p.known, le-ltb gray (n * (w * h)) p.enough)

  pub passed : scans ≡ gives tt → Passed ceiling rule w h n gray work
  passed e =
      go (check_count ceiling w h n) (known_rule rule) (enough_work (rule_given (rule_named rule)) w work) (ltb gray (n * (w * h))) refl refl
      refl refl (sym (by_count (check_count ceiling w h n) refl) ∙ e)
    where
      go : (a : Answer (Unit {0})) (b c d : Bool) → check_count ceiling w h n ≡ a → known_rule rule ≡ b
          → enough_work (rule_given (rule_named rule)) w work ≡ c → ltb gray (n * (w * h)) ≡ d → bind a (λ _. tests b c d) ≡ gives tt
          → Passed ceiling rule w h n gray work
      go (refuses code place) b c d p q r s e = zero_one (cc)
      go (gives u) false c d p q r s e = zero_one (cc)
      go (gives u) true false d p q r s e = zero_one (cc)
      go (gives u) true true true p q r s e = zero_one (cc)
      go (gives u) true true false p q r s e =
          record { sized = counted ceiling w h n p; known = q; room = r; enough = ltb-false gray (n * (w * h)) s }
