use Rattle.std.proofs.Common.{◌≡◌, true, ◌∙◌, arith}
use native.Mathlib.Nat.{div-eq_of_lt}
use borrow.Author.Tests.{eq-eqb, lt-ltb, le-leb}
use Rattle.quantize.proofs.engine.Quantizer.can_take.Goals as goal
use Rattle.quantize.proofs.engine.Quantizer.can_take.Goals.{then-self, else-self, then-self-2, else-self-2, then-self-le256, else-self-le256, then-self-eq0, else-self-eq0}

-- where all hold, none of the tests before the work buffer's fails
pub returns-else-known_rule : goal.returns-else-known_rule
returns-else-known_rule c = record {
  yes = λ e. let f = c.if-known_rule.false in cc;
  no = λ e so.
      let in_frame : c.if-self.value ≡ true =
      elim c.if-self.branch [ then-self w ↦ w.value-is ∙ lt-ltb _ _ so.in_frame | else-self w ↦ absurd (omega (arith, so.in_row)) ] in
      let corner : c.if-self-2.value ≡ true =
      elim c.if-self-2.branch [ then-self-2 w ↦ w.value-is ∙ le-leb _ _ so.corner_small | else-self-2 w ↦ cc ] in
      let begun : c.if-self-le256.value ≡ true =
      elim c.if-self-le256.branch [
        | then-self-le256 w ↦ w.value-is ∙ eq-eqb _ 0 (div-eq_of_lt so.begun_small)
        | else-self-le256 w ↦ cc
      ] in
      let known : c.if-self-eq0.value ≡ true =
      elim c.if-self-eq0.branch [ then-self-eq0 w ↦ w.value-is ∙ w.known_rule.ensures ∙ so.served.known | else-self-eq0 w ↦ cc ] in
      cc;
}
