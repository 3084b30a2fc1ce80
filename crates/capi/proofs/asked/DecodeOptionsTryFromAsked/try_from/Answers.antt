use Rattle.std.proofs.Common.{◌≡◌, ℕ, Bool, true, false, eqb, refl, ap, ◌∙◌}
use Rattle.std.proofs.lemmas.Result.{err_from_is_err_and}
use Rattle.error.specs.Choice.{if}
use Rattle.error.specs.Answer.{Answer, gives, refuses, map}
use Rattle.options.specs.Limits.{mode_of}
use Rattle.options.specs.declared.DecodeMode.{DecodeMode}
use Rattle.capi.specs.Asked.{chosen, strict_of, settings_of}
use Rattle.capi.proofs.asked.DecodeOptionsTryFromAsked.try_from.Goals as goal

-- the mode that is chosen means the strictness that is asked for
mode-is : (n : ℕ) (x : Answer DecodeMode) → x ≡ chosen n DecodeMode.Lenient DecodeMode.Strict → map mode_of x ≡ strict_of n
mode-is n x e = ap (map mode_of) e ∙ go (eqb n 0) (eqb n 1)
  where
    go : (t u : Bool) → map mode_of (if t (gives DecodeMode.Lenient) (if u (gives DecodeMode.Strict) (refuses 29 0)))
        ≡ if t (gives (mode_of DecodeMode.Lenient)) (if u (gives (mode_of DecodeMode.Strict)) (refuses 29 0))
    go true u = refl
    go false true = refl
    go false false = refl

pub returns-in_err-chosen : goal.returns-in_err-chosen
unfolding settings_of
returns-in_err-chosen c =
    let p = err_from_is_err_and c.from_residual.result c.from_residual.ensures.1 in
    rw (p.1, p.2, ← c.in_err-chosen.ensures)

pub returns-in_err-chosen-2 : goal.returns-in_err-chosen-2
unfolding settings_of
returns-in_err-chosen-2 c =
    let r = c.from_residual-in_err-chosen-2 in
    let p = err_from_is_err_and r.result r.ensures.1 in
    rw (p.1, p.2, ← c.in_ok-chosen.ensures, ← mode-is _ _ c.in_err-chosen-2.ensures)

pub returns : goal.returns
unfolding settings_of
returns c =
    rw (
      ← c.in_ok-chosen.ensures,
      ← mode-is _ _ c.in_ok-chosen-2.ensures,
      c.limit.ensures,
      c.limit-2.ensures,
      c.limit-3.ensures,
      c.limit-4.ensures,
      c.from.ensures,
      c.from-2.ensures,
      c.from-3.ensures,
      c.from-4.ensures,
    )
