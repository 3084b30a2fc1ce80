use mathlib.Core.Path.{◌≡◌, refl}
use mathlib.Core.Bool.{false, ◌||◌}
use mathlib.Core.Logic.{inl, inr}
use borrow.Author.Tests.{ne_eqb}
use lib.Dec.{eqb}
use Rattle.std.proofs.lemmas.Result.{err_from_is_err_and}
use Rattle.ext_write.specs.Internal.Left.{refused}
use Rattle.header.proofs.HeaderBytes.{refused-within, plain-within, presence-left, absent-left, absent-refused}
use Rattle.header.proofs.write.begin_header.Goals as goal

pub returns-then-width-eq0 : goal.returns-then-width-eq0
returns-then-width-eq0 c = (
  refused-within _ _,
  λ strict lengths h. elim c.then-width-eq0.either [
    | inl z ↦ rw (z, c.new.ensures) (refused _ (record { answer = refl; bytes = refl }))
    | inr z ↦ rw (ne_eqb c.args.width 0 z.0, z.1, c.new.ensures) (refused _ (record { answer = refl; bytes = refl }))
  ],
)

pub returns-in_ok-end-in-None : goal.returns-in_ok-end-in-None
returns-in_ok-end-in-None c =
    let a = c.args in
    let t : (eqb a.width 0 || eqb a.height 0) ≡ false = simp (ne_eqb _ _ c.if-width-eq0.false, ne_eqb _ _ c.if-height-eq0.false) in (
      plain-within a.width a.height a.out.now _ _ c.write_header.auto.out c.in_ok-end-in-None.ensures,
      λ strict lengths h. presence-left strict a.width a.height a.text.now lengths a.out.now _ _ _ _ _ t
          c.in-None.is
          (absent-left strict a.width a.height a.text.now lengths a.out.now _ _ c.in_ok-end-in-None.ensures),
    )

pub returns-in_err-end-in-None : goal.returns-in_err-end-in-None
returns-in_err-end-in-None c =
    let a = c.args in
    let t : (eqb a.width 0 || eqb a.height 0) ≡ false = simp (ne_eqb _ _ c.if-width-eq0.false, ne_eqb _ _ c.if-height-eq0.false) in
    let p = err_from_is_err_and c.from_residual.result c.from_residual.ensures.1 in
    rw (p.1, p.2) (
      refused-within _ _,
      λ strict lengths h. presence-left strict a.width a.height a.text.now lengths a.out.now _ _ _ _ _ t
          c.in-None.is
          (absent-refused strict a.width a.height a.text.now lengths a.out.now _ _ c.in_err-end-in-None.ensures),
    )

pub returns-in-Some : goal.returns-in-Some
returns-in-Some c =
    let a = c.args in
    let t : (eqb a.width 0 || eqb a.height 0) ≡ false = simp (ne_eqb _ _ c.if-width-eq0.false, ne_eqb _ _ c.if-height-eq0.false) in (
      c.begin_fields_header.ensures.0,
      λ strict lengths h. presence-left strict a.width a.height a.text.now lengths a.out.now _ _ _ _ _ t
          c.in-Some.is (c.begin_fields_header.ensures.1 strict lengths h),
    )
