use mathlib.Core.Path.{ap, refl}
use Rattle.std.proofs.lemmas.Result.{err_from_is_err_and}
use Rattle.ext.specs.Kinds.{kind_number}
use Rattle.ext_write.proofs.LentFields.{single, lent-octets, lent-octet, lent-3}
use Rattle.ext_write.proofs.Begun.{fields-written, fields-refused, pairs-begun}
use Rattle.ext_write.proofs.write.begin_fields.Goals as goal

pub returns-in_ok-end-in-Bitfield00 : goal.returns-in_ok-end-in-Bitfield00
returns-in_ok-end-in-Bitfield00 c =
    let a = c.args in
    fields-written (kind_number a.ext_type) a.text.now a.found a.out.now _ _
    (λ strict lengths. lent-octets strict lengths _ _ (ap kind_number c.in-Bitfield00.is)) _ c.in_ok-end-in-Bitfield00.ensures

pub returns-in_err-end-in-Bitfield00 : goal.returns-in_err-end-in-Bitfield00
returns-in_err-end-in-Bitfield00 c =
    let a = c.args in
    let p = err_from_is_err_and c.from_residual.result c.from_residual.ensures.1 in
    rw (p.1, p.2)
    (fields-refused (kind_number a.ext_type) a.text.now a.found a.out.now _ _
    (λ strict lengths. lent-octets strict lengths _ _ (ap kind_number c.in-Bitfield00.is)) _ c.in_err-end-in-Bitfield00.ensures)

pub returns-in_ok-end-in-Reserved01 : goal.returns-in_ok-end-in-Reserved01
returns-in_ok-end-in-Reserved01 c =
    let a = c.args in
    fields-written (kind_number a.ext_type) a.text.now a.found a.out.now _ _
    (λ strict lengths. lent-octet strict lengths _ (single _ c.in-Reserved01.is) _) _ c.in_ok-end-in-Reserved01.ensures

pub returns-in_err-end-in-Reserved01 : goal.returns-in_err-end-in-Reserved01
returns-in_err-end-in-Reserved01 c =
    let a = c.args in
    let p = err_from_is_err_and c.from_residual-in_err-end-in-Reserved01.result c.from_residual-in_err-end-in-Reserved01.ensures.1 in
    rw (p.1, p.2)
    (fields-refused (kind_number a.ext_type) a.text.now a.found a.out.now _ _
    (λ strict lengths. lent-octet strict lengths _ (single _ c.in-Reserved01.is) _) _ c.in_err-end-in-Reserved01.ensures)

pub returns-in-ParameterPairs11 : goal.returns-in-ParameterPairs11
returns-in-ParameterPairs11 c = (
  c.begin_pairs.ensures.0,
  λ strict lengths h. pairs-begun _ _ _ _ _ _ _ _
      (lent-3 strict lengths _ _ (ap kind_number c.in-ParameterPairs11.is)) (c.begin_pairs.ensures.1 strict _ lengths _ refl h),
)
