use mathlib.Core.Path.{◌∙◌, sym, ap}
use lib.ListN.{length}
use Rattle.error.specs.Answer.{map}
use Rattle.ext.specs.Kinds.{kind_number}
use Rattle.ext_write.proofs.LentFields.{single, lent-octets, lent-octet}
use Rattle.ext_write.proofs.write.check_fields.Goals as goal

pub returns-in-Bitfield00 : goal.returns-in-Bitfield00
returns-in-Bitfield00 c strict lengths h =
    c.check_octets.ensures
    ∙ ap (map length) (sym (lent-octets strict lengths _ _ (ap kind_number c.in-Bitfield00.is)))

pub returns-in-Reserved01 : goal.returns-in-Reserved01
returns-in-Reserved01 c strict lengths h =
    c.check_octet.ensures
    ∙ ap (map length) (sym (lent-octet strict lengths _ (single _ c.in-Reserved01.is) _))
