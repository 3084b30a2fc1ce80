-- Where the code's reader stands, and where a reading can stand.
use Rattle.std.specs.Prelude.{◌+◌, ◌≤◌, ◌<◌, ◌≡◌, false}
use Rattle.std.proofs.Props.{props}
use Rattle.error.specs.Answer.{is_end, number_or_0}
use Rattle.ext.specs.Kinds.{longest_fields, ext_span}
use Rattle.header_reader.specs.Internal.Machine.{State, in_type, at_fix, in_octets, at_octet, at_pair, in_identifier, in_value, in_width}
use Rattle.header_reader.specs.Internal.Machine.{in_height}
use Rattle.header_reader.specs.declared.phase.FieldsPhase.{FieldsPhase}
use Rattle.header_reader.specs.declared.phase.Phase.{Phase}

abbrev pub fields_state : FieldsPhase → State
fields_state (FieldsPhase.InOctets fix start at) = in_octets fix start at
fields_state (FieldsPhase.AtOctet fix at) = at_octet fix at
fields_state (FieldsPhase.AtPair c) = at_pair c.fix c.start c.at c.pairs
fields_state (FieldsPhase.InIdentifier c p size) =
    in_identifier c.fix c.start c.at c.pairs p.begun p.left size p.more (number_or_0 p.fault)
fields_state (FieldsPhase.InValue c p) = in_value c.fix c.start c.at c.pairs p.begun p.left p.more (number_or_0 p.fault)

abbrev pub state : Phase → State
state (Phase.InType i) = in_type i.at i.value i.count
state (Phase.AtFix at) = at_fix at
state (Phase.InFields p) = fields_state p
state (Phase.InWidth fix f i) = in_width fix (ext_span f) i.at i.value i.count
state (Phase.InHeight fix f w i) = in_height fix (ext_span f) w i.at i.value i.count

-- How far a reading can have come: an integer has at most 7 bytes that are accepted, the FixHeader byte is one, and fields are at most
-- 4,118 bytes, so the width starts at 4,128 or before and the height 8 bytes later or before. A waiting fault is no end of input.
abbrev pub Reachable : State → Type 0
Reachable (in_type at v n) = (at ≤ n) × (n ≤ 7)
Reachable (at_fix at) = at ≤ 8
Reachable (in_octets fix start at) = (start ≤ 9) × (at ≤ start + 4096) × (start ≤ at)
Reachable (at_octet fix at) = at ≤ 9
Reachable (at_pair fix start at pairs) = (start ≤ 9) × (at ≤ start + longest_fields) × (pairs ≤ at) × (start ≤ at)
Reachable (in_identifier fix start at pairs begun left size again fault) =
    (start ≤ 9) × (at + left + size ≤ start + longest_fields) × (pairs < at) × (1 ≤ left) × (1 ≤ size) × (start ≤ at) × (is_end fault ≡ false)
Reachable (in_value fix start at pairs begun left again fault) =
    (start ≤ 9) × (at + left ≤ start + longest_fields) × (pairs < at) × (1 ≤ left) × (start ≤ at) × (is_end fault ≡ false)
Reachable (in_width fix f at v n) = (at ≤ 4128 + n) × (n ≤ 7)
Reachable (in_height fix f w at v n) = (at ≤ 4136 + n) × (n ≤ 7)

-- in one way at most
pub reachable_prop : (st : State) → IsProp (Reachable st)
reachable_prop (in_type at v n) = Prim.hlevel props
reachable_prop (at_fix at) = Prim.hlevel props
reachable_prop (in_octets fix start at) = Prim.hlevel props
reachable_prop (at_octet fix at) = Prim.hlevel props
reachable_prop (at_pair fix start at pairs) = Prim.hlevel props
reachable_prop (in_identifier fix start at pairs begun left size again fault) = Prim.hlevel props
reachable_prop (in_value fix start at pairs begun left again fault) = Prim.hlevel props
reachable_prop (in_width fix f at v n) = Prim.hlevel props
reachable_prop (in_height fix f w at v n) = Prim.hlevel props
