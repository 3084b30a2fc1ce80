-- Fields that can be read back: "the writers have no ceiling: an overlong field is written and later refused with 10".
use Rattle.std.specs.Prelude.{ℕ, ◌+◌, ◌≤◌, ◌<◌, ◌≡◌, List, [], ◌∷◌, ◌⊎◌, length}
use Rattle.ext.specs.Kinds.{Pair, Fields, none, bitfield, reserved, pairs}
use Rattle.ext.specs.Find.{pair_size}

abbrev pub kind_of : Fields → ℕ
kind_of none = 0
kind_of (bitfield octets) = 0
kind_of (reserved kind octet) = kind
kind_of (pairs ps) = 3

-- each pair starts less than 4,096 past the first; the next one starts `past` past it
abbrev pub StartsBelow : ℕ → List Pair → Type 0
StartsBelow past [] = Unit {0}
StartsBelow past (p ∷ ps) = (past < 4096) × StartsBelow (past + pair_size p) ps

-- within the ceiling; no fields are, and a single octet is
abbrev pub Readable : Fields → Type 0
Readable none = Unit {0}
Readable (bitfield octets) = length octets ≤ 4096
Readable (reserved kind octet) = Unit {0}
Readable (pairs ps) = StartsBelow 0 ps

-- there are fields, and their kind is one of the four
abbrev pub OfKind : Fields → Type 0
OfKind none = ⊥
OfKind (bitfield octets) = Unit {0}
OfKind (reserved kind octet) = (kind ≡ 1) ⊎ (kind ≡ 2)
OfKind (pairs ps) = Unit {0}
