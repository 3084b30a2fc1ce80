-- An input that ends before its header does, and the refusals that are met before that.
use Prim.Native.Nat.{ℕ}
use mathlib.Core.Path.{◌≡◌, ◌∙◌, refl, sym, subst}
use mathlib.Core.Bool.{true, false}
use mathlib.Core.List.{[]}
use Rattle.error.specs.Answer.{refuses, is_end}
use Rattle.mbi.specs.Read.{integer}
use Rattle.ext.specs.Internal.Bytewise.{octets, octet, pairs_from}
use Rattle.header.specs.Settings.{Settings, inner}
use Rattle.header_reader.specs.Internal.Machine.{State, in_type, at_fix, in_octets, at_octet, at_pair, in_identifier, in_value, in_width}
use Rattle.header_reader.specs.Internal.Machine.{in_height, fix_from, resume, start}

-- the code and the offset of an input that ends at a state
abbrev pub end_code : State → ℕ
end_code (in_type at v n) = 1
end_code (at_fix at) = 6
end_code (in_octets fix from at) = 9
end_code (at_octet fix at) = 9
end_code (at_pair fix from at pairs) = 9
end_code (in_identifier fix from at pairs begun left size again fault) = 13
end_code (in_value fix from at pairs begun left again fault) = 13
end_code (in_width fix f at v n) = 1
end_code (in_height fix f w at v n) = 1

abbrev pub end_offset : State → ℕ
end_offset (in_type at v n) = at
end_offset (at_fix at) = at
end_offset (in_octets fix from at) = at
end_offset (at_octet fix at) = at
end_offset (at_pair fix from at pairs) = at
end_offset (in_identifier fix from at pairs begun left size again fault) = begun
end_offset (in_value fix from at pairs begun left again fault) = begun
end_offset (in_width fix f at v n) = at
end_offset (in_height fix f w at v n) = at

pub end_is : (o : Settings) (st : State) → resume o st [] ≡ refuses (end_code st) (end_offset st)
unfolding resume integer fix_from octets octet pairs_from
end_is o (in_type at v n) = refl
end_is o (at_fix at) = refl
end_is o (in_octets fix from at) = refl
end_is o (at_octet fix at) = refl
end_is o (at_pair fix from at pairs) = refl
end_is o (in_identifier fix from at pairs begun left size again fault) = refl
end_is o (in_value fix from at pairs begun left again fault) = refl
end_is o (in_width fix f at v n) = refl
end_is o (in_height fix f w at v n) = refl

-- it is 1, 6, 9 or 13
pub end-code : (st : State) → is_end (end_code st) ≡ true
end-code (in_type at v n) = refl
end-code (at_fix at) = refl
end-code (in_octets fix from at) = refl
end-code (at_octet fix at) = refl
end-code (at_pair fix from at pairs) = refl
end-code (in_identifier fix from at pairs begun left size again fault) = refl
end-code (in_value fix from at pairs begun left again fault) = refl
end-code (in_width fix f at v n) = refl
end-code (in_height fix f w at v n) = refl

pub end_short : (o : Settings) (st : State) (code offset : ℕ) → resume o st [] ≡ refuses code offset → is_end code ≡ true
end_short o st code offset e =
    let q = sym (end_is o st) ∙ e in
    let c : end_code st ≡ code = cc in
    subst (λ (k : ℕ). is_end k ≡ true) c (end-code st)

-- an empty input ends in its type
empty : is_end 1 ≡ true
empty = end_short (inner false) start 1 0 (end_is (inner false) start)
