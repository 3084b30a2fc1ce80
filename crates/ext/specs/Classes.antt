-- The strict classes of WAP 4.4.3, from RFC 2234 6.1.
use Rattle.std.specs.Prelude.{ℕ, Bool, true, false, ◌&&◌, ◌||◌, List, leb}
use Rattle.std.specs.List.{list_all}

-- CHAR = %x01-7F
abbrev pub is_char : ℕ → Bool
is_char b = leb 1 b && leb b 127

-- ALPHA = %x41-5A / %x61-7A, DIGIT = %x30-39
unfoldable pub is_alpha_digit : ℕ → Bool
is_alpha_digit b = (leb 48 b && leb b 57) || (leb 65 b && leb b 90) || (leb 97 b && leb b 122)

unfoldable pub all : (ℕ → Bool) → List ℕ → Bool
all p bs = list_all p bs

-- lenient reading and writing have no classes
abbrev pub in_class : Bool → (ℕ → Bool) → List ℕ → Bool
in_class true p bs = all p bs
in_class false p bs = true
