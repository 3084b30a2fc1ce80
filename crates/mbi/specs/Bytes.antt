-- Multi-byte integers, WAP 4.3.1: "seven payload bits a byte, most significant first; bit 7 says more follow" (document 01), in the
-- smallest encoding possible.
use Rattle.std.specs.Prelude.{ℕ, zero, suc, ◌+◌, ◌/◌, ◌%◌, true, false, List, [], ◌∷◌, ◌==◌}

-- the groups of seven bits of n, none where n is 0, each with bit 7 set, in front of `last`; `most` bounds how many there are
unfoldable pub groups : ℕ → ℕ → List ℕ → List ℕ
groups zero n last = last
groups (suc most) n last = elim (n == 0) [ true ↦ last | false ↦ groups most (n / 128) ((128 + n % 128) ∷ last) ]

-- the bytes of n: its last group has bit 7 clear. There are at most as many groups above it as n says.
unfoldable pub mbi_bytes : ℕ → List ℕ
mbi_bytes n = groups n (n / 128) (n % 128 ∷ [])
