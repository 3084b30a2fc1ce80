-- Reading extension fields (document 01, ext.rs): each test in its order, each refusal with its offset.
use Rattle.std.specs.Prelude.{ℕ, zero, suc, ◌+◌, ◌/◌, ◌%◌, Bool, true, false, List, [], ◌∷◌, ltb, leb, eqb, length, get_or, drop}
use Rattle.std.proofs.Math.Seq.{slice}
use Rattle.error.specs.Choice.{if}
use Rattle.error.specs.Answer.{Answer, gives, refuses, bind, map}
use Rattle.ext.specs.Kinds.{Pair, Fields, none, bitfield, reserved, pairs}
use Rattle.ext.specs.Classes.{is_char, is_alpha_digit, in_class}

-- Kind 00: "octets of 7 bits, bit 7 continues", the first at `start`; the bytes are those from `at` on. "Tests end (9), then a 4,097th
-- octet (10)." It gives the octets without bit 7 and the offset after them.
unfoldable pub read_octets : List ℕ → ℕ → ℕ → Answer (List ℕ × ℕ)
read_octets [] start at = refuses 9 at
read_octets (b ∷ τ) start at =
    elim (leb (start + 4096) at) [
      | true ↦ refuses 10 at
      | false ↦
          elim (ltb b 128) [
            | true ↦ gives (b ∷ [], at + 1)
            | false ↦ map (λ r. (b % 128 ∷ r.0, r.1)) (read_octets τ start (at + 1))
          ]
    ]

-- Kinds 01 and 10: one octet.
unfoldable pub read_octet : List ℕ → ℕ → Answer (ℕ × ℕ)
read_octet [] at = refuses 9 at
read_octet (b ∷ τ) at = gives (b, at + 1)

-- A pair that was read, whether one more follows, and the offset after it.
pub record PairAt : Type 0 where
  pub pair : Pair
  pub more : Bool
  pub end : ℕ

-- strict adds "identifier outside 0x01-0x7F (14), value not letter or digit per RFC 2234 (15)", with the offset after the pair
abbrev pub classed : Bool → PairAt → Answer PairAt
classed strict p =
    if (in_class strict is_char p.pair.identifier)
    (if (in_class strict is_alpha_digit p.pair.value) (gives p) (refuses 15 p.end))
    (refuses 14 p.end)

-- the identifier stands from a to b and the value from b to e; "identifier cut short, then value (13)", with the offset of the part that
-- is cut
abbrev pub pair_parts : Bool → List ℕ → Bool → ℕ → ℕ → ℕ → Answer PairAt
pair_parts strict s more a b e =
    if (ltb (length s) b) (refuses 13 a)
    (if (ltb (length s) e) (refuses 13 b)
    (classed strict (record { pair = record { identifier = slice a b s; value = slice b e s }; more = more; end = e })))

-- The pair of a file s whose header byte h stands at `at`: "header bit 7 continues, bits 6-4 identifier length, bits 3-0 value length".
-- "Identifier length 0 (11); value length 0 (12)", with the offset after the header.
unfoldable pub read_pair : Bool → List ℕ → ℕ → Answer PairAt
read_pair strict s at =
    let h = get_or s at 0 in
    if (eqb (h / 16 % 8) 0) (refuses 11 (at + 1))
    (if (eqb (h % 16) 0) (refuses 12 (at + 1))
    (pair_parts strict s (leb 128 h) (at + 1) (at + 1 + h / 16 % 8) (at + 1 + h / 16 % 8 + h % 16)))

-- Kind 11: pairs, the first at `start`. "Tests, per pair: end (9); start 4,096 or more past the first pair's (10)", then those of the pair.
-- It gives the pairs and the offset after them. `most` bounds how many pairs there are.
unfoldable pub read_pairs : ℕ → Bool → List ℕ → ℕ → ℕ → Answer (List Pair × ℕ)
read_pairs zero strict s start at = refuses 9 at
read_pairs (suc most) strict s start at =
    elim (leb (length s) at) [
      | true ↦ refuses 9 at
      | false ↦
          elim (leb (start + 4096) at) [
            | true ↦ refuses 10 at
            | false ↦
                bind (read_pair strict s at)
                (λ p. elim p.more [
                  | true ↦ map (λ r. (p.pair ∷ r.0, r.1)) (read_pairs most strict s start p.end)
                  | false ↦ gives (p.pair ∷ [], p.end)
                ])
          ]
    ]

-- The fields of a file s at an offset: none unless the FixHeader byte says that they follow. A pair has bytes of its own, so one more than
-- the file's length bounds the number of pairs.
unfoldable pub read_fields : Bool → Bool → ℕ → List ℕ → ℕ → Answer (Fields × ℕ)
read_fields strict follow kind s at =
    elim follow [
      | false ↦ gives (none, at)
      | true ↦
          elim (eqb kind 0) [
            | true ↦ map (λ r. (bitfield r.0, r.1)) (read_octets (drop at s) at at)
            | false ↦
                elim (eqb kind 3) [
                  | true ↦ map (λ r. (pairs r.0, r.1)) (read_pairs (suc (length s)) strict s at at)
                  | false ↦ map (λ r. (reserved kind r.0, r.1)) (read_octet (drop at s) at)
                ]
          ]
    ]
