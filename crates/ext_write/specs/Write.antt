-- Writing extension fields (document 01, "Refused", order of the fields' tests: "31, 23, then octet by octet 24, or pair by pair 11, 14,
-- 12, 15, the classes only if strict"). "Writers return place 0 always."
use Rattle.std.specs.Prelude.{ℕ, ◌+◌, ◌*◌, Bool, true, false, ◌&&◌, List, [], ◌∷◌, ◌++◌, ltb, leb, eqb, length, take, drop, Result, Ok, Err}
use Rattle.error.specs.Choice.{if}
use Rattle.error.specs.Answer.{Answer, gives, refuses, bind, map, refusal}
use Rattle.ext.specs.Kinds.{Pair, Fields, none, bitfield, reserved, pairs}
use Rattle.ext.specs.Classes.{is_char, is_alpha_digit, in_class}
use Rattle.ext_write.specs.declared.Parameter.{Parameter}
use Rattle.error.specs.declared.WbmpError.{WbmpError}

-- kind 00: every octet but the last continues; an octet with bit 7 is refused
unfoldable pub octets_bytes : List ℕ → Answer (List ℕ)
octets_bytes [] = refuses 23 0
octets_bytes (o ∷ []) = if (ltb o 128) (gives (o ∷ [])) (refuses 24 0)
octets_bytes (o ∷ o' ∷ os) = if (ltb o 128) (map (λ bytes. (128 + o) ∷ bytes) (octets_bytes (o' ∷ os))) (refuses 24 0)

-- kinds 01 and 10: the first of the lent octets
unfoldable pub octet_bytes : List ℕ → Answer (List ℕ)
octet_bytes [] = refuses 23 0
octet_bytes (octet ∷ _) = gives (octet ∷ [])

-- a pair to be written: "lengths outside 1-7 and 1-15 are 11 and 12"
unfoldable pub check_pair : Bool → Pair → Answer (Unit {0})
check_pair strict p =
    if (leb 1 (length p.identifier) && leb (length p.identifier) 7)
    (if (in_class strict is_char p.identifier)
    (if (leb 1 (length p.value) && leb (length p.value) 15)
    (if (in_class strict is_alpha_digit p.value) (gives tt) (refuses 15 0))
    (refuses 12 0))
    (refuses 14 0))
    (refuses 11 0)

-- a pair's bytes: the header's bit 7 says that one more follows
abbrev pub pair_bytes : Bool → Pair → List ℕ
pair_bytes more p = (if more 128 0 + length p.identifier * 16 + length p.value) ∷ (p.identifier ++ p.value)

unfoldable pub pairs_bytes : Bool → List Pair → Answer (List ℕ)
pairs_bytes strict [] = refuses 23 0
pairs_bytes strict (p ∷ []) = bind (check_pair strict p) (λ u. gives (pair_bytes false p))
pairs_bytes strict (p ∷ p' ∷ ps) = bind (check_pair strict p) (λ u. map (λ rest. pair_bytes true p ++ rest) (pairs_bytes strict (p' ∷ ps)))

-- the bytes of fields
unfoldable pub fields_bytes : Bool → Fields → Answer (List ℕ)
fields_bytes strict none = gives []
fields_bytes strict (bitfield octets) = octets_bytes octets
fields_bytes strict (reserved kind octet) = gives (octet ∷ [])
fields_bytes strict (pairs ps) = pairs_bytes strict ps

-- Fields to be written are lent as a text, and for pairs two lengths each: identifier, value. A last length alone stands for an identifier
-- with a value of length 0.
unfoldable pub cut_pairs : List ℕ → List ℕ → List Pair
cut_pairs [] text = []
cut_pairs (i ∷ []) text = record { identifier = take i text; value = [] } ∷ []
cut_pairs (i ∷ v ∷ lengths) text =
    record { identifier = take i text; value = take v (drop i text) } ∷ cut_pairs lengths (drop (i + v) text)

-- Pairs lent as records: two lengths each.
abbrev pub flattened : List Parameter → List ℕ
flattened [] = []
flattened (p ∷ ps) = p.identifier_len ∷ p.value_len ∷ flattened ps

unfoldable pub sum : List ℕ → ℕ
sum [] = 0
sum (n ∷ ns) = n + sum ns

-- "01, 10: one octet (to write, the first lent; surplus is ignored)"; none is 23. "31: pair lengths don't add up to the text."
unfoldable pub lent_fields : ℕ → List ℕ → List ℕ → Answer Fields
lent_fields kind text lengths =
    if (eqb kind 0) (gives (bitfield text))
    (if (eqb kind 3)
    (if (eqb (sum lengths) (length text)) (gives (pairs (cut_pairs lengths text))) (refuses 31 0))
    (elim text [ [] ↦ refuses 23 0 | octet ∷ _ ↦ gives (reserved kind octet) ]))

-- what is written for lent fields of a kind
abbrev pub lent_bytes : Bool → ℕ → List ℕ → List ℕ → Answer (List ℕ)
lent_bytes strict kind text lengths = bind (lent_fields kind text lengths) (fields_bytes strict)

-- the lengths of a pair
abbrev pub lengths_of : Pair → ℕ × ℕ
lengths_of p = (length p.identifier, length p.value)

abbrev pub new_parameter : Result Parameter WbmpError → Answer (ℕ × ℕ)
new_parameter (Ok p) = gives (p.identifier_len, p.value_len)
new_parameter (Err e) = refusal e
