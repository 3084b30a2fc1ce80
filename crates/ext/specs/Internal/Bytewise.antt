-- Reading extension fields byte by byte, in continuation form: a reader takes the bytes from an offset on and what it has gathered, and
-- `next` takes the offset after the fields, how many pairs they hold, and the bytes from there on.
use Rattle.std.specs.Prelude.{ℕ, ◌+◌, ◌-◌, ◌/◌, ◌%◌, Bool, true, false, ◌&&◌, List, [], ◌∷◌, ltb, leb, eqb}
use Rattle.error.specs.Choice.{if}
use Rattle.error.specs.Answer.{Answer, refuses}
use Rattle.ext.specs.Classes.{is_char, is_alpha_digit}

unfoldable pub octets : {A : Type 0} → List ℕ → ℕ → ℕ → (ℕ → ℕ → List ℕ → Answer A) → Answer A
octets [] start at next = refuses 9 at
octets (b ∷ τ) start at next =
    elim (leb (start + 4096) at) [
      | true ↦ refuses 10 at
      | false ↦ elim (ltb b 128) [ true ↦ next (at + 1) 0 τ | false ↦ octets τ start (at + 1) next ]
    ]

unfoldable pub octet : {A : Type 0} → List ℕ → ℕ → (ℕ → ℕ → List ℕ → Answer A) → Answer A
octet [] at next = refuses 9 at
octet (b ∷ τ) at next = next (at + 1) 0 τ

-- the class refusal that waits for a pair's end, 0 for none: an identifier's comes before a value's
unfoldable pub identifier_fault : Bool → ℕ → ℕ → ℕ
identifier_fault strict fault b = if strict (if (is_char b) fault 14) fault

unfoldable pub value_fault : Bool → ℕ → ℕ → ℕ
value_fault strict fault b = if (strict && eqb fault 0) (if (is_alpha_digit b) fault 15) fault

-- pairs: `start` is the first pair's offset, and `done` how many pairs have ended
unfoldable mutual
  pub pairs_from : {A : Type 0} → List ℕ → Bool → ℕ → ℕ → ℕ → (ℕ → ℕ → List ℕ → Answer A) → Answer A
  pairs_from [] strict start at done next = refuses 9 at
  pairs_from (h ∷ τ) strict start at done next =
      elim (leb (start + 4096) at) [
        | true ↦ refuses 10 at
        | false ↦
            elim (eqb (h / 16 % 8) 0) [
              | true ↦ refuses 11 (at + 1)
              | false ↦
                  elim (eqb (h % 16) 0) [
                    | true ↦ refuses 12 (at + 1)
                    | false ↦ identifier_from τ strict start (at + 1) done (at + 1) (h / 16 % 8) (h % 16) (leb 128 h) 0 next
                  ]
            ]
      ]

  -- an identifier begun at `begun`, of which `left` bytes are to come, before a value of `size` bytes
  pub identifier_from : {A : Type 0} → List ℕ → Bool → ℕ → ℕ → ℕ → ℕ → ℕ → ℕ → Bool → ℕ → (ℕ → ℕ → List ℕ → Answer A) → Answer A
  identifier_from [] strict start at done begun left size more fault next = refuses 13 begun
  identifier_from (b ∷ τ) strict start at done begun left size more fault next =
      elim (ltb 1 left) [
        | true ↦ identifier_from τ strict start (at + 1) done begun (left - 1) size more (identifier_fault strict fault b) next
        | false ↦ value_from τ strict start (at + 1) done (at + 1) size more (identifier_fault strict fault b) next
      ]

  -- a value begun at `begun`, of which `left` bytes are to come
  pub value_from : {A : Type 0} → List ℕ → Bool → ℕ → ℕ → ℕ → ℕ → ℕ → Bool → ℕ → (ℕ → ℕ → List ℕ → Answer A) → Answer A
  value_from [] strict start at done begun left more fault next = refuses 13 begun
  value_from (b ∷ τ) strict start at done begun left more fault next =
      elim (ltb 1 left) [
        | true ↦ value_from τ strict start (at + 1) done begun (left - 1) more (value_fault strict fault b) next
        | false ↦
            elim (eqb (value_fault strict fault b) 0) [
              | false ↦ refuses (value_fault strict fault b) (at + 1)
              | true ↦
                  elim more [
                    | true ↦ pairs_from τ strict start (at + 1) (done + 1) next
                    | false ↦ next (at + 1) (done + 1) τ
                  ]
            ]
      ]

unfoldable pub fields_from : {A : Type 0} → Bool → Bool → ℕ → List ℕ → ℕ → (ℕ → ℕ → List ℕ → Answer A) → Answer A
fields_from strict follow kind τ at next =
    elim follow [
      | false ↦ next at 0 τ
      | true ↦
          elim (eqb kind 0) [
            | true ↦ octets τ at at next
            | false ↦ elim (eqb kind 3) [ true ↦ pairs_from τ strict at at 0 next | false ↦ octet τ at next ]
          ]
    ]
