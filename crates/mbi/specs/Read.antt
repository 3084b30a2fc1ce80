-- Reading integers, lenient and strict (document 01, mbi.rs).
use Rattle.std.specs.Prelude.{ℕ, ◌+◌, ◌*◌, ◌%◌, Bool, ◌&&◌, List, [], ◌∷◌, drop, ◌==◌, nat_lt, Result, Ok, Err}
use Rattle.error.specs.Choice.{if}
use Rattle.error.specs.Answer.{Answer, gives, refuses, number}
use Rattle.error.specs.declared.WbmpError.{WbmpError}
use Rattle.std.specs.declared.ops.ControlFlow.{ControlFlow}
use Rattle.std.specs.declared.ops.ControlFlow.TheVariants.{Continue, Break}

-- what one byte does to an integer: more follow, it was the last one, or it is refused (code and offset)
pub data ByteRead : Type 0 where
  goes : ℕ → ByteRead
  ends : ℕ → ByteRead
  wrong : ℕ → ℕ → ByteRead

-- the byte b at the offset `at`, where `count` bytes before it have given `value`. "After taking the byte, value above 4,294,967,295 (2);
-- more than 7 bytes (3)"; strict "first refuses a leading 0x80 (4)", with the offset before that byte
unfoldable pub read_byte : Bool → ℕ → ℕ → ℕ → ℕ → ByteRead
read_byte strict at value count b =
    if (strict && count == 0 && b == 128) (wrong 4 at)
    (if (nat_lt 4294967295 (value * 128 + b % 128)) (wrong 2 (at + 1))
    (if (nat_lt 7 (count + 1)) (wrong 3 (at + 1))
    (if (nat_lt b 128) (ends (value * 128 + b % 128))
    (goes (value * 128 + b % 128)))))

-- the rest of an integer, the bytes from `at` on: its value and the offset after it; "tests, per byte: input ended (1)", then the byte
unfoldable pub read_rest : Bool → List ℕ → ℕ → ℕ → ℕ → Answer (ℕ × ℕ)
read_rest strict [] at value count = refuses 1 at
read_rest strict (b ∷ τ) at value count =
    elim (read_byte strict at value count b) [
      | goes v ↦ read_rest strict τ (at + 1) v (count + 1)
      | ends v ↦ gives (v, at + 1)
      | wrong code offset ↦ refuses code offset
    ]

-- the integer of a file at an offset
abbrev pub read_mbi : Bool → List ℕ → ℕ → Answer (ℕ × ℕ)
read_mbi strict bytes offset = read_rest strict (drop offset bytes) offset 0 0

-- The same in continuation form: `next` takes the value, the offset after it and the bytes from there on.
abbrev pub upon : {A : Type 0} → ByteRead → (ℕ → Answer A) → (ℕ → Answer A) → Answer A
upon (goes v) more last = more v
upon (ends v) more last = last v
upon (wrong code offset) more last = refuses code offset

unfoldable pub integer : {A : Type 0} → Bool → List ℕ → ℕ → ℕ → ℕ → (ℕ → ℕ → List ℕ → Answer A) → Answer A
integer strict [] at value count next = refuses 1 at
integer strict (b ∷ τ) at value count next =
    upon (read_byte strict at value count b) (λ v. integer strict τ (at + 1) v (count + 1) next) (λ v. next v (at + 1) τ)

-- what the code's values mean
abbrev pub step_meaning : Result (ControlFlow ℕ ℕ) WbmpError → ByteRead
step_meaning (Ok (Continue v)) = goes v
step_meaning (Ok (Break v)) = ends v
step_meaning (Err e) = wrong (number e.kind) e.offset
