-- What the one-byte step promises: the definition's answer with its offset kept in 64 bits. No byte of a slice stands at the last `usize`,
-- so at the offset of a byte it is the definition's answer itself.
use Rattle.std.specs.Prelude.{◌≡◌, ℕ, ◌%◌, Bool, Result}
use Rattle.error.specs.declared.WbmpError.{WbmpError}
use Rattle.std.specs.declared.ops.ControlFlow.{ControlFlow}
use Rattle.mbi.specs.Read.{ByteRead, goes, ends, wrong, read_byte, step_meaning}

abbrev pub in_word : ByteRead → ByteRead
in_word (goes v) = goes v
in_word (ends v) = ends v
in_word (wrong code offset) = wrong code (offset % 18446744073709551616)

pub record MbiStepped (strict : Bool) (at value count byte : ℕ) (r : Result (ControlFlow ℕ ℕ) WbmpError) : Type 0 where
  pub does : step_meaning r ≡ in_word (read_byte strict at value count byte)
