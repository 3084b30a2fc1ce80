-- What a call answers: what it gives, or a refusal: a number of document 01's table and the offset beside it (document 01: its place).
use Rattle.std.specs.Prelude.{ℕ, Bool, ◌||◌, eqb, Option, Some, None, Result, Ok, Err}
use Rattle.error.specs.declared.WbmpError.{WbmpError}
use Rattle.error.specs.declared.Refusal.{Refusal}
use Rattle.error.specs.declared.Refusal.TheVariants.{MbiTruncated, MbiOverflow, MbiTooLong, MbiNotShortest, TypeUnsupported, FixHeaderMissing, FixHeaderNotZero, ZeroDimension, ExtTruncated, ExtTooLong, IdentifierLength, ValueLength, PairTruncated, IdentifierClass, ValueClass, WidthLimit, HeightLimit, PixelLimit, ByteLimit, PlaneTooShort, FrameCount, GrayTooShort, FieldsEmpty, OctetBit7, OutputTooShort, StrideTooSmall, PlaneOverflow, BufferTooShort, UnknownSetting, SessionClosed, PairLengths}

pub data Answer (A : Type 0) : Type 0 where
  gives : A → Answer A
  refuses : ℕ → ℕ → Answer A

-- an answer that something follows
abbrev pub bind : {A B : Type 0} → Answer A → (A → Answer B) → Answer B
bind (gives a) f = f a
bind (refuses code offset) f = refuses code offset

abbrev pub map : {A B : Type 0} → (A → B) → Answer A → Answer B
map f (gives a) = gives (f a)
map f (refuses code offset) = refuses code offset

-- the refusals of an input that ends too early, "1, 6, 9, 13 or 20": with more bytes the answer may be another
abbrev pub is_end : ℕ → Bool
is_end code = eqb code 1 || eqb code 6 || eqb code 9 || eqb code 13 || eqb code 20

-- the number of a refusal, 0 for none
abbrev pub code_of : {A : Type 0} → Answer A → ℕ
code_of (gives a) = 0
code_of (refuses code offset) = code

-- the number of a refusal in document 01's table
abbrev pub number : Refusal → ℕ
number MbiTruncated = 1
number MbiOverflow = 2
number MbiTooLong = 3
number MbiNotShortest = 4
number TypeUnsupported = 5
number FixHeaderMissing = 6
number FixHeaderNotZero = 7
number ZeroDimension = 8
number ExtTruncated = 9
number ExtTooLong = 10
number IdentifierLength = 11
number ValueLength = 12
number PairTruncated = 13
number IdentifierClass = 14
number ValueClass = 15
number WidthLimit = 16
number HeightLimit = 17
number PixelLimit = 18
number ByteLimit = 19
number PlaneTooShort = 20
number FrameCount = 21
number GrayTooShort = 22
number FieldsEmpty = 23
number OctetBit7 = 24
number OutputTooShort = 25
number StrideTooSmall = 26
number PlaneOverflow = 27
number BufferTooShort = 28
number UnknownSetting = 29
number SessionClosed = 30
number PairLengths = 31

-- the number of a refusal that may be there, 0 for none
abbrev pub number_or_0 : Option Refusal → ℕ
number_or_0 None = 0
number_or_0 (Some refusal) = number refusal

-- what the code's values mean
abbrev pub refusal : {A : Type 0} → WbmpError → Answer A
refusal e = refuses (number e.kind) e.offset

abbrev pub answered : {A : Type 0} → Result A WbmpError → Answer A
answered (Ok a) = gives a
answered (Err e) = refusal e

abbrev pub written : Result ℕ WbmpError → Answer ℕ
written r = answered r

abbrev pub checked : Result (Unit {0}) WbmpError → Answer (Unit {0})
checked r = answered r
