-- What C gets back as one number (document 01, "Refused": "Returned", a number and its place).
use Rattle.std.specs.Prelude.{ℕ, ◌+◌, ◌*◌}
use Rattle.error.specs.Answer.{Answer, gives, refuses}
use Rattle.api.specs.declared.Sniffed.{Sniffed}
use Rattle.api.specs.declared.Sniffed.TheVariants.{Exact, Truncated, Neither}

-- 0 for what is accepted; a refusal has its number in the low eight bits, and its place above them
abbrev pub packed : {A : Type 0} → Answer A → ℕ
packed (gives a) = 0
packed (refuses code offset) = code + 256 * offset

-- what a lent number holds afterwards: what is told of the file, or, after a refusal, what it held
abbrev pub held : {A : Type 0} → Answer A → (A → ℕ) → ℕ → ℕ
held (gives a) f old = f a
held (refuses code offset) f old = old

-- "exact", "truncated", "else neither"
abbrev pub sniff_number : Sniffed → ℕ
sniff_number Neither = 0
sniff_number Exact = 1
sniff_number Truncated = 2
