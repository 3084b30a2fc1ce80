-- What the private functions leave.
use Rattle.std.specs.Prelude.{ℕ, ◌-◌, ◌≡◌, List, length, take, drop}
use Rattle.error.specs.Answer.{Answer}
use Rattle.error.specs.Emits.{Emits}

-- "here nothing is written": a header goes into what a body of so many bytes leaves of the output, so that both fit or none is written
pub record Heads (header : Answer (List ℕ)) (body : ℕ) (r : Answer ℕ) (old new : List ℕ) : Type 0 where
  pub front : Emits header r (take (length old - body) old) (take (length old - body) new)
  pub back : drop (length old - body) new ≡ drop (length old - body) old
