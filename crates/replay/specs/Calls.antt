-- How numbers name calls and when a run ends, for both sessions; and what both write.
use Rattle.std.specs.Prelude.{ℕ, ◌+◌, ◌-◌, ◌*◌, ◌≤◌, ◌≡◌, Bool, true, ◌&&◌, List, [], ◌∷◌, ◌++◌, leb, eqb, length, drop, Option, Some, None, Result, Ok, Err}
use Rattle.error.specs.Answer.{number}
use Rattle.error.specs.Choice.{if}
use Rattle.error.specs.declared.Fed.{Fed}
use Rattle.error.specs.declared.WbmpError.{WbmpError}
use Rattle.replay.specs.declared.call.Named.{Named}
use Rattle.replay.specs.declared.call.Named.TheVariants.{Close, Feed}
use Rattle.replay.specs.declared.call.Lending.{Lending}

-- 0 closes, and closing looks at no other number; any other number feeds
abbrev pub name_of : ℕ → ℕ → ℕ → ℕ → ℕ → Named
name_of what start size room lent = if (eqb what 0) Close (Feed (record { start = start; size = size; room = room; lent = lent }))

-- the bytes of output, and the numbers of work, that a call is lent
abbrev pub room_of : Named → ℕ
room_of Close = 0
room_of (Feed p) = p.room

abbrev pub lent_of : Named → ℕ
lent_of Close = 0
lent_of (Feed p) = p.lent

-- so many samples, bytes of output and numbers of work have a call's parts
abbrev pub has_parts : Lending → ℕ → ℕ → ℕ → Bool
has_parts p samples room work = leb (p.start + p.size) samples && leb p.room room && leb p.lent work

abbrev pub is_there : Named → ℕ → ℕ → ℕ → Bool
is_there Close samples room work = true
is_there (Feed p) samples room work = has_parts p samples room work

-- The calls that are made, where there are so many samples, bytes of output, numbers of work, and room for so many numbers of answers: the
-- run ends with the numbers, where an answer's three have no room, and before a call whose parts are not there. A call's output starts
-- behind that of the one before; all samples and all of the work are there for each.
unfoldable pub named : List ℕ → ℕ → ℕ → ℕ → ℕ → List Named
named (what ∷ start ∷ size ∷ room ∷ lent ∷ rest) samples out work answers =
    let c = name_of what start size room lent in
    if (leb 3 answers && is_there c samples out work) (c ∷ named rest samples (out - room_of c) work (answers - 3)) []
named [] samples out work answers = []
named (_ ∷ []) samples out work answers = []
named (_ ∷ _ ∷ []) samples out work answers = []
named (_ ∷ _ ∷ _ ∷ []) samples out work answers = []
named (_ ∷ _ ∷ _ ∷ _ ∷ []) samples out work answers = []

-- the bytes of output that calls are lent, all together
unfoldable pub room_in : List Named → ℕ
room_in [] = 0
room_in (c ∷ cs) = room_of c + room_in cs

-- no call is lent more than so many numbers of work
unfoldable pub Within : ℕ → List Named → Type 0
Within n [] = Unit {0}
Within n (c ∷ cs) = (lent_of c ≤ n) × Within n cs

-- what is told of each, joined
unfoldable pub concat_map : {A : Type 0} → (A → List ℕ) → List A → List ℕ
concat_map f [] = []
concat_map f (a ∷ rest) = f a ++ concat_map f rest

-- a list in front of what stands behind it in another
abbrev pub over : List ℕ → List ℕ → List ℕ
over front whole = front ++ drop (length front) whole

-- For every session: so many calls are made, and what stands behind the parts that they are lent is as before.
pub record Spares {A : Type 0} (cs : List Named) (calls : ℕ) (out answers : List ℕ) (work : List A) (out' answers' : List ℕ)
    (work' : List A) : Type 0 where
  pub made : calls ≡ length cs
  pub out_same : drop (room_in cs) out' ≡ drop (room_in cs) out
  pub answers_same : drop (3 * length cs) answers' ≡ drop (3 * length cs) answers
  pub work_same : (n : ℕ) → Within n cs → drop n work' ≡ drop n work

-- ---- what the private functions promise

-- the parts are there
pub record Fits (p : Lending) (samples room work : ℕ) : Type 0 where
  pub piece : p.start + p.size ≤ samples
  pub output : p.room ≤ room
  pub buffer : p.lent ≤ work

-- the test of it
pub record Tests (p : Lending) (samples room work : ℕ) (r : Bool) : Type 0 where
  pub is : r ≡ has_parts p samples room work
  pub fits : r ≡ true → Fits p samples room work

abbrev pub There : Named → ℕ → ℕ → ℕ → Type 0
There Close samples room work = Unit {0}
There (Feed p) samples room work = Fits p samples room work

-- the run goes on with a call, and then with the numbers behind its five
pub record Goes (numbers : List ℕ) (samples room work : ℕ) (c : Named) : Type 0 where
  pub is : (answers : ℕ) → 3 ≤ answers
      → named numbers samples room work answers ≡ c ∷ named (drop 5 numbers) samples (room - room_of c) work (answers - 3)
  pub there : There c samples room work

-- what the next call is
abbrev pub Nexts : List ℕ → ℕ → ℕ → ℕ → Option Named → Type 0
Nexts numbers samples room work (Some c) = Goes numbers samples room work c
Nexts numbers samples room work None = (answers : ℕ) → named numbers samples room work answers ≡ []

-- an answer's three numbers
abbrev pub three_of : Result Fed WbmpError → List ℕ
three_of (Ok f) = 0 ∷ f.taken ∷ f.written ∷ []
three_of (Err e) = number e.kind ∷ e.offset ∷ 0 ∷ []
