-- What a run does, by what the two calls of a session do.
use Rattle.std.specs.Prelude.{ℕ, ◌≡◌, List, [], ◌∷◌, ◌++◌, length, take, drop, Result}
use Rattle.error.specs.declared.Fed.{Fed}
use Rattle.error.specs.declared.WbmpError.{WbmpError}
use Rattle.replay.specs.declared.call.Named.{Named}
use Rattle.replay.specs.declared.call.Named.TheVariants.{Close, Feed}
use Rattle.replay.specs.declared.call.Lending.{Lending}
use Rattle.replay.specs.Calls.{room_of, over, three_of}

module _ {S W : Type 0} (feeds : S → List ℕ → List ℕ → List W → Result Fed WbmpError → S → List ℕ → List W → Type 0)
    (closes : S → Result Fed WbmpError → S → Type 0) (samples : List ℕ) where
  -- a feeding call over the parts that it is lent: `part` is its output, and the front of the work is altered
  pub record FeedsPart (p : Lending) (s : S) (out : List ℕ) (work : List W) (r : Result Fed WbmpError) (s' : S) (part : List ℕ)
      (work' : List W) : Type 0 where
    pub front : List W
    pub does : feeds s (take p.size (drop p.start samples)) (take p.room out) (take p.lent work) r s' part front
    pub lent_long : length (take p.lent work) ≡ p.lent
    pub front_long : length front ≡ p.lent
    pub part_long : length part ≡ p.room
    pub work_is : work' ≡ front ++ drop p.lent work

  -- a closing call, which is lent nothing
  pub record ClosesAlone (s : S) (work : List W) (r : Result Fed WbmpError) (s' : S) (part : List ℕ) (work' : List W) : Type 0 where
    pub does : closes s r s'
    pub part_is : part ≡ []
    pub work_is : work' ≡ work

  -- a named call
  abbrev pub Calls : Named → S → List ℕ → List W → Result Fed WbmpError → S → List ℕ → List W → Type 0
  Calls Close s out work r s' part work' = ClosesAlone s work r s' part work'
  Calls (Feed p) s out work r s' part work' = FeedsPart p s out work r s' part work'

  -- the same, over the output that is left to lend
  pub record Makes (c : Named) (s : S) (out : List ℕ) (work : List W) (r : Result Fed WbmpError) (s' : S) (out' : List ℕ)
      (work' : List W) : Type 0 where
    pub part : List ℕ
    pub calls : Calls c s out work r s' part work'
    pub out_is : out' ≡ over part out

  -- calls one after the other: the session after them, the numbers of their answers, their outputs, and the work after them
  pub data Runs : List Named → S → List ℕ → List W → S → List ℕ → List ℕ → List W → Type 0 where
    ended : {s : S} {out : List ℕ} {work : List W} → Runs [] s out work s [] [] work
    goes : {c : Named} {cs : List Named} {s s' : S} {out : List ℕ} {work work' : List W} (r : Result Fed WbmpError) (next : S)
        (part told written : List ℕ) (left : List W)
        → Calls c s out work r next part left → Runs cs next (drop (room_of c) out) left s' told written work'
        → Runs (c ∷ cs) s out work s' (three_of r ++ told) (part ++ written) work'

  -- a run of calls: what stands behind their answers and outputs is as before
  pub record Ran (cs : List Named) (s : S) (out : List ℕ) (work : List W) (answers : List ℕ) (n : ℕ) (s' : S) (out' : List ℕ)
      (work' : List W) (answers' : List ℕ) : Type 0 where
    pub told : List ℕ
    pub written : List ℕ
    pub runs : Runs cs s out work s' told written work'
    pub made : n ≡ length cs
    pub out_is : out' ≡ over written out
    pub answers_is : answers' ≡ over told answers
