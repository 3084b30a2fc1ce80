-- What the functions of src/lib.rt promise: the calls that they make are lists of which condition 3 speaks.
use Rattle.std.specs.Prelude.{ℕ, ◌≡◌, false, List, [], ◌∷◌, ℤ, length, take, drop}
use Rattle.error.specs.Answer.{gives, refuses, written, checked}
use Rattle.error.specs.Emits.{Emits}
use Rattle.options.specs.Limits.{Decoding}
use Rattle.rules.specs.Rule.{carries}
use Rattle.quantize.specs.Internal.Machine.{carried}
use Rattle.encode_session.specs.Model as Making
use Rattle.encode_session.specs.Session as MakingSession
use Rattle.encode_session.specs.Trace as MakingTrace
use Rattle.decode_session.specs.Model as Reading
use Rattle.decode_session.specs.Session as ReadingSession
use Rattle.decode_session.specs.declared.DecodeSession.{DecodeSession}
use Rattle.conformance.specs.Lists.{MakingList, ReadingList}
use Rattle.conformance.specs.declared.CardMade.{CardMade}
use Rattle.conformance.specs.declared.CardRead.{CardRead}

-- The work buffer after so many samples, from the first on: it ends with the numbers that the running machine keeps, from those found; it
-- is as before under a rule that keeps no carries, and behind the first width. `corner` counts inside a row only.
pub record KeepsWork (a : Making.Opening) (samples : List ℕ) (taken : ℕ) (work work' : List ℤ) : Type 0 where
  pub corner : ℤ
  pub kept : work'
      ≡ (carried (Making.setting_of a) 0 (record { begun = 0; carry = record { corner = corner; kept = work } }) samples taken).carry.kept
  pub spared : carries (Making.setting_of a).rule ≡ false → work' ≡ work
  pub beyond : drop a.width work' ≡ drop a.width work

-- opening an encode session, feeding it and closing it; behind a refused opening all calls are refused and alter nothing
pub record MakesCard (a : Making.Opening) (samples : List ℕ) (work : List ℤ) (head out : List ℕ) (r : CardMade) (work' : List ℤ)
    (head' out' : List ℕ) : Type 0 where
  pub header : Emits (Making.header a (length work)) (written r.header) head head'
  pub list : (n : ℕ) → written r.header ≡ gives n
      → MakingList a (take n head') (Making.feed samples out (length work) ∷ Making.close ∷ [])
      (record { answer = MakingSession.fed_meaning r.feeding; output = out' }
      ∷ record { answer = MakingSession.closed_meaning r.closing; output = [] } ∷ [])
  pub keeps : (n : ℕ) → written r.header ≡ gives n
      → KeepsWork a samples (MakingTrace.took_of (MakingSession.fed_meaning r.feeding)) work work'
  pub refused : (code place : ℕ) → written r.header ≡ refuses code place
      → (MakingSession.fed_meaning r.feeding ≡ refuses 30 0) × (MakingSession.closed_meaning r.closing ≡ refuses 30 0) × (out' ≡ out)
      × (work' ≡ work)

-- opening a decode session, feeding it, closing it and asking it for the header; behind a refused opening none is seen
pub record ReadsCard (d : Decoding) (piece out ext : List ℕ) (r : CardRead) (out' ext' : List ℕ) : Type 0 where
  pub last : DecodeSession
  pub opening : checked r.opening ≡ Reading.opening d (length ext)
  pub list : checked r.opening ≡ gives tt
      → ReadingList d (Reading.feed piece out ext ∷ Reading.close ∷ [])
      (record { answer = ReadingSession.fed_meaning r.feeding; output = out'; extension = ext' }
      ∷ record { answer = ReadingSession.closed_meaning r.closing; output = []; extension = [] }
      ∷ [])
      last ext'
  pub sees : ReadingSession.Sees last r.seen
  pub refused : (code place : ℕ) → checked r.opening ≡ refuses code place
      → (ReadingSession.fed_meaning r.feeding ≡ refuses 30 0) × (ReadingSession.closed_meaning r.closing ≡ refuses 30 0) × (out' ≡ out)
      × (ext' ≡ ext)
      × (ReadingSession.seen_meaning r.seen ≡ ReadingSession.unread)
