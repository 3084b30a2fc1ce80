-- A writer that checks first keeps what `Emits` promises: its check says how many bytes there are, or refuses.
use Prim.Native.Nat.{ℕ, ◌≤◌, ◌<◌}
use mathlib.Core.Path.{◌≡◌, ◌∙◌, sym, refl, ap}
use mathlib.Core.Bool.{Bool, true, false}
use mathlib.Core.List.{List, ◌++◌}
use native.Mathlib.Omega.{arith}
use lib.Dec.{leb}
use lib.ListN.{length, drop, length-append, length-drop}
use borrow.Author.Tests.{le-leb, lt-leb, leb-true}
use Rattle.error.specs.Choice.{if}
use Rattle.error.specs.Answer.{Answer, gives, refuses, map}
use Rattle.error.specs.Emits.{Emits}
use Rattle.laws.proofs.Tests.{if-true, if-false, zero_one}

pub emits-short : (a : Answer (List ℕ)) (n : ℕ) (old : List ℕ) → gives n ≡ map length a → length old < n → Emits a (refuses 25 0) old old
emits-short (gives bytes) n old e h =
    let f : n ≡ length bytes = cc in
    let t = lt-leb (length bytes) (length old) (omega arith) in
    record { answer = sym (if-false _ _ _ t); bytes = sym (if-false _ _ _ t) }
emits-short (refuses code offset) n old e h = zero_one (cc)

pub emits-bytes : (a : Answer (List ℕ)) (n : ℕ) (old new : List ℕ) → gives n ≡ map length a → n ≤ length old
    → ((bytes : List ℕ) → a ≡ gives bytes → length bytes ≤ length old → new ≡ bytes ++ drop (length bytes) old) → Emits a (gives n) old new
emits-bytes (gives bytes) n old new e h put =
    let f : n ≡ length bytes = cc in
    let t = le-leb (length bytes) (length old) (omega arith) in
    record { answer = e ∙ sym (if-true _ _ _ t); bytes = put bytes refl (omega arith) ∙ sym (if-true _ _ _ t) }
emits-bytes (refuses code offset) n old new e h put = zero_one (cc)

pub emits-refused : (a : Answer (List ℕ)) (code offset : ℕ) (old : List ℕ) → refuses code offset ≡ map length a
    → Emits a (refuses code offset) old old
emits-refused (gives bytes) code offset old e = zero_one (cc)
emits-refused (refuses code' offset') code offset old e = record { answer = cc; bytes = refl }

-- what a writer wrote
pub emitted-is : (a : Answer (List ℕ)) (n : ℕ) (old new : List ℕ) → Emits a (gives n) old new
    → (bytes : List ℕ) × (a ≡ gives bytes) × (n ≡ length bytes) × (new ≡ bytes ++ drop (length bytes) old)
emitted-is (refuses code place) n old new e = let z = e.answer in zero_one (cc)
emitted-is (gives bytes) n old new e = go (leb (length bytes) (length old)) e.answer e.bytes
  where
    go : (t : Bool) → gives n ≡ if t (gives (length bytes)) (refuses 25 0) → new ≡ if t (bytes ++ drop (length bytes) old) old
        → (b : List ℕ) × (gives bytes ≡ gives b) × (n ≡ length b) × (new ≡ b ++ drop (length b) old)
    go true p q = (bytes, refl, (cc), q)
    go false p q = zero_one (cc)

-- a writer leaves as many bytes as it was lent
pub emits-length : (a : Answer (List ℕ)) (r : Answer ℕ) (old new : List ℕ) → Emits a r old new → length new ≡ length old
emits-length (gives bytes) r old new e = go (leb (length bytes) (length old)) refl e.bytes
  where
    go : (t : Bool) → leb (length bytes) (length old) ≡ t → new ≡ if t (bytes ++ drop (length bytes) old) old → length new ≡ length old
    go true p q =
        let h = leb-true (length bytes) (length old) p in
        ap length q ∙ length-append bytes (drop (length bytes) old) ∙ simp length-drop (omega arith)
    go false p q = ap length q
emits-length (refuses code offset) r old new e = ap length e.bytes
