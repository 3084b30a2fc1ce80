-- Pairs to be written, one at a time: a step that checks one and a step that puts one, and what a run of each over all lengths comes to.
-- Both steps are total, so that a run needs no condition; `proofs/CheckRun` and `proofs/PutRun` say what the runs come to.
use Rattle.std.specs.Prelude.{ℕ, ◌+◌, ◌/◌, ◌<◌, Bool, false, ◌&&◌, List, [], ◌∷◌, ltb, leb, eqb, length, take, drop, get_or}
use Rattle.std.specs.Prelude.{Option, Some, None}
use Rattle.std.proofs.lemmas.List.Edits.{sets}
use Rattle.error.specs.Choice.{if}
use Rattle.error.specs.Answer.{Answer, gives, refuses, code_of, number_or_0}
use Rattle.ext.specs.Kinds.{Pair}
use Rattle.ext_write.specs.Write.{check_pair, pair_bytes}
use Rattle.ext_write.specs.declared.PairsCheck.{PairsCheck}
use Rattle.ext_write.specs.declared.PairsPut.{PairsPut}

-- A check of pairs on its way, as `PairsCheck` has it: where the next pair stands in the text, where it starts in the fields, and the number
-- of the first refusal, 0 for none.
pub record Checking : Type 0 where
  pub at : ℕ
  pub start : ℕ
  pub code : ℕ

abbrev pub checking : PairsCheck → Checking
checking s = record { at = s.at; start = s.start; code = number_or_0 s.refusal }

-- the pair whose identifier of i bytes starts at an offset of the text, before its value of v bytes
abbrev pub lent_pair : List ℕ → ℕ → ℕ → ℕ → Pair
lent_pair text at i v = record { identifier = take i (drop at text); value = take v (drop (at + i) text) }

-- Where the next pair starts, past the first one, behind a pair of i and v bytes: counted as long as a ceiling of 4,096 can ask.
abbrev pub start_after : ℕ → ℕ → ℕ → ℕ
start_after start i v = if (ltb start 4096) (start + 1 + i + v) start

-- the number of the first refusal, 0 for none: of one that came before, or of this pair
abbrev pub first_code : Bool → ℕ → Pair → ℕ
first_code strict code p = if (eqb code 0) (code_of (check_pair strict p)) code

-- One pair more: 31 where it runs past the text, whatever was refused before; else the first refusal stays.
unfoldable pub check_step : Bool → List ℕ → Checking → ℕ → ℕ → Checking
check_step strict text s i v =
    if (leb (s.at + i + v) (length text))
    (record {
      at = s.at + i + v;
      start = start_after s.start i v;
      code = first_code strict s.code (lent_pair text s.at i v);
    })
    (record { at = s.at; start = s.start; code = 31 })

abbrev pub check_start : Checking
check_start = record { at = 0; start = 0; code = 0 }

unfoldable pub check_pairs : Bool → List ℕ → List ℕ → Checking → Checking
check_pairs strict text [] s = s
check_pairs strict text (i ∷ []) s = check_step strict text s i 0
check_pairs strict text (i ∷ v ∷ lengths) s = check_pairs strict text lengths (check_step strict text s i v)

-- What the end of a run says of a text of so many bytes and so many lengths: "31, 23", then the first pair's refusal; accepted pairs have a
-- header byte more each.
abbrev pub pairs_length : ℕ → ℕ → Checking → Answer ℕ
pairs_length size number s =
    if (eqb s.at size)
    (if (eqb number 0) (refuses 23 0)
    (if (eqb s.code 0) (gives (size + number / 2)) (refuses s.code 0)))
    (refuses 31 0)

-- whether a pair can be put: its lengths have room in a header byte, and its bytes in the text and in the output
unfoldable pub can_put : List ℕ → List ℕ → PairsPut → ℕ → ℕ → Bool
can_put text out s i v = leb i 7 && leb v 15 && leb (s.at + i + v) (length text) && leb (s.to + 1 + i + v) (length out)

-- where the next pair stands in the text and goes in the output; where this one cannot be put, nothing changes
unfoldable pub put_step : List ℕ → List ℕ → PairsPut → ℕ → ℕ → PairsPut
put_step text out s i v = if (can_put text out s i v) (record { at = s.at + i + v; to = s.to + 1 + i + v }) s

abbrev pub put_start : ℕ → PairsPut
put_start to = record { at = 0; to = to }

unfoldable pub put_output : List ℕ → List ℕ → PairsPut → ℕ → ℕ → Bool → List ℕ
put_output text out s i v more = if (can_put text out s i v) (sets out s.to (pair_bytes more (lent_pair text s.at i v))) out

-- the output after every pair; all but the last say that one more follows
unfoldable pub put_pairs : List ℕ → List ℕ → List ℕ → PairsPut → List ℕ
put_pairs text [] out s = out
put_pairs text (i ∷ []) out s = put_output text out s i 0 false
put_pairs text (i ∷ v ∷ lengths) out s =
    put_pairs text lengths (put_output text out s i v (ltb 0 (length lengths))) (put_step text out s i v)

-- the output after the pairs that are left to put, where any are
abbrev pub put_left : List ℕ → List ℕ → List ℕ → Option ℕ → List ℕ
put_left text lengths out None = out
put_left text lengths out (Some to) = put_pairs text lengths out (put_start to)

-- octets of 7 bits, and their bytes: all but the last continue
abbrev pub Small : List ℕ → Type 0
Small s = (k : ℕ) → k < length s → get_or s k 0 < 128

unfoldable pub continued : List ℕ → List ℕ
continued [] = []
continued (o ∷ os) = (if (ltb 0 (length os)) 128 0 + o) ∷ continued os
