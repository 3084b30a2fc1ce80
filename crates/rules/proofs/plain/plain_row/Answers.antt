use Prim.Native.Nat.{ℕ, ◌+◌, ◌-◌, ◌*◌, ◌/◌, ◌≤◌, ◌<◌}
use mathlib.Core.Path.{◌≡◌, refl, sym, ap, ◌∙◌, subst}
use mathlib.Core.Logic.{⊎_elim}
use mathlib.Core.List.{List}
use native.Mathlib.Nat.{zero-add}
use native.Mathlib.Omega.{arith}
use lib.ListN.{length, get_or, take, drop, length-drop, get_or-eq_default}
use lib.Seq.{get_or-take, get_or-drop, length-take-le}
use Rattle.laws.proofs.Tests.{lt-or-le}
use Rattle.rules.specs.Internal.Planes.{row_sample}
use Rattle.rules.specs.Internal.Words.{bytes, samples_from, Below}
use Rattle.rules.proofs.PlainRowWritten.{PlainTo, sample_in, sample-past, plain-none, row-missing, row_done, row-stopped, row-goes-on}
use Rattle.rules.proofs.Words.{bytes-ext}
use Rattle.rules.proofs.plain.plain_row.Goals as goal
use Rattle.rules.proofs.plain.plain_row.Goals.{After-loop-k, In-loop-k, then-gray-width-via-then-gray-width, then-gray-width-via-else-gray-width+then-out-width}

-- the word of byte k holds its samples
held : (i : In-loop-k) (j : ℕ) → j < 8
    → samples_from i.args.gray.now (8 * i.loop-k.k) j ≡ row_sample i.args.width i.args.gray.now (8 * i.loop-k.k + j)
held i j m = sym (sample_in i.args.width i.args.gray.now (8 * i.loop-k.k + j) (omega (arith, i.loop-k-test.true)))

-- all whole bytes
ended : (a : After-loop-k) → PlainTo a.args.width a.args.gray.now a.args.out.now a.loop-k.out (a.args.width / 8)
ended a =
    let e : a.loop-k.k ≡ a.args.width / 8 = omega (arith, a.loop-k-test.false) in
    subst (λ (k : ℕ). PlainTo a.args.width a.args.gray.now a.args.out.now a.loop-k.out k) e a.loop-k.invariant

-- the samples behind the whole bytes, and zeros
module _ (w : ℕ) (gray : List ℕ) (there : w ≤ length gray) (at : ℕ) where
  abbrev row : ℕ → ℕ
  row i = row_sample w gray (at + i)

  abbrev cut : List ℕ
  cut = take (w - at) (drop at gray)

  cut-length : length cut ≡ w - at
  cut-length = length-take-le (w - at) (drop at gray) (omega (arith, there, length-drop at gray))

  cut_is : (i : ℕ) → get_or cut i 0 ≡ row i
  cut_is i =
      ⊎_elim
      (λ (l : at + i < w).
      get_or-take (w - at) (drop at gray) i 0 (omega arith) ∙ get_or-drop at gray i 0 ∙ sym (sample_in w gray (at + i) l))
      (λ (l : w ≤ at + i). get_or-eq_default cut 0 (omega (arith, cut-length)) ∙ sym (sample-past w gray (at + i) l))
      (lt-or-le (at + i) w)

  ending : bytes (samples_from cut 0) 8 ≡ bytes row 8
  ending = bytes-ext (samples_from cut 0) row 8 (λ i _. ap (λ (j : ℕ). get_or cut j 0) (zero-add i) ∙ cut_is i)

  row_small : ((i : ℕ) → get_or gray i 0 < 256) → Below 256 row
  row_small small i =
      ⊎_elim
      (λ (l : at + i < w). let a = small (at + i) in rw (sample_in w gray (at + i) l) a)
      (λ (l : w ≤ at + i). rw (sample-past w gray (at + i) l) (omega arith))
      (lt-or-le (at + i) w)

pub returns-then-gray-width : goal.returns-then-gray-width
returns-then-gray-width c =
    let a = c.args in
    row-missing a.width a.gray.now a.out.now (λ l k.
    elim c.then-gray-width.branch [
      | then-gray-width-via-then-gray-width w ↦ omega (arith, w.if-gray-width.true)
      | then-gray-width-via-else-gray-width+then-out-width w ↦ omega (arith, w.if-out-width.true)
    ])

pub loop-k-init : goal.loop-k-init
loop-k-init c = let a = c.args in plain-none a.width a.gray.now a.out.now

pub returns-then-not-plain_word : goal.returns-then-not-plain_word
returns-then-not-plain_word c =
    row-stopped c.if-out-width.false c.loop-k.invariant c.word-samples.result (samples_from c.args.gray.now (8 * c.loop-k.k))
    c.word-samples.ensures.1 c.word-samples.ensures.0 (held (goal.at.returns-then-not-plain_word c).In-loop-k)
    c.plain_word.result c.plain_word.ensures c.if-not-plain_word.true c.if-gray-width.false (omega (arith, c.loop-k-test.true))

pub loop-k-preserved : goal.loop-k-preserved
loop-k-preserved c =
    row-goes-on c.if-out-width.false c.loop-k.invariant c.word-samples.result (samples_from c.args.gray.now (8 * c.loop-k.k))
    c.word-samples.ensures.1 c.word-samples.ensures.0 (held (goal.at.loop-k-preserved c).In-loop-k)
    c.plain_word.result c.plain_word.ensures c.if-not-plain_word.false c.gathered.result c.gathered.ensures (omega arith)

pub returns-then-width-eq0 : goal.returns-then-width-eq0
returns-then-width-eq0 c =
    row_done c.if-out-width.false (ended (goal.at.returns-then-width-eq0 c).After-loop-k) c.if-gray-width.false
    (omega (arith, c.if-width-eq0.true))

pub returns-then-not-plain_word-2 : goal.returns-then-not-plain_word-2
returns-then-not-plain_word-2 c =
    let w = c.args.width in
    let gray = c.args.gray.now in
    let at = 8 * (w / 8) in
    row-stopped c.if-out-width.false (ended (goal.at.returns-then-not-plain_word-2 c).After-loop-k) c.few-samples.result
    (row w gray c.if-gray-width.false at) (row_small w gray c.if-gray-width.false at (λ i. omega (arith, c.type_inv.gray i)))
    (c.few-samples.ensures ∙ ending w gray c.if-gray-width.false at) (λ i _. refl) c.plain_word-2.result c.plain_word-2.ensures
    c.if-not-plain_word-2.true c.if-gray-width.false (omega (arith, c.if-width-eq0.false))

pub returns : goal.returns
returns c =
    let w = c.args.width in
    let gray = c.args.gray.now in
    let at = 8 * (w / 8) in
    row_done c.if-out-width.false
    (row-goes-on c.if-out-width.false (ended (goal.at.returns c).After-loop-k) c.few-samples.result
    (row w gray c.if-gray-width.false at) (row_small w gray c.if-gray-width.false at (λ i. omega (arith, c.type_inv.gray i)))
    (c.few-samples.ensures ∙ ending w gray c.if-gray-width.false at) (λ i _. refl) c.plain_word-2.result c.plain_word-2.ensures
    c.if-not-plain_word-2.false c.gathered-2.result c.gathered-2.ensures (omega (arith, c.if-width-eq0.false)))
    c.if-gray-width.false (omega arith)
