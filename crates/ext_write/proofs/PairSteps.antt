-- The two steps over pairs, and a run of each: by two lengths more.
use Prim.Native.Nat.{ℕ, ◌+◌, ◌*◌, ◌-◌, ◌≤◌, ◌<◌}
use mathlib.Core.Path.{◌≡◌, ◌∙◌, sym, ap, refl}
use mathlib.Core.Bool.{Bool, true, false}
use mathlib.Core.List.{List, [], ◌∷◌, append_assoc}
use native.Mathlib.Nat.{add-zero}
use native.Mathlib.Numerals.{add-one}
use native.Mathlib.Omega.{arith}
use lib.Dec.{ltb}
use lib.ListN.{length, get_or, take, drop, set, length-drop, drop_of_length-le}
use lib.Seq.{sets, sets-eq, drop-drop, get_or-drop, take-add}
use borrow.Rule.Slice.PartMut.{put_mid}
use borrow.Author.Tests.{lt-ltb, le-ltb, le-leb, lt-leb, ltb-true, ltb-false}
use Rattle.error.specs.Choice.{if}
use Rattle.laws.proofs.Lists.{length_part}
use Rattle.laws.proofs.Tests.{if-true, if-false}
use Rattle.ext_write.specs.Write.{pair_bytes}
use Rattle.ext_write.specs.Internal.Steps.{Checking, lent_pair, start_after, first_code, check_step, check_pairs}
use Rattle.ext_write.specs.Internal.Steps.{can_put, put_step, put_output, put_pairs}
use Rattle.ext_write.specs.declared.PairsPut.{PairsPut}

-- what is left of the lengths
module _ (lengths : List ℕ) (k : ℕ) where
  pub left-some : k < length lengths → 0 < length (drop k lengths)
  left-some h = omega (arith, length-drop k lengths)

  pub left-more : ltb 0 (length (drop k lengths)) ≡ ltb k (length lengths)
  left-more = rw length-drop (more (length lengths) k (ltb k (length lengths)) refl)
    where
      more : (n j : ℕ) (b : Bool) → ltb j n ≡ b → ltb 0 (n - j) ≡ ltb j n
      more n j true e = let h = ltb-true j n e in lt-ltb 0 (n - j) (omega arith) ∙ sym e
      more n j false e = let h = ltb-false j n e in le-ltb 0 (n - j) (omega arith) ∙ sym e

module _ (strict : Bool) (text : List ℕ) where
  check-two : (ls : List ℕ) (s : Checking) → 0 < length ls
      → check_pairs strict text ls s ≡ check_pairs strict text (drop 2 ls) (check_step strict text s (get_or ls 0 0) (get_or ls 1 0))
  unfolding check_pairs
  check-two [] s h = absurd (omega arith)
  check-two (i ∷ []) s h = refl
  check-two (i ∷ v ∷ ls) s h = refl

  check-more : (lengths : List ℕ) (k : ℕ) (s : Checking) → k < length lengths
      → check_pairs strict text (drop k lengths) s
      ≡ check_pairs strict text (drop (k + 2) lengths) (check_step strict text s (get_or lengths k 0) (get_or lengths (k + 1) 0))
  check-more lengths k s h =
      check-two (drop k lengths) s (left-some lengths k h)
      ∙ rw (drop-drop 2 k lengths, get_or-drop k lengths 0 0, get_or-drop k lengths 1 0, add-zero) refl

  pub check-goes : (lengths : List ℕ) (k : ℕ) (s s' : Checking) (i v : ℕ) → k < length lengths → i ≡ get_or lengths k 0
      → v ≡ get_or lengths (k + 1) 0
      → s' ≡ check_step strict text s i v → check_pairs strict text (drop k lengths) s ≡ check_pairs strict text (drop (k + 2) lengths) s'
  check-goes lengths k s s' i v h e f g = check-more lengths k s h ∙ (cc)

  pub check-end : (lengths : List ℕ) (k : ℕ) (s : Checking) → length lengths ≤ k → check_pairs strict text (drop k lengths) s ≡ s
  unfolding check_pairs
  check-end lengths k s h = rw (drop_of_length-le lengths h) refl

module _ (text : List ℕ) where
  put_two : (ls out : List ℕ) (s : PairsPut) → 0 < length ls
      → put_pairs text ls out s
      ≡ put_pairs text (drop 2 ls) (put_output text out s (get_or ls 0 0) (get_or ls 1 0) (ltb 0 (length (drop 2 ls))))
      (put_step text out s (get_or ls 0 0) (get_or ls 1 0))
  unfolding put_pairs
  put_two [] out s h = absurd (omega arith)
  put_two (i ∷ []) out s h = refl
  put_two (i ∷ v ∷ ls) out s h = refl

  put-more : (lengths : List ℕ) (k : ℕ) (out : List ℕ) (s : PairsPut) → k < length lengths
      → put_pairs text (drop k lengths) out s
      ≡ put_pairs text (drop (k + 2) lengths) (put_output text out s (get_or lengths k 0) (get_or lengths (k + 1) 0)
      (ltb (k + 2) (length lengths))) (put_step text out s (get_or lengths k 0) (get_or lengths (k + 1) 0))
  put-more lengths k out s h =
      put_two (drop k lengths) out s (left-some lengths k h)
      ∙ rw (drop-drop 2 k lengths, get_or-drop k lengths 0 0, get_or-drop k lengths 1 0, add-zero, left-more lengths (k + 2)) refl

  pub put-goes : (lengths : List ℕ) (k : ℕ) (out out' : List ℕ) (s s' : PairsPut) (i v : ℕ) → k < length lengths
      → i ≡ get_or lengths k 0 → v ≡ get_or lengths (k + 1) 0
      → s' ≡ put_step text out s i v → out' ≡ put_output text out s i v (ltb (k + 2) (length lengths))
      → put_pairs text (drop k lengths) out s ≡ put_pairs text (drop (k + 2) lengths) out' s'
  put-goes lengths k out out' s s' i v h e f g o = put-more lengths k out s h ∙ (cc)

  pub put-end : (lengths : List ℕ) (k : ℕ) (out : List ℕ) (s : PairsPut) → length lengths ≤ k → put_pairs text (drop k lengths) out s ≡ out
  unfolding put_pairs
  put-end lengths k out s h = rw (drop_of_length-le lengths h) refl

-- `k` bytes of the text stored in a part of a list
pub put-copied : (text l part : List ℕ) (at to n m k : ℕ) → n ≡ k → m ≡ k → at + k ≤ length text → to + k ≤ length l
    → part ≡ take m (drop at text) → put_mid to n l part ≡ sets l to (take k (drop at text))
put-copied text l part at to n m k e f h g q =
    let long = length_part k at text h in
    rw (q, e, f)
    (sym (sets-eq (take k (drop at text)) l to (omega (arith, long)) ∙ append_assoc (take to l) _ _ ∙ rw (long, drop-drop k to l) refl))

-- one step of a check
module _ (strict : Bool) (text : List ℕ) (s : Checking) (i v : ℕ) where
  pub step_past : length text < s.at + i + v → record { at = s.at; start = s.start; code = 31 } ≡ check_step strict text s i v
  unfolding check_step
  step_past h = sym (if-false _ _ _ (lt-leb _ _ h))

  module _ (h : s.at + i + v ≤ length text) where
    -- what it comes to with a number
    abbrev next : ℕ → Checking
    next code = record { at = s.at + i + v; start = start_after s.start i v; code = code }

    pub step-within : (start code : ℕ) → start ≡ start_after s.start i v
        → code ≡ first_code strict s.code (lent_pair text s.at i v)
        → record { at = s.at + i + v; start = start; code = code } ≡ check_step strict text s i v
    unfolding check_step
    step-within start code f g =
        ap (λ (m : ℕ). record { at = s.at + i + v; start = m; code = code }) f ∙ ap next g ∙ sym (if-true _ _ _ (le-leb _ _ h))

-- one step of a put
module _ (text out : List ℕ) (s : PairsPut) (i v : ℕ) where
  pub long-identifier : 7 < i → can_put text out s i v ≡ false
  unfolding can_put
  long-identifier h = rw (lt-leb i 7 h)

  pub long-value : i ≤ 7 → 15 < v → can_put text out s i v ≡ false
  unfolding can_put
  long-value h k = rw (le-leb i 7 h, lt-leb v 15 k)

  pub short-text : i ≤ 7 → v ≤ 15 → length text < s.at + i + v → can_put text out s i v ≡ false
  unfolding can_put
  short-text h k t = rw (le-leb i 7 h, le-leb v 15 k, lt-leb (s.at + i + v) (length text) t)

  pub no_room : i ≤ 7 → v ≤ 15 → s.at + i + v ≤ length text → length out < s.to + 1 + i + v → can_put text out s i v ≡ false
  unfolding can_put
  no_room h k t r = rw (le-leb i 7 h, le-leb v 15 k, le-leb (s.at + i + v) (length text) t, lt-leb (s.to + 1 + i + v) (length out) r)

  pub room : i ≤ 7 → v ≤ 15 → s.at + i + v ≤ length text → s.to + 1 + i + v ≤ length out → can_put text out s i v ≡ true
  unfolding can_put
  room h k t r = rw (le-leb i 7 h, le-leb v 15 k, le-leb (s.at + i + v) (length text) t, le-leb (s.to + 1 + i + v) (length out) r)

  module _ (more : Bool) where
    pub cannot-put : can_put text out s i v ≡ false → (s ≡ put_step text out s i v) × (out ≡ put_output text out s i v more)
    unfolding put_step put_output
    cannot-put e = (sym (if-false _ _ _ e), sym (if-false _ _ _ e))

    pub put-bytes : can_put text out s i v ≡ true
        → put_output text out s i v more ≡ sets out s.to (pair_bytes more (lent_pair text s.at i v))
    unfolding put_output
    put-bytes e = if-true _ _ _ e

  pub put_next : can_put text out s i v ≡ true → put_step text out s i v ≡ record { at = s.at + i + v; to = s.to + 1 + i + v }
  unfolding put_step
  put_next e = if-true _ _ _ e

-- a pair's bytes by its lengths: identifier and value stand side by side in the text
pub lent-bytes : (text : List ℕ) (at i v : ℕ) (more : Bool) → at + i + v ≤ length text
    → pair_bytes more (lent_pair text at i v) ≡ (if more 128 0 + i * 16 + v) ∷ take (i + v) (drop at text)
lent-bytes text at i v more h =
    let e = length_part i at text (omega arith) in
    let f = length_part v (at + i) text h in
    rw (e, f, take-add i v (drop at text), drop-drop i at text) refl

-- the pair that two parts of the text make, as the code cuts them
pub parts-pair : (strict : Bool) (code : ℕ) (text : List ℕ) (at i v : ℕ)
    → first_code strict code
    (record { identifier = take (at + i - at) (drop at text); value = take (at + i + v - (at + i)) (drop (at + i) text) })
    ≡ first_code strict code (lent_pair text at i v)
parts-pair strict code text at i v =
    let e : at + i - at ≡ i = omega arith in
    let f : at + i + v - (at + i) ≡ v = omega arith in
    rw (e, f) refl

-- a header byte and a copy put a pair
module _ (text out : List ℕ) (s : PairsPut) (i v : ℕ) (more : Bool) (q : can_put text out s i v ≡ true) where
  pub put-moves : record { at = s.at + (i + v); to = s.to + 1 + (i + v) } ≡ put_step text out s i v
  put-moves =
      let e : s.at + (i + v) ≡ s.at + i + v = omega arith in
      let f : s.to + 1 + (i + v) ≡ s.to + 1 + i + v = omega arith in
      rw (e, f) (sym (put_next text out s i v q))

  pub put-done : (header : ℕ) → header ≡ if more 128 0 + i * 16 + v → s.at + i + v ≤ length text
      → sets (set out s.to header) (s.to + 1) (take (i + v) (drop s.at text)) ≡ put_output text out s i v more
  put-done header e h =
      rw (e, add-one s.to) refl
      ∙ ap (λ (bytes : List ℕ). sets out s.to bytes) (sym (lent-bytes text s.at i v more h))
      ∙ sym (put-bytes text out s i v more q)
