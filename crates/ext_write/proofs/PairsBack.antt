-- Pairs that were written are read back.
use Prim.Native.Nat.{ℕ, zero, suc, ◌+◌, ◌*◌, ◌/◌, ◌%◌, ◌≤◌, ◌<◌}
use mathlib.Core.Path.{◌≡◌, ◌∙◌, sym, ap, refl}
use mathlib.Core.Bool.{Bool, true, false}
use mathlib.Core.List.{List, [], ◌∷◌, ◌++◌, append_assoc}
use native.Mathlib.Omega.{arith}
use lib.Dec.{leb, eqb}
use lib.ListN.{length, get_or, length-append}
use lib.Seq.{slice, take-append-add, take-append_seam, drop-append_seam, get_or-append_seam}
use borrow.Author.Tests.{lt-ltb, le-ltb, lt-leb, le-leb, ne_eqb}
use Rattle.error.specs.Choice.{if}
use Rattle.error.specs.Answer.{Answer, gives, refuses, bind, map}
use Rattle.laws.proofs.Tests.{if-true, if-false}
use Rattle.ext.specs.Kinds.{Pair}
use Rattle.ext.specs.Classes.{is_char, is_alpha_digit, in_class}
use Rattle.ext.specs.Read.{PairAt, classed, pair_parts, read_pair, read_pairs}
use Rattle.ext_write.specs.Write.{pair_bytes}
use Rattle.ext.specs.Find.{pair_size}
use Rattle.ext_write.specs.Ceiling.{StartsBelow}
use Rattle.ext_write.proofs.PairVerdict.{PairPassed, pair-passed}
use Rattle.ext_write.proofs.PairsLaid.{laid, laid_cons}

-- the middle of three lists
slice-mid : (x y z : List ℕ) (a b : ℕ) → a ≡ length x → b ≡ length x + length y → slice a b (x ++ (y ++ z)) ≡ y
slice-mid x y z a b e f = rw (e, f, take-append-add x (y ++ z) (length y), take-append_seam y z) (drop-append_seam x y)

-- the header byte's parts
abbrev header : Bool → ℕ → ℕ → ℕ
header more i v = if more 128 0 + i * 16 + v

header-identifier : (more : Bool) (i v : ℕ) → i ≤ 7 → v ≤ 15 → header more i v / 16 % 8 ≡ i
header-identifier true i v h k = omega arith
header-identifier false i v h k = omega arith

header-value : (more : Bool) (i v : ℕ) → i ≤ 7 → v ≤ 15 → header more i v % 16 ≡ v
header-value true i v h k = omega arith
header-value false i v h k = omega arith

header-more : (more : Bool) (i v : ℕ) → i ≤ 7 → v ≤ 15 → leb 128 (header more i v) ≡ more
header-more true i v h k = le-leb 128 (128 + i * 16 + v) (omega arith)
header-more false i v h k = lt-leb 128 (0 + i * 16 + v) (omega arith)

-- reading may be less strict than writing was
eased : (strict strict' : Bool) (c : ℕ → Bool) (s : List ℕ) → (strict' ≡ true → strict ≡ true) → in_class strict c s ≡ true
    → in_class strict' c s ≡ true
eased strict true c s h e = ap (λ (b : Bool). in_class b c s) (sym (h refl)) ∙ e
eased strict false c s h e = refl

-- what is read of a pair, by its header's parts
abbrev read_with : Bool → List ℕ → ℕ → ℕ → ℕ → Bool → Answer PairAt
read_with strict s at i v more =
    if (eqb i 0) (refuses 11 (at + 1)) (if (eqb v 0) (refuses 12 (at + 1)) (pair_parts strict s more (at + 1) (at + 1 + i) (at + 1 + i + v)))

-- a pair after a prefix
abbrev back_at : Pair → Bool → List ℕ → PairAt
back_at p more q = record { pair = p; more = more; end = length q + 1 + length p.identifier + length p.value }

-- one pair, after a prefix and before the rest
module _ (strict strict' : Bool) (ease : strict' ≡ true → strict ≡ true) (p : Pair) (ok : PairPassed strict p) (more : Bool)
    (q z : List ℕ) where
  abbrev file : List ℕ
  file = q ++ (pair_bytes more p ++ z)

  file-length : length file ≡ length q + 1 + length p.identifier + length p.value + length z
  file-length =
      omega
      (arith, length-append q (pair_bytes more p ++ z), length-append (pair_bytes more p) z, length-append p.identifier p.value)

  file-flat : file ≡ q ++ (header more (length p.identifier) (length p.value) ∷ (p.identifier ++ (p.value ++ z)))
  file-flat = ap (λ (w : List ℕ). q ++ (header more (length p.identifier) (length p.value) ∷ w))
      (append_assoc p.identifier p.value z)

  identifier-back : slice (length q + 1) (length q + 1 + length p.identifier) file ≡ p.identifier
  identifier-back =
      let x = q ++ (header more (length p.identifier) (length p.value) ∷ []) in
      let n : length x ≡ length q + 1 = length-append q _ in
      ap
      (slice (length q + 1) (length q + 1 + length p.identifier))
      (file-flat ∙ sym (append_assoc q (header more (length p.identifier) (length p.value) ∷ []) (p.identifier ++ (p.value ++ z))))
      ∙ slice-mid x p.identifier (p.value ++ z) (length q + 1) (length q + 1 + length p.identifier) (sym n) (omega arith)

  value-back : slice (length q + 1 + length p.identifier) (length q + 1 + length p.identifier + length p.value) file ≡ p.value
  value-back =
      let x = q ++ (header more (length p.identifier) (length p.value) ∷ p.identifier) in
      let n : length x ≡ length q + suc (length p.identifier) = length-append q _ in
      ap
      (slice (length q + 1 + length p.identifier) (length q + 1 + length p.identifier + length p.value))
      (file-flat ∙ sym (append_assoc q (header more (length p.identifier) (length p.value) ∷ p.identifier) (p.value ++ z)))
      ∙ slice-mid x p.value z (length q + 1 + length p.identifier) (length q + 1 + length p.identifier + length p.value)
      (omega arith) (omega arith)

  header-back : get_or file (length q) 0 ≡ header more (length p.identifier) (length p.value)
  header-back = get_or-append_seam q (header more (length p.identifier) (length p.value)) (p.identifier ++ p.value ++ z) 0

  classes-back : classed strict' (back_at p more q) ≡ gives (back_at p more q)
  classes-back =
      if-true _ _ _ (eased strict strict' is_char p.identifier ease ok.identifier_class)
      ∙ if-true _ _ _ (eased strict strict' is_alpha_digit p.value ease ok.value_class)

  parts-back : pair_parts strict' file more (length q + 1) (length q + 1 + length p.identifier)
      (length q + 1 + length p.identifier + length p.value) ≡ gives (back_at p more q)
  parts-back =
      if-false _ _ _ (le-ltb (length file) (length q + 1 + length p.identifier) (omega (arith, file-length)))
      ∙ if-false _ _ _ (le-ltb (length file) (length q + 1 + length p.identifier + length p.value) (omega (arith, file-length)))
      ∙ rw (identifier-back, value-back) classes-back

  pub pair-back : read_pair strict' file (length q) ≡ gives (back_at p more q)
  unfolding read_pair
  pair-back =
      ap (λ (h : ℕ). read_with strict' file (length q) (h / 16 % 8) (h % 16) (leb 128 h)) header-back
      ∙ rw (
        header-identifier more (length p.identifier) (length p.value) ok.identifier_most ok.value_most,
        header-value more (length p.identifier) (length p.value) ok.identifier_most ok.value_most,
        header-more more (length p.identifier) (length p.value) ok.identifier_most ok.value_most,
      )
      (if-false _ _ _ (ne_eqb (length p.identifier) 0 (λ e. omega (arith, ok.identifier_some)))
      ∙ if-false _ _ _ (ne_eqb (length p.value) 0 (λ e. omega (arith, ok.value_some)))
      ∙ parts-back)

-- what follows a pair that was read
abbrev followed : ℕ → Bool → List ℕ → ℕ → PairAt → Bool → Answer (List Pair × ℕ)
followed most strict s start r more =
    elim more [ true ↦ map (λ x. (r.pair ∷ x.0, x.1)) (read_pairs most strict s start r.end) | false ↦ gives (r.pair ∷ [], r.end) ]

pairs-in : (most : ℕ) (strict : Bool) (s : List ℕ) (start at : ℕ) (r : PairAt) → at < length s → at < start + 4096
    → read_pair strict s at ≡ gives r
    → read_pairs (suc most) strict s start at ≡ followed most strict s start r r.more
unfolding read_pairs
pairs-in most strict s start at r h k e =
    ap
    (λ (t : Bool). elim t [
      | true ↦ refuses 9 at
      | false ↦
          elim (leb (start + 4096) at) [
            | true ↦ refuses 10 at
            | false ↦ bind (read_pair strict s at) (λ p. followed most strict s start p p.more)
          ]
    ])
    (lt-leb (length s) at h)
    ∙ ap
    (λ (t : Bool). elim t [
      | true ↦ refuses 10 at
      | false ↦ bind (read_pair strict s at) (λ p. followed most strict s start p p.more)
    ])
    (lt-leb (start + 4096) at k)
    ∙ ap (λ (a : Answer PairAt). bind a (λ p. followed most strict s start p p.more)) e

module _ (strict strict' : Bool) (ease : strict' ≡ true → strict ≡ true) (s : List ℕ) (start : ℕ) where
  -- a first pair after a prefix q, `past` past the start
  first_back : (p : Pair) (more : Bool) (q z : List ℕ) (past most : ℕ) → PairPassed strict p → s ≡ q ++ (pair_bytes more p ++ z)
      → length q ≡ start + past → past < 4096
      → read_pairs (suc most) strict' s start (length q) ≡ followed most strict' s start (back_at p more q) more
  first_back p more q z past most ok e n h =
      let f = file-length strict strict' ease p ok more q z in
      let l : length s ≡ length (q ++ (pair_bytes more p ++ z)) = ap length e in
      pairs-in most strict' s start (length q) (back_at p more q) (omega arith) (omega arith)
      (ap (λ (w : List ℕ). read_pair strict' w (length q)) e ∙ pair-back strict strict' ease p ok more q z)

  pub pairs-back : (ps : List Pair) (bytes q τ : List ℕ) (past most : ℕ) → 0 < length ps → laid strict ps ≡ gives bytes
      → s ≡ q ++ (bytes ++ τ) → length q ≡ start + past
      → StartsBelow past ps → length ps ≤ most → read_pairs most strict' s start (length q) ≡ gives (ps, length q + length bytes)
  pairs-back [] bytes q τ past most some e f n b h = absurd (omega arith)
  pairs-back (p ∷ ps) bytes q τ past zero some e f n b h = absurd (omega arith)
  pairs-back (p ∷ []) bytes q τ past (suc most) some e f n b h =
      let k = laid_cons strict p [] bytes e in
      let r : k.rest ≡ [] = cc k.rest_is in
      let g : s ≡ q ++ (pair_bytes false p ++ (k.rest ++ τ)) = f ∙ ap (λ (w : List ℕ). q ++ (w ++ τ)) k.bytes_are
      ∙ ap (λ (w : List ℕ). q ++ w) (append_assoc (pair_bytes false p) k.rest τ) in
      let l : length bytes ≡ suc (length ((p.identifier ++ p.value) ++ k.rest)) = ap length k.bytes_are in
      let z : length k.rest ≡ 0 = ap length r in
      let m : length q + 1 + length p.identifier + length p.value ≡ length q + length bytes
      = omega (arith, length-append (p.identifier ++ p.value) k.rest, length-append p.identifier p.value) in
      first_back p false q (k.rest ++ τ) past most (pair-passed strict p k.accepts) g n b.0 ∙ ap (λ (end : ℕ). gives (p ∷ [], end)) m
  pairs-back (p ∷ p' ∷ ps) bytes q τ past (suc most) some e f n b h =
      let k = laid_cons strict p (p' ∷ ps) bytes e in
      let y : bytes ≡ pair_bytes true p ++ k.rest
      = k.bytes_are ∙ ap (λ (more : Bool). pair_bytes more p ++ k.rest) (lt-ltb 0 (length (p' ∷ ps)) (omega arith)) in
      let g : s ≡ q ++ (pair_bytes true p ++ (k.rest ++ τ)) = f ∙ ap (λ (w : List ℕ). q ++ (w ++ τ)) y
      ∙ ap (λ (w : List ℕ). q ++ w) (append_assoc (pair_bytes true p) k.rest τ) in
      let l : length bytes ≡ suc (length ((p.identifier ++ p.value) ++ k.rest)) = ap length y in
      let c : length (q ++ pair_bytes true p) ≡ length q + suc (length (p.identifier ++ p.value)) = length-append q (pair_bytes true p) in
      let m : length q + 1 + length p.identifier + length p.value ≡ length (q ++ pair_bytes true p) =
      omega (arith, length-append p.identifier p.value) in
      let o : length (q ++ pair_bytes true p) + length k.rest ≡ length q + length bytes =
      omega (arith, length-append (p.identifier ++ p.value) k.rest) in
      first_back p true q (k.rest ++ τ) past most (pair-passed strict p k.accepts) g n b.0
      ∙ ap (λ (end : ℕ). map (λ (x : List Pair × ℕ). (p ∷ x.0, x.1)) (read_pairs most strict' s start end)) m
      ∙ ap
      (map (λ (x : List Pair × ℕ). (p ∷ x.0, x.1)))
      (pairs-back (p' ∷ ps) k.rest (q ++ pair_bytes true p) τ (past + pair_size p) most (omega arith) k.rest_is
      (g ∙ sym (append_assoc q (pair_bytes true p) (k.rest ++ τ)))
      (omega arith)
      b.1
      (omega arith))
      ∙ ap (λ (end : ℕ). gives (p ∷ p' ∷ ps, end)) o
