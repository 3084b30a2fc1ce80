-- Strict reading "succeeds exactly where the bytes begin with the writer's output for some u32, and returns that number. It never gives
-- 3." (document 01, mbi.rs)
use Rattle.std.proofs.Common.{◌≡◌, ℕ, zero, suc, ◌+◌, ◌-◌, ◌/◌, ◌%◌, ◌<◌, ◌≤◌, true, ◌↔◌, List, [], ◌∷◌, ◌++◌, length, drop, sym, refl, ap, ◌∙◌, arith, drop-drop}
use Rattle.error.specs.Answer.{gives, refuses}
use Rattle.laws.proofs.Answers.{gives-pair}
use Rattle.laws.proofs.Octets.{Octets, octets-by, octets-drop}
use Rattle.laws.proofs.Tests.{zero_one}
use Rattle.mbi.specs.Bytes.{mbi_bytes}
use Rattle.mbi.specs.Read.{ByteRead, goes, ends, wrong, read_byte, read_rest, read_mbi, upon}
use Rattle.mbi.proofs.Groups.{above, count, above_zero, count-zero}
use Rattle.mbi.proofs.Groups.{above-group, count-group, length_above, groups-append, bytes-above}
use Rattle.mbi.proofs.Length.{count-le}
use Rattle.mbi.proofs.Step.{ByteTaken, known}
use Rattle.mbi.proofs.Continuation.{found, rest-cons, rest-integer}
use Rattle.mbi.proofs.RoundTrip.{read-bytes}

-- one byte after n others that are the groups of v
module _ (at v n b w : ℕ) (c : n ≡ count v) where
  -- it is the next group of w
  module _ (o : b < 256) (e : read_byte true at v n b ≡ goes w) where
    positive : 0 < w
    positive = go w (known true v n b at (goes w) e)
      where
        go : (w : ℕ) → ByteTaken true v n b w × (128 ≤ b) → 0 < w
        go zero t = absurd (t.0.free refl (c ∙ count-zero v (omega (arith, t.0.value))) (omega (arith, t.0.value)))
        go (suc w) t = omega arith

    goes-group : (τ : List ℕ) → above w τ ≡ above v (b ∷ τ)
    goes-group τ =
        let t = known true v n b at (goes w) e in
        let p : w / 128 ≡ v = omega (arith, t.0.value) in
        let q : 128 + w % 128 ≡ b = omega (arith, t.0.value) in
        above-group w τ positive ∙ rw (p, q)

    goes-count : n + 1 ≡ count w
    goes-count =
        let t = known true v n b at (goes w) e in
        let p : w / 128 ≡ v = omega (arith, t.0.value) in
        sym (count-group w positive ∙ rw (p, ← c))

  -- it is the last byte of w
  ends-bytes : read_byte true at v n b ≡ ends w → mbi_bytes w ≡ above v (b ∷ [])
  ends-bytes e =
      let t = known true v n b at (ends w) e in
      let p : w / 128 ≡ v = omega (arith, t.0.value) in
      let q : w % 128 ≡ b = omega (arith, t.0.value) in
      bytes-above w ∙ rw (p, q)

-- what was read from `at` on, where the groups of u stood before it
record Finds (u : ℕ) (τ : List ℕ) (at v e : ℕ) : Type 0 where
  small : v ≤ 4294967295
  starts : above u τ ≡ mbi_bytes v ++ drop (e - at) τ
  after : at < e
  place : e + count u ≡ at + length (mbi_bytes v)

finds : (τ : List ℕ) (at u n : ℕ) → Octets τ → n ≡ count u → (v e : ℕ) → read_rest true τ at u n ≡ gives (v, e) → Finds u τ at v e
unfolding read_rest
finds [] at u n o c v e h = zero_one (cc)
finds (b ∷ τ) at u n o c v e h =
    go (read_byte true at u n b) refl (sym (rest-cons true b τ at u n) ∙ h) (λ w d. finds τ (at + 1) w (n + 1) (λ i. o (suc i)) d v e)
  where
    go : (x : ByteRead) → read_byte true at u n b ≡ x
        → upon x (λ w. read_rest true τ (at + 1) w (n + 1)) (λ w. gives (w, at + 1)) ≡ gives (v, e)
        → ((w : ℕ) → n + 1 ≡ count w → read_rest true τ (at + 1) w (n + 1) ≡ gives (v, e) → Finds w τ (at + 1) v e)
        → Finds u (b ∷ τ) at v e
    go (goes w) p k ih =
        let f = ih w (goes-count at u n b w c (o 0) p) k in
        let d : e - at ≡ suc (e - (at + 1)) = omega (arith, f.after) in
        record {
          small = f.small;
          starts = sym (goes-group at u n b w c (o 0) p τ) ∙ f.starts ∙ ap (λ (i : ℕ). mbi_bytes v ++ drop i (b ∷ τ)) (sym d);
          after = omega (arith, f.after);
          place = omega (arith, f.place, goes-count at u n b w c (o 0) p);
        }
    go (ends w) p k ih =
        let z : (w ≡ v) × (at + 1 ≡ e) = gives-pair k in
        let d : e - at ≡ 1 = omega arith in
        let t = known true u n b at (ends w) p in
        let l : mbi_bytes v ≡ above u (b ∷ []) = ap mbi_bytes (sym z.0) ∙ ends-bytes at u n b w c p in
        record {
          small = omega (arith, t.0.small);
          starts =
              groups-append u u (b ∷ []) τ ∙ ap (λ (r : List ℕ). r ++ τ) (sym l) ∙ ap (λ (i : ℕ). mbi_bytes v ++ drop i (b ∷ τ)) (sym d);
          after = omega arith;
          place = omega (arith, ap length l, length_above u (b ∷ []));
        }
    go (wrong code i) p k ih = zero_one (cc)

-- after the groups of u, a number of 32 bits, an integer is not too long
three : (τ : List ℕ) (at u n : ℕ) → Octets τ → n ≡ count u → u ≤ 4294967295 → (p : ℕ) → read_rest true τ at u n ≡ refuses 3 p → ⊥
unfolding read_rest
three [] at u n o c l p h = zero_one (cc)
three (b ∷ τ) at u n o c l p h =
    go (read_byte true at u n b) refl (sym (rest-cons true b τ at u n) ∙ h) (λ w d k. three τ (at + 1) w (n + 1) (λ i. o (suc i)) d k p)
  where
    go : (x : ByteRead) → read_byte true at u n b ≡ x
        → upon x (λ w. read_rest true τ (at + 1) w (n + 1)) (λ w. gives (w, at + 1)) ≡ refuses 3 p
        → ((w : ℕ) → n + 1 ≡ count w → w ≤ 4294967295 → read_rest true τ (at + 1) w (n + 1) ≡ refuses 3 p → ⊥)
        → ⊥
    go (goes w) e k ih = ih w (goes-count at u n b w c (o 0) e) (known true u n b at (goes w) e).0.small k
    go (ends w) e k ih = zero_one (cc)
    go (wrong code i) e k ih =
        let j : code ≡ 3 = cc in
        omega (arith, (known true u n b at (wrong code i) e).1 j, count-le 5 u (omega arith))

-- the bytes of s from `at` on begin with the writer's output for v, which ends at e
pub record Begins (s : List ℕ) (at v e : ℕ) : Type 0 where
  pub small : v < 4294967296
  pub bytes : drop at s ≡ mbi_bytes v ++ drop e s
  pub after : e ≡ at + length (mbi_bytes v)

module _ (s : List ℕ) (at : ℕ) (o : Octets s) where
  pub strict-exactly : (v e : ℕ) → (read_mbi true s at ≡ gives (v, e)) ↔ Begins s at v e
  strict-exactly v e = (only, all)
    where
      only : read_mbi true s at ≡ gives (v, e) → Begins s at v e
      only h =
          let f = finds (drop at s) at 0 0 (octets-drop at s o) (sym (count-zero 0 refl)) v e h in
          let d : at + (e - at) ≡ e = omega (arith, f.after) in
          record {
            small = omega (arith, f.small);
            bytes =
                sym (above_zero 0 (drop at s) refl) ∙ f.starts
                ∙ ap (λ (l : List ℕ). mbi_bytes v ++ l) (drop-drop (e - at) at s ∙ ap (λ (i : ℕ). drop i s) d);
            after = omega (arith, f.place, count-zero 0 refl);
          }

      all : Begins s at v e → read_mbi true s at ≡ gives (v, e)
      all w =
          ap (λ (l : List ℕ). read_rest true l at 0 0) w.bytes ∙ rest-integer true (mbi_bytes v ++ drop e s) at 0 0
          ∙ read-bytes true found v at (drop e s) w.small ∙ ap (λ (i : ℕ). gives (v, i)) (sym w.after)

  pub strict-short : (p : ℕ) → read_mbi true s at ≡ refuses 3 p → ⊥
  strict-short p h = three (drop at s) at 0 0 (octets-drop at s o) (sym (count-zero 0 refl)) (omega arith) p h

-- 128 at the second byte
example : Begins (5 ∷ 129 ∷ 0 ∷ 9 ∷ []) 1 128 3
unfolding read_rest read_byte
example = (strict-exactly (5 ∷ 129 ∷ 0 ∷ 9 ∷ []) 1 (octets-by (5 ∷ 129 ∷ 0 ∷ 9 ∷ []) refl) 128 3).0 refl
