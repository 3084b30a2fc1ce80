-- One byte of an integer: what is known from what it did, and what it does where the tests are known.
use Rattle.std.proofs.Common.{◌≡◌, ℕ, ◌+◌, ◌*◌, ◌%◌, ◌<◌, ◌≤◌, Bool, true, false, ◌&&◌, eqb, ltb, refl, ap, subst, arith, ltb-false, ltb-true, le-ltb, lt-ltb, eq-eqb, eqb-true}
use Rattle.error.specs.Choice.{if}
use Rattle.error.specs.Answer.{is_end}
use Rattle.laws.proofs.Tests.{zero_one}
use Rattle.mbi.specs.Read.{ByteRead, goes, ends, wrong, read_byte}
use Rattle.mbi.specs.Internal.Step.{in_word}

-- a byte b that was taken after n others, the value going from v to w
pub record ByteTaken (strict : Bool) (v n b w : ℕ) : Type 0 where
  pub value : w ≡ v * 128 + b % 128
  pub small : w ≤ 4294967295
  pub few : n < 7
  pub free : strict ≡ true → n ≡ 0 → b ≡ 128 → ⊥

module _ (strict : Bool) (v n b : ℕ) where
  -- what is known from what a byte did: it is refused with 2, 3 or 4, and with 3 only after seven others
  abbrev pub Known : ByteRead → Type 0
  Known (goes w) = ByteTaken strict v n b w × (128 ≤ b)
  Known (ends w) = ByteTaken strict v n b w × (b < 128)
  Known (wrong code p) = (is_end code ≡ false) × (code ≡ 3 → 7 ≤ n)

  abbrev leads : Bool
  leads = strict && eqb n 0 && eqb b 128

  abbrev more : ℕ
  more = v * 128 + b % 128

  -- a byte that passed the three tests
  taken : leads ≡ false → ltb 4294967295 more ≡ false → ltb 7 (n + 1) ≡ false → ByteTaken strict v n b more
  taken p q r =
      record {
        value = refl;
        small = ltb-false 4294967295 more q;
        few = omega (arith, ltb-false 7 (n + 1) r);
        free = λ s z e. let t : leads ≡ true = rw (s, eq-eqb n 0 z, eq-eqb b 128 e) in zero_one (cc);
      }

  pub known : (at : ℕ) (x : ByteRead) → read_byte strict at v n b ≡ x → Known x
  unfolding read_byte
  known at x e = subst Known e (go leads (ltb 4294967295 more) (ltb 7 (n + 1)) (ltb b 128) refl refl refl refl)
    where
      go : (t1 t2 t3 t4 : Bool) → leads ≡ t1 → ltb 4294967295 more ≡ t2 → ltb 7 (n + 1) ≡ t3 → ltb b 128 ≡ t4
          → Known (if t1 (wrong 4 at) (if t2 (wrong 2 (at + 1)) (if t3 (wrong 3 (at + 1)) (if t4 (ends more) (goes more)))))
      go true t2 t3 t4 p q r s = (refl, λ k. omega arith)
      go false true t3 t4 p q r s = (refl, λ k. omega arith)
      go false false true t4 p q r s = (refl, λ k. omega (arith, ltb-true 7 (n + 1) r))
      go false false false true p q r s = (taken p q r, ltb-true b 128 s)
      go false false false false p q r s = (taken p q r, ltb-false b 128 s)

  -- the other way round, for a byte that does not lead with 0x80
  module _ (at : ℕ) (free : n ≡ 0 → b ≡ 128 → ⊥) (small : v * 128 + b % 128 ≤ 4294967295) (few : n < 7) where
    not-leads : leads ≡ false
    not-leads = go strict (eqb n 0) (eqb b 128) refl refl
      where
        go : (t u w : Bool) → eqb n 0 ≡ u → eqb b 128 ≡ w → (t && u && w) ≡ false
        go false u w p q = refl
        go true false w p q = refl
        go true true false p q = refl
        go true true true p q = absurd (free (eqb-true n 0 p) (eqb-true b 128 q))

    pub ends_by : b < 128 → read_byte strict at v n b ≡ ends (v * 128 + b % 128)
    unfolding read_byte
    ends_by h = simp (not-leads, le-ltb _ _ small, lt-ltb _ _ h, le-ltb 7 (n + 1) (omega arith))

    pub goes_by : 128 ≤ b → read_byte strict at v n b ≡ goes (v * 128 + b % 128)
    unfolding read_byte
    goes_by h = simp (not-leads, le-ltb _ _ small, le-ltb _ _ h, le-ltb 7 (n + 1) (omega arith))

-- the offset of a byte, and the one after it, are within 64 bits
pub word-is : (strict : Bool) (at v n b : ℕ) → at < 18446744073709551615 → in_word (read_byte strict at v n b) ≡ read_byte strict at v n b
unfolding read_byte
word-is strict at v n b h =
    go (strict && eqb n 0 && eqb b 128) (ltb 4294967295 (v * 128 + b % 128)) (ltb 7 (n + 1)) (ltb b 128)
  where
    small : (code p : ℕ) → p < 18446744073709551616 → wrong code (p % 18446744073709551616) ≡ wrong code p
    small code p l = let q : p % 18446744073709551616 ≡ p = omega arith in ap (wrong code) q

    go : (t1 t2 t3 t4 : Bool)
        → in_word (if t1 (wrong 4 at)
        (if t2 (wrong 2 (at + 1)) (if t3 (wrong 3 (at + 1)) (if t4 (ends (v * 128 + b % 128)) (goes (v * 128 + b % 128))))))
        ≡ if t1 (wrong 4 at)
        (if t2 (wrong 2 (at + 1)) (if t3 (wrong 3 (at + 1)) (if t4 (ends (v * 128 + b % 128)) (goes (v * 128 + b % 128)))))
    go true t2 t3 t4 = small 4 at (omega arith)
    go false true t3 t4 = small 2 (at + 1) (omega arith)
    go false false true t4 = small 3 (at + 1) (omega arith)
    go false false false true = refl
    go false false false false = refl
