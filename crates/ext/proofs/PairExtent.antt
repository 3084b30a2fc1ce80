-- Where the parts of a pair stand that was read.
use Prim.Native.Nat.{ℕ, ◌+◌, ◌/◌, ◌%◌, ◌<◌, ◌≤◌}
use mathlib.Core.Path.{◌≡◌, refl, sym, ap, subst}
use mathlib.Core.List.{List}
use mathlib.Core.Bool.{Bool, true, false}
use native.Mathlib.Omega.{arith}
use borrow.Author.Tests.{ltb-false, eqb-false}
use lib.Dec.{ltb, leb, eqb}
use lib.ListN.{length, get_or}
use lib.Seq.{slice}
use Rattle.error.specs.Choice.{if}
use Rattle.error.specs.Answer.{gives, refuses, map}
use Rattle.laws.proofs.Answers.{map_gives}
use Rattle.laws.proofs.Tests.{zero_one}
use Rattle.ext.specs.Classes.{is_char, is_alpha_digit, in_class}
use Rattle.ext.specs.Read.{PairAt, read_pair}
use Rattle.ext.specs.Kinds.{pair_header}
use Rattle.ext.specs.Internal.Pairwise.{pair_step, pair_behind}

-- the lengths in a pair's header byte
abbrev pub identifier_size : ℕ → ℕ
identifier_size h = h / 16 % 8

abbrev pub value_size : ℕ → ℕ
value_size h = h % 16

-- the pair whose header byte stands at `at`, where the file has all of it
abbrev pub whole_pair : List ℕ → ℕ → PairAt
whole_pair s at =
    let h = get_or s at 0 in
    let b = at + 1 + identifier_size h in
    let e = b + value_size h in
    record { pair = record { identifier = slice (at + 1) b s; value = slice b e s }; more = leb 128 h; end = e }

-- the same behind a header byte that was taken apart
pub read_behind : (strict : Bool) (s : List ℕ) (at : ℕ) → pair_behind strict s (at + 1) (pair_header (get_or s at 0)) ≡ read_pair strict s at
unfolding pair_behind read_pair
read_behind strict s at = refl

-- a pair of a file s, whose header byte h stands at `at`
pub record PairIn (s : List ℕ) (h at : ℕ) (p : PairAt) : Type 0 where
  pub identifier_is : p.pair.identifier ≡ slice (at + 1) (at + 1 + identifier_size h) s
  pub value_is : p.pair.value ≡ slice (at + 1 + identifier_size h) (at + 1 + identifier_size h + value_size h) s
  pub end_is : p.end ≡ at + 1 + identifier_size h + value_size h
  pub within : p.end ≤ length s
  pub identifier_some : 1 ≤ identifier_size h
  pub value_some : 1 ≤ value_size h

pub pair-in : (strict : Bool) (s : List ℕ) (at : ℕ) (p : PairAt) → read_pair strict s at ≡ gives p → PairIn s (get_or s at 0) at p
unfolding read_pair
pair-in strict s at p e =
    go (eqb (identifier_size h) 0) (eqb (value_size h) 0) (ltb (length s) b) (ltb (length s) c) (in_class strict is_char (slice a b s))
    (in_class strict is_alpha_digit (slice b c s)) refl refl refl e
  where
    h : ℕ
    h = get_or s at 0

    a : ℕ
    a = at + 1

    b : ℕ
    b = at + 1 + identifier_size (get_or s at 0)

    c : ℕ
    c = (whole_pair s at).end

    go : (t1 t2 t3 t4 t5 t6 : Bool) → eqb (identifier_size h) 0 ≡ t1 → eqb (value_size h) 0 ≡ t2 → ltb (length s) c ≡ t4
        → if t1 (refuses 11 a) (if t2 (refuses 12 a) (if t3 (refuses 13 a) (if t4 (refuses 13 b)
        (if t5 (if t6 (gives (whole_pair s at)) (refuses 15 c)) (refuses 14 c))))) ≡ gives p
        → PairIn s h at p
    go true t2 t3 t4 t5 t6 x y z q = zero_one (cc)
    go false true t3 t4 t5 t6 x y z q = zero_one (cc)
    go false false true t4 t5 t6 x y z q = zero_one (cc)
    go false false false true t5 t6 x y z q = zero_one (cc)
    go false false false false false t6 x y z q = zero_one (cc)
    go false false false false true false x y z q = zero_one (cc)
    go false false false false true true x y z q =
        let i = eqb-false (identifier_size h) 0 x in
        let v = eqb-false (value_size h) 0 y in
        let w = ltb-false (length s) c z in
        let is : whole_pair s at ≡ p = cc in
        subst (PairIn s h at) is
        (record {
          identifier_is = refl;
          value_is = refl;
          end_is = refl;
          within = w;
          identifier_some = omega arith;
          value_some = omega arith;
        })

-- a pair takes bytes
pub step_after : (strict : Bool) (s : List ℕ) (at : ℕ) (r : Bool × ℕ) → gives r ≡ map pair_step (read_pair strict s at) → at < r.1
step_after strict s at r e =
    let m = map_gives pair_step (read_pair strict s at) r (sym e) in
    let i = pair-in strict s at m.0 m.1 in
    let end : m.0.end ≡ r.1 = ap (λ (x : Bool × ℕ). x.1) m.2 in
    omega arith
