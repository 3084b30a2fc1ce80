-- Walking over the pairs of fields that were read, in search of an identifier.
use Prim.Native.Nat.{ℕ, zero, suc, ◌+◌, ◌<◌, ◌≤◌}
use mathlib.Core.Path.{◌≡◌, ◌∙◌, refl, sym, ap, subst, subst⁻¹}
use mathlib.Core.List.{List, [], ◌∷◌}
use mathlib.Core.Bool.{Bool, true, false}
use native.Mathlib.Omega.{arith}
use lib.ListN.{length, get_or, drop}
use lib.Seq.{slice, length-slice}
use Rattle.error.specs.Answer.{Answer, gives, refuses, map}
use Rattle.laws.proofs.Answers.{map_gives}
use Rattle.laws.proofs.Tests.{zero_one}
use Rattle.ext.specs.Kinds.{Pair, Fields, none, bitfield, reserved, pairs, span_of, fields_span, kind_number, pair_header}
use Rattle.ext.specs.Read.{PairAt, read_octets, read_octet, read_pairs, read_fields}
use Rattle.ext.specs.Find.{pairs_in, pair_at, pair_size, value_start, Found, nothing, value_at, Finds, Looked}
use Rattle.ext.specs.declared.PairHeader.{PairHeader}
use Rattle.ext.specs.declared.ExtFields.{ExtFields}
use Rattle.ext.specs.declared.FixHeaderField.{FixHeaderField}
use Rattle.ext.proofs.FieldsCases.{by_kind, PairsGiven, last, more, pairs-given}
use Rattle.ext.proofs.PairExtent.{identifier_size, value_size, PairIn}

-- pairs stand in a file s from an offset on
abbrev pub PairsStand : List ℕ → ℕ → List Pair → Type 0
PairsStand s at [] = Unit {0}
PairsStand s at (p ∷ ps) = (x : PairAt) × PairIn s (get_or s at 0) at x × (x.pair ≡ p) × PairsStand s x.end ps

stands-pairs : (most : ℕ) (strict : Bool) (s : List ℕ) (start at : ℕ) (r : List Pair × ℕ) → read_pairs most strict s start at ≡ gives r
    → PairsStand s at r.0
unfolding read_pairs
stands-pairs zero strict s start at r e = zero_one (cc)
stands-pairs (suc most) strict s start at r e = go r (pairs-given most strict s start at r e) (stands-pairs most strict s start)
  where
    go : (r : List Pair × ℕ) → PairsGiven most strict s start at r
        → ((end : ℕ) (r : List Pair × ℕ) → read_pairs most strict s start end ≡ gives r → PairsStand s end r.0)
        → PairsStand s at r.0
    go r (last x i h) ih = (x, i, refl, tt)
    go r (more x i h rest e) ih = (x, i, refl, ih x.end rest e)

pub stands-fields : (strict follow : Bool) (kind : ℕ) (s : List ℕ) (at : ℕ) (r : Fields × ℕ) → read_fields strict follow kind s at ≡ gives r
    → PairsStand s at (pairs_in r.0)
unfolding read_fields
stands-fields strict false kind s at r e =
    let is : (none, at) ≡ r = cc in
    subst (λ (r : Fields × ℕ). PairsStand s at (pairs_in r.0)) is tt
stands-fields strict true kind s at r e =
    by_kind strict kind s at (λ x. x ≡ gives r → PairsStand s at (pairs_in r.0))
    (λ z q. let m = map_gives _ (read_octets (drop at s) at at) r q in stand _ _ m.2 tt)
    (λ z q.
    let m = map_gives _ (read_pairs (suc (length s)) strict s at at) r q in
    stand _ _ m.2 (stands-pairs (suc (length s)) strict s at at m.0 m.1))
    (λ y z q. let m = map_gives _ (read_octet (drop at s) at) r q in stand _ _ m.2 tt)
    e
  where
    stand : (f : Fields) (end : ℕ) → (f, end) ≡ r → PairsStand s at (pairs_in f) → PairsStand s at (pairs_in r.0)
    stand f end is = subst (λ (r : Fields × ℕ). PairsStand s at (pairs_in r.0)) is

-- the sizes of a pair that was read
sizes : (s : List ℕ) (h at : ℕ) (x : PairAt) → PairIn s h at x
    → (length x.pair.identifier ≡ identifier_size h) × (length x.pair.value ≡ value_size h)
sizes s h at x i =
    let m = i.end_is in
    let w = i.within in
    let a = ap length i.identifier_is ∙ length-slice (at + 1) (at + 1 + identifier_size h) s (omega arith) in
    let b = ap length i.value_is ∙ length-slice (at + 1 + identifier_size h) (at + 1 + identifier_size h + value_size h) s (omega arith) in
    (omega arith, omega arith)

finds-here : (s : List ℕ) (at : ℕ) (p : Pair) (ps : List Pair) (identifier : List ℕ) (from len : ℕ) → p.identifier ≡ identifier
    → from ≡ at + 1 + length p.identifier → len ≡ length p.value → slice from (from + len) s ≡ p.value
    → Finds s at (p ∷ ps) identifier (value_at from len)
unfolding value_start
finds-here s at p ps identifier from len e f n v = (0, record { below = omega arith; same = e; starts = f; long = n; bytes = v })

finds-next : (s : List ℕ) (at end : ℕ) (p : Pair) (ps : List Pair) (identifier : List ℕ) (r : Found) → (p.identifier ≡ identifier → ⊥)
    → end ≡ at + pair_size p → Finds s end ps identifier r → Finds s at (p ∷ ps) identifier r
unfolding value_start
finds-next s at end p ps identifier nothing other e f = none_more
  where
    none_more : (i : ℕ) → i < length (p ∷ ps) → (pair_at (p ∷ ps) i).identifier ≡ identifier → ⊥
    none_more zero h same = other same
    none_more (suc i) h same = f i (omega arith) same
finds-next s at end p ps identifier (value_at from len) other e (i, c) =
    let b = c.below in (
      suc i,
      record {
        below = omega arith;
        same = c.same;
        starts = c.starts ∙ ap (λ (n : ℕ). value_start n ps i) e;
        long = c.long;
        bytes = c.bytes;
      },
    )

-- The walk has come to an offset and has pairs left there; what it finds among them, the lookup may answer.
pub record PairsLeft (s identifier : List ℕ) (Wanted : Found → Type 0) (at left : ℕ) : Type 0 where
  pub rest : List Pair
  pub count : length rest ≡ left
  pub stands : PairsStand s at rest
  pub enough : (r : Found) → Finds s at rest identifier r → Wanted r

-- the next pair of the walk, its header byte taken apart
pub record NextPair (s identifier : List ℕ) (Wanted : Found → Type 0) (h : PairHeader) (at left : ℕ) : Type 0 where
  pub within : at + 1 + h.identifier_len + h.value_len ≤ length s
  pub found : slice (at + 1) (at + 1 + h.identifier_len) s ≡ identifier → Wanted (value_at (at + 1 + h.identifier_len) h.value_len)
  pub other : (slice (at + 1) (at + 1 + h.identifier_len) s ≡ identifier → ⊥) → (fewer : ℕ) → left ≡ fewer + 1
      → PairsLeft s identifier Wanted (at + 1 + h.identifier_len + h.value_len) fewer

module _ (s identifier : List ℕ) (Wanted : Found → Type 0) (at left : ℕ) where
  pub walk-next : (h : PairHeader) → h ≡ pair_header (get_or s at 0) → 0 < left → PairsLeft s identifier Wanted at left
      → NextPair s identifier Wanted h at left
  walk-next header is-header h r =
      subst⁻¹ (λ (x : PairHeader). NextPair s identifier Wanted x at left) is-header (go r.rest r.count r.stands r.enough)
    where
      b : ℕ
      b = get_or s at 0

      value : ℕ
      value = at + 1 + identifier_size (get_or s at 0)

      go : (rest : List Pair) → length rest ≡ left → PairsStand s at rest
          → ((r : Found) → Finds s at rest identifier r → Wanted r)
          → NextPair s identifier Wanted (pair_header (get_or s at 0)) at left
      go [] n stands enough = let f : ⊥ = omega arith in absurd f
      go (p ∷ rest) n (x, i, e, stands) enough =
          let z = sizes s b at x i in
          let is : length p.identifier ≡ identifier_size b = ap (λ (p : Pair). length p.identifier) (sym e) ∙ z.0 in
          let vs : length p.value ≡ value_size b = ap (λ (p : Pair). length p.value) (sym e) ∙ z.1 in
          let name : p.identifier ≡ slice (at + 1) (at + 1 + identifier_size b) s = ap (λ (p : Pair). p.identifier) (sym e)
          ∙ i.identifier_is in
          let held : slice value (value + value_size b) s ≡ p.value = sym i.value_is ∙ ap (λ (p : Pair). p.value) e in
          let m = i.end_is in
          let w = i.within in
          record {
            within = omega arith;
            found = λ q. enough (value_at value (value_size b))
                (finds-here s at p rest identifier value (value_size b) (name ∙ q) (omega arith) (omega arith) held);
            other = λ q fewer f. record {
              rest = rest;
              count = omega arith;
              stands = subst (λ (n : ℕ). PairsStand s n rest) m stands;
              enough = λ r f. enough r (finds-next s at (value + value_size b) p rest identifier r (λ g. q (sym name ∙ g)) (omega arith) f);
            };
          }

  pub walk_end : left ≡ 0 → PairsLeft s identifier Wanted at left → Wanted nothing
  walk_end h r = go r.rest r.count r.enough
    where
      go : (rest : List Pair) → length rest ≡ left → ((r : Found) → Finds s at rest identifier r → Wanted r) → Wanted nothing
      go [] n enough = enough nothing (λ i b e. let f : ⊥ = omega arith in f)
      go (p ∷ rest) n enough = let f : ⊥ = omega arith in absurd f

count-pairs : (start end : ℕ) (f : Fields) (x : ExtFields) → gives (fields_span x) ≡ gives (span_of start (f, end))
    → length (pairs_in f) ≡ x.pairs
count-pairs start end none x e = zero_one (cc)
count-pairs start end (bitfield octets) x e = cc
count-pairs start end (reserved kind octet) x e = cc
count-pairs start end (pairs ps) x e = cc

-- what a lookup may answer
abbrev pub Answers : FixHeaderField → List ℕ → ℕ → List ℕ → Found → Type 0
Answers fix s start identifier r =
    Looked (read_fields false fix.ext_fields_follow (kind_number fix.ext_type) s start) s start identifier (gives r)

-- the walk over the pairs of fields that the code read
pub walk_begin : (fix : FixHeaderField) (s : List ℕ) (start : ℕ) (identifier : List ℕ) (f : ExtFields) (left : ℕ) → left ≡ f.pairs
    → gives (fields_span f) ≡ map (span_of start) (read_fields false fix.ext_fields_follow (kind_number fix.ext_type) s start)
    → PairsLeft s identifier (Answers fix s start identifier) start left
walk_begin fix s start identifier f left n e =
    go (read_fields false fix.ext_fields_follow (kind_number fix.ext_type) s start)
    (stands-fields false fix.ext_fields_follow (kind_number fix.ext_type) s start) e
  where
    go : (x : Answer (Fields × ℕ)) → ((r : Fields × ℕ) → x ≡ gives r → PairsStand s start (pairs_in r.0))
        → gives (fields_span f) ≡ map (span_of start) x
        → PairsLeft s identifier (λ r. Looked x s start identifier (gives r)) start left
    go (gives r) stands e =
        record { rest = pairs_in r.0; count = count-pairs start r.1 r.0 f e ∙ sym n; stands = stands r refl; enough = λ r q. q }
    go (refuses code offset) stands e = zero_one (cc)
