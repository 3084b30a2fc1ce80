-- Fields begun: what is left to put, and that once it is put the writer's promise is kept.
use Rattle.std.proofs.Common.{Result, Ok, Err, Some, None}
use Rattle.error.specs.declared.WbmpError.{WbmpError}
use Prim.Native.Nat.{ℕ, ◌+◌, ◌≤◌, ◌<◌}
use mathlib.Core.Path.{◌≡◌, ◌∙◌, sym, ap, subst}
use mathlib.Core.Bool.{Bool}
use mathlib.Core.List.{List, [], ◌∷◌, ◌++◌}
use native.Mathlib.Nat.{zero-add}
use native.Mathlib.Omega.{arith}
use lib.ListN.{length, set, get_or, drop}
use lib.Seq.{sets}
use Rattle.error.specs.Answer.{Answer, gives, refuses, number, refusal, map}
use Rattle.error.specs.Emits.{Emits}
use Rattle.laws.proofs.Answers.{map_gives}
use Rattle.laws.proofs.Tests.{zero_one}
use Rattle.laws.proofs.Runs.{sets-front}
use Rattle.laws.proofs.Emitted.{emits-short, emits-bytes, emits-refused}
use Rattle.ext_write.specs.Write.{octets_bytes, octet_bytes, sum, lent_bytes}
use Rattle.ext_write.specs.Internal.Steps.{put_start, put_pairs, put_left, continued, Small}
use Rattle.ext_write.specs.Internal.Left.{Left, refused, none_left, pairs-left, PutsWithin, BeginsFields}
use Rattle.ext_write.specs.declared.PairsBegun.{PairsBegun}
use Rattle.ext_write.proofs.OctetsWritten.{accepted-small, accepted-bytes, length-continued}
use Rattle.ext_write.proofs.LentFields.{pairs-accepted}
use Rattle.ext_write.proofs.PutRun.{put_all}

-- accepted pairs that have room from an offset on
pub put-bytes : (strict : Bool) (text lengths out : List ℕ) (to : ℕ) (bytes : List ℕ) → lent_bytes strict 3 text lengths ≡ gives bytes
    → to + length bytes ≤ length out
    → put_pairs text lengths out (put_start to) ≡ sets out to bytes
put-bytes strict text lengths out to bytes e h =
    let a = pairs-accepted strict lengths text bytes e in
    put_all strict text lengths out (put_start to) bytes a.1 (omega (arith, a.0, zero-add (sum lengths))) h

-- what was left is put
pub left-put : (strict : Bool) (text lengths new : List ℕ) (Goal : Answer ℕ → List ℕ → Type 0) (b : PairsBegun)
    → Left strict text lengths new Goal (Ok b) → Goal (gives b.end) (put_left text lengths new b.pairs)
left-put strict text lengths new Goal b (none_left end g) = g
left-put strict text lengths new Goal b (pairs-left end to bytes e l f g) =
    subst (Goal (gives end)) (sym (put-bytes strict text lengths new to bytes e (omega (arith, l, f)))) g

-- the writer's promise, from what was begun and what was put
pub begun-put : (strict : Bool) (text lengths mid new : List ℕ) (Goal : Answer ℕ → List ℕ → Type 0) (b : PairsBegun) (n : ℕ)
    → Left strict text lengths mid Goal (Ok b) → (n ≡ b.end) × (new ≡ put_left text lengths mid b.pairs) → Goal (gives n) new
begun-put strict text lengths mid new Goal b n x e =
    subst (λ (k : ℕ). Goal (gives k) new) (sym e.0)
    (subst (Goal (gives b.end)) (sym e.1) (left-put strict text lengths mid Goal b x))

-- and from a refusal
pub begun-refused : (strict : Bool) (text lengths mid : List ℕ) (Goal : Answer ℕ → List ℕ → Type 0) (x : WbmpError)
    → Left strict text lengths mid Goal (Err x) → Goal (refusal x) mid
begun-refused strict text lengths mid Goal x (refused y g) = g

-- a writer that answers 25
pub short-emitted : (a : Answer (List ℕ)) (n : ℕ) (old : List ℕ) (r : Answer ℕ) → r ≡ refuses 25 0 → gives n ≡ map length a
    → length old < n → Emits a r old old
short-emitted a n old r e f h = subst (λ (t : Answer ℕ). Emits a t old old) (sym e) (emits-short a n old f h)

-- where the pairs go that are left
pub refused-within : (room : ℕ) (x : WbmpError) → PutsWithin room (Err x)
refused-within room x b to e f = zero_one (cc)

pub none_within : (room end : ℕ) → PutsWithin room (Ok (record { end = end; pairs = None }))
none_within room end b to e f =
    let p : record { end = end; pairs = None } ≡ b = cc in
    let q : None ≡ Some to = ap (λ (x : PairsBegun). x.pairs) p ∙ f in
    zero_one (cc)

pub front_within : (room end : ℕ) → PutsWithin room (Ok (record { end = end; pairs = Some 0 }))
front_within room end b to e f =
    let p : record { end = end; pairs = Some 0 } ≡ b = cc in
    let q : Some 0 ≡ Some to = ap (λ (x : PairsBegun). x.pairs) p ∙ f in
    let r : 0 ≡ to = cc in
    omega (arith, r)

-- fields of kinds without pairs
module _ (kind : ℕ) (text : List ℕ) (found : Result ℕ WbmpError) (old new : List ℕ) (a : Answer (List ℕ))
    (e : (strict : Bool) (lengths : List ℕ) → lent_bytes strict kind text lengths ≡ a) where
  pub fields-written : (n : ℕ) → Emits a (gives n) old new → BeginsFields kind text found old new (Ok (record { end = n; pairs = None }))
  fields-written n g = (
    none_within (length new) n,
    λ strict lengths h. none_left n (subst (λ (x : Answer (List ℕ)). Emits x (gives n) old new) (sym (e strict lengths)) g),
  )

  pub fields-refused : (x : WbmpError) → Emits a (refusal x) old new → BeginsFields kind text found old new (Err x)
  fields-refused x g = (
    refused-within (length new) x,
    λ strict lengths h. refused x (subst (λ (z : Answer (List ℕ)). Emits z (refusal x) old new) (sym (e strict lengths)) g),
  )

-- fields whose bytes are those of pairs
pub pairs-begun : (strict : Bool) (text lengths new old : List ℕ) (r : Result PairsBegun WbmpError) (a a' : Answer (List ℕ)) → a ≡ a'
    → Left strict text lengths new (λ b out. Emits a b old out) r
    → Left strict text lengths new (λ b out. Emits a' b old out) r
pairs-begun strict text lengths new old r a a' e x =
    subst (λ (z : Answer (List ℕ)). Left strict text lengths new (λ b out. Emits z b old out) r) e x

-- kind 00
pub octets-fit : (text out : List ℕ) (n : ℕ) → gives n ≡ map length (octets_bytes text) → n ≤ length out → (length text ≤ length out)
    × Small text
octets-fit text out n e h =
    let m = map_gives length (octets_bytes text) n (sym e) in
    let l : length m.0 ≡ length text = ap length (accepted-bytes text m.0 m.1) ∙ length-continued text in
    (omega (arith, m.2), accepted-small text m.0 m.1)

pub octets-emitted : (text out new : List ℕ) (n : ℕ) → gives n ≡ map length (octets_bytes text) → n ≤ length out
    → new ≡ sets out 0 (continued text)
    → Emits (octets_bytes text) (gives n) out new
octets-emitted text out new n e h g =
    emits-bytes (octets_bytes text) n out new e h
    (λ bytes f k. g ∙ ap (sets out 0) (sym (accepted-bytes text bytes f)) ∙ sets-front out bytes k)

-- kinds 01 and 10
pub octet-one : (text : List ℕ) (n : ℕ) → gives n ≡ map length (octet_bytes text) → (n ≡ 1) × (0 < length text)
unfolding octet_bytes
octet-one [] n e = zero_one (cc)
octet-one (o ∷ os) n e = (cc, omega arith)

pub octet-emitted : (text out : List ℕ) (n : ℕ) → gives n ≡ map length (octet_bytes text) → n ≤ length out
    → Emits (octet_bytes text) (gives n) out (set out 0 (get_or text 0 0))
unfolding octet_bytes
octet-emitted [] out n e h = zero_one (cc)
octet-emitted (o ∷ os) [] n e h = absurd (omega (arith, (octet-one (o ∷ os) n e).0))
octet-emitted (o ∷ os) (x ∷ out) n e h =
    emits-bytes (gives (o ∷ [])) n (x ∷ out) (o ∷ out) e h
    (λ bytes f k. let g : o ∷ [] ≡ bytes = cc in ap (λ (b : List ℕ). b ++ drop (length b) (x ∷ out)) g)

-- kind 11: `found` is the answer of the pairs' check
module _ (strict : Bool) (text lengths old : List ℕ) where
  pub pairs-short : (room n : ℕ) (x : WbmpError) → length old ≡ room → refusal {A = ℕ} x ≡ refuses 25 0
      → gives n ≡ map length (lent_bytes strict 3 text lengths) → room < n
      → Left strict text lengths old (λ a out. Emits (lent_bytes strict 3 text lengths) a old out) (Err x)
  pairs-short room n x o a e h = refused x (short-emitted (lent_bytes strict 3 text lengths) n old (refusal x) a e (omega arith))

  pub pairs-refused : (x : WbmpError) → refusal {A = ℕ} x ≡ map length (lent_bytes strict 3 text lengths)
      → Left strict text lengths old (λ a out. Emits (lent_bytes strict 3 text lengths) a old out) (Err x)
  pairs-refused x e = refused x (emits-refused (lent_bytes strict 3 text lengths) (number x.kind) x.offset old e)

  pub pairs-fit : (room n : ℕ) → length old ≡ room → gives n ≡ map length (lent_bytes strict 3 text lengths) → n ≤ room
      → Left strict text lengths old (λ a out. Emits (lent_bytes strict 3 text lengths) a old out)
      (Ok (record { end = n; pairs = Some 0 }))
  pairs-fit room n o e h =
      let m = map_gives length (lent_bytes strict 3 text lengths) n (sym e) in
      let f : n ≤ length old = omega arith in
      pairs-left n 0 m.0 m.1 (omega (arith, m.2)) f
      (emits-bytes (lent_bytes strict 3 text lengths) n old (sets old 0 m.0) e f
      (λ bytes g k. ap (sets old 0) (same bytes (sym m.1 ∙ g)) ∙ sets-front old bytes k))
    where
      same : (bytes : List ℕ) → gives (map_gives length (lent_bytes strict 3 text lengths) n (sym e)).0 ≡ gives bytes
          → (map_gives length (lent_bytes strict 3 text lengths) n (sym e)).0 ≡ bytes
      same bytes f = cc
