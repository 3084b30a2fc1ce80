-- The bytes of a header that is written, and how many they are.
use Rattle.std.proofs.Common.{Option, None, Result, Ok, Err}
use Rattle.std.specs.Option.{option_map}
use Rattle.ext.specs.declared.ExtFieldType.{ExtFieldType}
use Prim.Native.Nat.{ℕ, ◌+◌, ◌-◌, ◌*◌, ◌<◌, ◌≤◌}
use mathlib.Core.Path.{◌≡◌, ◌∙◌, refl, sym, ap, subst}
use mathlib.Core.List.{List, [], ◌∷◌, ◌++◌}
use mathlib.Core.Bool.{Bool, true, false}
use native.Mathlib.Omega.{arith}
use lib.Dec.{eqb, leb}
use borrow.Author.Tests.{le-leb, eqb-true, leb-true}
use borrow.Rule.Slice.PartMut.{mid_of, put_mid, mid_len, same_len_mid}
use lib.ListN.{length, set, length-append, length-set}
use lib.Seq.{sets, length-sets}
use Rattle.error.specs.Choice.{if}
use Rattle.error.specs.Answer.{Answer, gives, refuses, bind, map, number, refusal}
use Rattle.error.specs.Emits.{emitted, Emits}
use Rattle.laws.proofs.Runs.{sets-append, sets-front, emits-part}
use Rattle.laws.proofs.Emitted.{emits-refused}
use Rattle.laws.proofs.Writers.{emits-all}
use Rattle.mbi.specs.Bytes.{mbi_bytes, groups}
use Rattle.mbi.proofs.Length.{bytes-five}
use Rattle.laws.proofs.Tests.{if-true, zero_one}
use Rattle.ext.specs.Kinds.{Fields, bitfield, reserved, pairs}
use Rattle.ext_write.specs.Internal.Left.{Left, refused, none_left, pairs-left}
use Rattle.ext_write.specs.declared.PairsBegun.{PairsBegun}
use Rattle.error.specs.declared.WbmpError.{WbmpError}
use Rattle.error.specs.declared.Refusal.TheVariants.{OutputTooShort}
use Rattle.ext_write.proofs.Begun.{short-emitted}
use Rattle.ext_write.proofs.Stores.{sets-before, sets-mid}
use Rattle.ext_write.specs.Write.{lent_fields, lent_bytes, fields_bytes, cut_pairs, sum}
use Rattle.header.specs.Internal.Begin.{HasRoom}
use Rattle.header.specs.Write.{size_bytes, header_bytes, plain_header, fix_byte, fields_header, lent_header, presented}

pub sizes-length : (w h : ℕ) → length (size_bytes w h) ≡ length (mbi_bytes w) + length (mbi_bytes h)
sizes-length w h = length-append (mbi_bytes w) (mbi_bytes h)

pub sizes-ten : (w h : ℕ) → w < 4294967296 → h < 4294967296 → length (size_bytes w h) ≤ 10
sizes-ten w h p q = omega (arith, sizes-length w h, bytes-five w p, bytes-five h q)

module _ (fix : ℕ) (fields : List ℕ) (w h : ℕ) where
  -- type 0 is one byte
  header_is : header_bytes fix fields w h ≡ 0 ∷ fix ∷ (fields ++ size_bytes w h)
  unfolding mbi_bytes groups
  header_is = refl

  pub header-length : length (header_bytes fix fields w h) ≡ 2 + length fields + length (size_bytes w h)
  header-length =
      let e : length (header_bytes fix fields w h) ≡ length (0 ∷ fix ∷ (fields ++ size_bytes w h)) = ap length header_is in
      omega (arith, e, length-append fields (size_bytes w h))

  -- the header's parts, one after the other, in an output that is long enough
  pub header-put : (old : List ℕ) (n : ℕ) → n ≡ length (header_bytes fix fields w h) → n ≤ length old
      → Emits (gives (header_bytes fix fields w h)) (gives n) old
      (sets (sets (set (set old 0 0) 1 fix) 2 fields) (2 + length fields) (size_bytes w h))
  header-put old n e f =
      emits-all (header_bytes fix fields w h) old _ n (omega arith) e
      (sets-append (set (set old 0 0) 1 fix) 2 fields (size_bytes w h)
      ∙ ap (λ (l : List ℕ). sets old 0 l) (sym header_is)
      ∙ sets-front old (header_bytes fix fields w h) (omega arith))

-- what a length says of an answer
given : (a : Answer (List ℕ)) (n : ℕ) → gives n ≡ map length a → (bytes : List ℕ) × (a ≡ gives bytes)
given (gives bytes) n e = (bytes, refl)
given (refuses code offset) n e = zero_one (cc)

length-given : (a : Answer (List ℕ)) (n : ℕ) (bytes : List ℕ) → gives n ≡ map length a → a ≡ gives bytes → n ≡ length bytes
length-given (gives b) n bytes e p = let q : b ≡ bytes = cc in let l : n ≡ length b = cc in l ∙ ap length q
length-given (refuses code offset) n bytes e p = zero_one (cc)

pub emitted-length : (a : Answer (List ℕ)) (old : List ℕ) (n end : ℕ) → gives n ≡ map length a → gives end ≡ emitted a old → end ≡ n
emitted-length (gives bytes) old n end e q = by-test (leb (length bytes) (length old)) q
  where
    by-test : (t : Bool) → gives end ≡ if t (gives (length bytes)) (refuses 25 0) → end ≡ n
    by-test true r = cc
    by-test false r = zero_one (cc)
emitted-length (refuses code offset) old n end e q = zero_one (cc)

-- Fields of a kind that are lent.
module _ (strict : Bool) (w h kind : ℕ) (text lengths : List ℕ) where
  -- the FixHeader byte says their kind
  fix_is : (f : Fields) → lent_fields kind text lengths ≡ gives f → fix_byte f ≡ 128 + kind * 32
  unfolding lent_fields
  fix_is f e = go (eqb kind 0) (eqb kind 3) (eqb (sum lengths) (length text)) text refl refl e
    where
      go : (t u v : Bool) (l : List ℕ) → eqb kind 0 ≡ t → eqb kind 3 ≡ u
          → if t (gives (bitfield text)) (if u (if v (gives (pairs (cut_pairs lengths text))) (refuses 31 0))
          (elim l as (λ x. Answer Fields) [ [] ↦ refuses 23 0 | octet ∷ _ ↦ gives (reserved kind octet) ])) ≡ gives f
          → fix_byte f ≡ 128 + kind * 32
      go true u v l p q r = let i : bitfield text ≡ f = cc in let k = eqb-true kind 0 p in sym (ap fix_byte i) ∙ omega arith
      go false true true l p q r = let i : pairs (cut_pairs lengths text) ≡ f = cc in let k = eqb-true kind 3 q in sym (ap fix_byte i)
          ∙ omega arith
      go false true false l p q r = zero_one (cc)
      go false false v [] p q r = zero_one (cc)
      go false false v (octet ∷ _) p q r = let i : reserved kind octet ≡ f = cc in sym (ap fix_byte i)

  -- the header of their bytes
  pub lent_gives : (bytes : List ℕ) → lent_bytes strict kind text lengths ≡ gives bytes
      → lent_header strict w h kind text lengths ≡ gives (header_bytes (128 + kind * 32) bytes w h)
  lent_gives bytes = go (lent_fields kind text lengths) refl
    where
      go : (a : Answer Fields) → lent_fields kind text lengths ≡ a → bind a (fields_bytes strict) ≡ gives bytes
          → bind a (fields_header strict w h) ≡ gives (header_bytes (128 + kind * 32) bytes w h)
      go (gives f) e q = ap (map (λ b. header_bytes (fix_byte f) b w h)) q ∙ ap (λ (x : ℕ). gives (header_bytes x bytes w h)) (fix_is f e)
      go (refuses code offset) e q = zero_one (cc)

  -- how many bytes it has
  pub lent_length : (n : ℕ) → gives n ≡ map length (lent_bytes strict kind text lengths)
      → gives (2 + length (size_bytes w h) + n) ≡ map length (lent_header strict w h kind text lengths)
  lent_length n = go (lent_bytes strict kind text lengths) refl
    where
      go : (a : Answer (List ℕ)) → lent_bytes strict kind text lengths ≡ a → gives n ≡ map length a
          → gives (2 + length (size_bytes w h) + n) ≡ map length (lent_header strict w h kind text lengths)
      go (gives bytes) e q =
          let l : n ≡ length bytes = cc in
          let m : 2 + length (size_bytes w h) + n ≡ length (header_bytes (128 + kind * 32) bytes w h) = omega
          (arith, header-length (128 + kind * 32) bytes w h) in
          ap gives m ∙ ap (map length) (sym (lent_gives bytes e))
      go (refuses code offset) e q = zero_one (cc)

  -- a header that has no room
  pub lent-short : (old : List ℕ) (n : ℕ) (e : WbmpError) → e ≡ record { kind = OutputTooShort; offset = 0 }
      → gives n ≡ map length (lent_bytes strict kind text lengths) → length old < 2 + length (size_bytes w h) + n
      → Left strict text lengths old (λ a out. Emits (lent_header strict w h kind text lengths) a old out) (Err e)
  lent-short old n e f g k =
      refused e
      (short-emitted (lent_header strict w h kind text lengths) (2 + length (size_bytes w h) + n) old (refusal e)
      (ap (λ (x : WbmpError). refusal x) f) (lent_length n g) k)

  -- a header whose fields are refused
  lent_refuses : (e : WbmpError) → refusal {A = ℕ} e ≡ map length (lent_bytes strict kind text lengths)
      → refusal {A = ℕ} e ≡ map length (lent_header strict w h kind text lengths)
  lent_refuses e = go (lent_fields kind text lengths)
    where
      bytes : (f : Fields) (a : Answer (List ℕ)) → refusal {A = ℕ} e ≡ map length a
          → refusal {A = ℕ} e ≡ map length (map (λ b. header_bytes (fix_byte f) b w h) a)
      bytes f (gives b) q = zero_one (cc)
      bytes f (refuses code offset) q = q

      go : (a : Answer Fields) → refusal {A = ℕ} e ≡ map length (bind a (fields_bytes strict))
          → refusal {A = ℕ} e ≡ map length (bind a (fields_header strict w h))
      go (gives f) q = bytes f (fields_bytes strict f) q
      go (refuses code offset) q = q

  pub lent-refused : (old : List ℕ) (e : WbmpError) → refusal {A = ℕ} e ≡ map length (lent_bytes strict kind text lengths)
      → Left strict text lengths old (λ a out. Emits (lent_header strict w h kind text lengths) a old out) (Err e)
  lent-refused old e q =
      refused e (emits-refused (lent_header strict w h kind text lengths) (number e.kind) e.offset old (lent_refuses e q))

  -- its parts: the sizes first, then the fields before them
  lent-put : (old : List ℕ) (n : ℕ) (bytes : List ℕ) → lent_bytes strict kind text lengths ≡ gives bytes → n ≡ length bytes
      → 2 + length (size_bytes w h) + n ≤ length old
      → Emits (lent_header strict w h kind text lengths) (gives (2 + length (size_bytes w h) + n)) old
      (sets (sets (set (set old 0 0) 1 (128 + kind * 32)) (2 + n) (size_bytes w h)) 2 bytes)
  lent-put old n bytes p l f =
      rw (
        lent_gives bytes p,
        l,
        sets-before (set (set old 0 0) 1 (128 + kind * 32)) 2 bytes (size_bytes w h),
        sym
            (sets-append (set (set old 0 0) 1 (128 + kind * 32)) 2 bytes (size_bytes w h)),
      )
      (header-put (128 + kind * 32) bytes w h old (2 + length (size_bytes w h) + length bytes)
      (omega (arith, header-length (128 + kind * 32) bytes w h)) (omega arith))

  -- the fields are begun in the output from index 2 on, where the rest of the header is there
  module _ (old l part : List ℕ) (n : ℕ) (e : gives n ≡ map length (lent_bytes strict kind text lengths))
      (f : 2 + length (size_bytes w h) + n ≤ length old) (g : l ≡ sets (set (set old 0 0) 1 (128 + kind * 32)) (2 + n) (size_bytes w h))
      (k : length part ≡ length (mid_of 2 (length l - 2) l)) where
    long : length l ≡ length old
    long = ap length g ∙ length-sets (set (set old 0 0) 1 (128 + kind * 32)) (2 + n) (size_bytes w h)
        ∙ length-set (set old 0 0) 1 (128 + kind * 32) ∙ length-set old 0 0

    -- the part, and the whole with it put back
    behind : length part ≡ length l - 2
    behind = k ∙ mid_len 2 (length l) l (omega arith)

    whole : length (put_mid 2 (length l - 2) l part) ≡ length l
    whole = same_len_mid 2 (length l - 2) l part k

    -- fields that the part holds are the header's
    done : (bytes new : List ℕ) (r : Answer ℕ) → lent_bytes strict kind text lengths ≡ gives bytes
        → Emits (lent_bytes strict kind text lengths) r (mid_of 2 (length l - 2) l) new
        → Emits (lent_header strict w h kind text lengths) (gives (2 + length (size_bytes w h) + n)) old (put_mid 2 (length l - 2) l new)
    done bytes new r p m =
        let q : n ≡ length bytes = length-given (lent_bytes strict kind text lengths) n bytes e p in
        let d = emits-part 2 l bytes new r (omega (arith, long))
        (subst (λ (a : Answer (List ℕ)). Emits a r (mid_of 2 (length l - 2) l) new) p m) in
        subst (Emits (lent_header strict w h kind text lengths) (gives (2 + length (size_bytes w h) + n)) old)
        (sym (d ∙ ap (λ (z : List ℕ). sets z 2 bytes) g)) (lent-put old n bytes p q f)

    fields : (bytes : List ℕ) × (lent_bytes strict kind text lengths ≡ gives bytes)
    fields = given (lent_bytes strict kind text lengths) n e

    -- the header, where its pairs are left to put
    abbrev begun : Option ℕ → Type 0
    begun to =
        Left strict text lengths (put_mid 2 (length l - 2) l part) (λ a out. Emits (lent_header strict w h kind text lengths) a old out)
        (Ok (record { end = 2 + length (size_bytes w h) + n; pairs = to }))

    -- what is left of them is left of the header
    pub lent-left : (b : PairsBegun) (to : Option ℕ) → to ≡ option_map (λ at. 2 + at) b.pairs
        → Left strict text lengths part (λ a out. Emits (lent_bytes strict kind text lengths) a (mid_of 2 (length l - 2) l) out) (Ok b)
        → begun to
    lent-left b to t (none_left end m) = subst begun (sym t) (none_left _ (done fields.0 part (gives end) fields.1 m))
    lent-left b to t (pairs-left end at bytes p u v m) =
        let x : end ≡ n = emitted-length (lent_bytes strict kind text lengths) (mid_of 2 (length l - 2) l) n end e m.answer in
        subst begun (sym t)
        (pairs-left (2 + length (size_bytes w h) + n) (2 + at) bytes p (omega arith) (omega (arith, whole, long))
        (subst (Emits (lent_header strict w h kind text lengths) (gives (2 + length (size_bytes w h) + n)) old)
        (sym (sets-mid 2 (length l - 2) l part at bytes (omega (arith, long)) (omega (arith, u, v))))
        (done fields.0 (sets part at bytes) (gives end) fields.1 m)))

    -- they are not refused
    pub not_refused : (x : WbmpError)
        → Left strict text lengths part (λ a out. Emits (lent_bytes strict kind text lengths) a (mid_of 2 (length l - 2) l) out) (Err x)
        → ⊥
    not_refused x (refused y m) =
        let q : n ≡ length fields.0 = length-given (lent_bytes strict kind text lengths) n fields.0 e fields.1 in
        let d = mid_len 2 (length l) l (omega (arith, long)) in
        let t = le-leb (length fields.0) (length (mid_of 2 (length l - 2) l)) (omega (arith, long)) in
        let r : refusal x ≡ emitted (gives fields.0) (mid_of 2 (length l - 2) l) =
        subst (λ (a : Answer (List ℕ)). refusal x ≡ emitted a (mid_of 2 (length l - 2) l)) fields.1 m.answer in
        let z = r ∙ if-true _ _ _ t in
        zero_one (cc)

-- what is begun is within the output
pub refused-within : (new : List ℕ) (e : WbmpError) → HasRoom (Err e) new
refused-within new e b q = zero_one (cc)

pub bytes-within : (old new : List ℕ) (end : ℕ) (to : Option ℕ) → 0 < end → end ≤ length old → length new ≡ length old
    → HasRoom (Ok (record { end = end; pairs = to })) new
bytes-within old new end to h k l b q =
    let p : record { end = end; pairs = to } ≡ b = cc in
    let f : end ≡ b.end = ap (λ (x : PairsBegun). x.end) p in
    (omega (arith, f), omega (arith, f))

pub plain-within : (w h : ℕ) (old new : List ℕ) (n : ℕ) → length new ≡ length old → Emits (plain_header w h) (gives n) old new
    → HasRoom (Ok (record { end = n; pairs = None })) new
plain-within w h old new n l m = by-test (leb (length (header_bytes 0 [] w h)) (length old)) refl m.answer
  where
    by-test : (t : Bool) → leb (length (header_bytes 0 [] w h)) (length old) ≡ t → gives n
        ≡ if t (gives (length (header_bytes 0 [] w h))) (refuses 25 0) → HasRoom (Ok (record { end = n; pairs = None })) new
    by-test true t r =
        let f : n ≡ length (header_bytes 0 [] w h) = cc in
        let k = leb-true (length (header_bytes 0 [] w h)) (length old) t in
        bytes-within old new n None (omega (arith, header-length 0 [] w h)) (omega arith) l
    by-test false t r = zero_one (cc)

-- What is left of the fields that are lent, or of none.
module _ (strict : Bool) (w h : ℕ) (text lengths old new : List ℕ) where
  pub presence-left : (r : Result PairsBegun WbmpError) (t : Bool) (p q : Option ExtFieldType) → t ≡ false → p ≡ q
      → Left strict text lengths new (λ a out. Emits (bind (presented q text lengths) (fields_header strict w h)) a old out) r
      → Left strict text lengths new
      (λ a out. Emits (if t (refuses 8 0) (bind (presented p text lengths) (fields_header strict w h))) a old out) r
  presence-left r t p q e f m = rw (e, f) m

  pub absent-left : (n : ℕ) → Emits (plain_header w h) (gives n) old new
      → Left strict text lengths new (λ a out. Emits (bind (presented None text lengths) (fields_header strict w h)) a old out)
      (Ok (record { end = n; pairs = None }))
  unfolding fields_bytes
  absent-left n m = none_left n m

  pub absent-refused : (x : WbmpError) → Emits (plain_header w h) (refusal x) old new
      → Left strict text lengths new (λ a out. Emits (bind (presented None text lengths) (fields_header strict w h)) a old out) (Err x)
  unfolding fields_bytes
  absent-refused x m = refused x m
