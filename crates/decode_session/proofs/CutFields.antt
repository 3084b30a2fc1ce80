-- The extension bytes of a file whose fields are read: those of its first bytes, and a buffer that they are stored in.
use Prim.Native.Nat.{ℕ, zero, suc, ◌+◌, ◌-◌, ◌≤◌, ◌<◌}
use mathlib.Core.Path.{◌≡◌, refl, sym, ap, ◌∙◌}
use mathlib.Core.Bool.{Bool, true, false, not, ◌&&◌}
use mathlib.Core.List.{List, [], ◌∷◌, ◌++◌, append_assoc}
use native.Mathlib.Omega.{arith}
use borrow.Author.Tests.{lt-leb, leb-true, leb-false}
use lib.Dec.{ltb, leb}
use lib.ListN.{length, take, drop, length-append, length-take, take-append-drop}
use lib.Seq.{slice, sets, sets-eq, length-sets, take_all, take-length, take-append-le, take-append-add, take-append_seam, take-take}
use lib.Seq.{length-take-le}
use Rattle.error.specs.Choice.{if}
use Rattle.error.specs.Answer.{Answer, gives, refuses, is_end}
use Rattle.laws.proofs.Lists.{take-length-take}
use Rattle.mbi.specs.Bytes.{mbi_bytes, groups}
use Rattle.mbi.specs.Read.{read_mbi, read_rest}
use Rattle.mbi.proofs.RoundTrip.{read-written}
use Rattle.ext.specs.Kinds.{Fields, fields_follow, kind_bits}
use Rattle.ext.specs.Read.{read_fields}
use Rattle.ext.proofs.Prefix.{decided, fields-prefix}
use Rattle.ext.proofs.Bounds.{fields-bound}
use Rattle.header.specs.Settings.{Settings}
use Rattle.header_pieces.specs.Extension.{fields_end, field_bytes}

-- a buffer that starts with a, once the rest of b, which starts with a too, is stored behind it
stored-behind : (a b buffer : List ℕ) → take (length a) b ≡ a → length b ≤ length buffer → take (length a) buffer ≡ a
    → take (length b) (sets buffer (length a) (drop (length a) b)) ≡ b
stored-behind a b buffer p l q =
    let n : length a + length (drop (length a) b) ≡ length b = sym (length-append a (drop (length a) b)) ∙ ap length (joined) in
    ap (take (length b))
    (sets-eq (drop (length a) b) buffer (length a) (omega arith)
    ∙ ap (λ (r : List ℕ). r ++ drop (length a) b ++ drop (length a + length (drop (length a) b)) buffer) q
    ∙ ap (λ (r : List ℕ). r ++ drop (length a + length (drop (length a) b)) buffer) joined)
    ∙ take-append_seam b _
  where
    joined : a ++ drop (length a) b ≡ b
    joined = ap (λ (r : List ℕ). r ++ drop (length a) b) (sym p) ∙ take-append-drop (length a) b

-- a file of a FixHeader byte, the bytes of its fields, and what follows
abbrev pub fields_file : ℕ → List ℕ → List ℕ → List ℕ
fields_file fix fields τ = 0 ∷ fix ∷ (fields ++ τ)

module _ (o : Settings) (fix : ℕ) (fields τ : List ℕ) (f : Fields) (passed : (o.fix_zero && ltb 0 fix) ≡ false)
    (follow : (o.honoured && fields_follow fix) ≡ true)
    (read : (ρ : List ℕ) → read_fields o.classes true (kind_bits fix) (fields_file fix fields ρ) 2 ≡ gives (f, 2 + length fields)) where
  type-read : (s : List ℕ) → read_mbi o.shortest (0 ∷ s) 0 ≡ gives (0, 1)
  unfolding mbi_bytes groups
  type-read s = read-written o.shortest [] 0 s (omega arith)

  kept-none : field_bytes o [] ≡ []
  unfolding field_bytes read_rest
  kept-none = refl

  kept-one : field_bytes o (0 ∷ []) ≡ []
  unfolding field_bytes
  kept-one = rw (type-read [])

  -- the fields in the bytes behind the FixHeader byte
  abbrev fields_in : List ℕ → Answer (Fields × ℕ)
  fields_in s = read_fields o.classes true (kind_bits fix) s 2

  kept-behind : (xs : List ℕ) → field_bytes o (0 ∷ fix ∷ xs) ≡ slice 2 (fields_end (0 ∷ fix ∷ xs) (fields_in (0 ∷ fix ∷ xs))) (0 ∷ fix ∷ xs)
  unfolding field_bytes
  kept-behind xs = rw (type-read (fix ∷ xs), lt-leb (length (0 ∷ fix ∷ xs)) 1 (omega arith), passed, follow)

  kept-all : (ρ : List ℕ) → field_bytes o (fields_file fix fields ρ) ≡ fields
  kept-all ρ =
      let n : 2 + length fields ≡ suc (suc (length fields)) = omega arith in
      kept-behind (fields ++ ρ)
      ∙ ap (λ (a : Answer (Fields × ℕ)). slice 2 (fields_end (fields_file fix fields ρ) a) (fields_file fix fields ρ)) (read ρ)
      ∙ ap (λ (k : ℕ). slice 2 k (fields_file fix fields ρ)) n
      ∙ take-append_seam fields ρ

  -- fewer bytes than the fields have
  module _ (n : ℕ) (short : n < length fields) where
    abbrev part : List ℕ
    part = 0 ∷ fix ∷ take n fields

    part_length : length part ≡ suc (suc n)
    part_length = ap (λ (k : ℕ). suc (suc k)) (length-take-le n fields (omega arith))

    whole-read : read_fields o.classes true (kind_bits fix) (part ++ (drop n fields ++ [])) 2 ≡ gives (f, 2 + length fields)
    whole-read =
        ap (λ (l : List ℕ). fields_in (0 ∷ fix ∷ l))
        (sym (append_assoc (take n fields) (drop n fields) []) ∙ ap (λ (l : List ℕ). l ++ []) (take-append-drop n fields))
        ∙ read []

    by_answer : (a : Answer (Fields × ℕ)) → fields_in part ≡ a → slice 2 (fields_end part a) part ≡ take n fields
    by_answer (gives r) e =
        let w = fields-prefix o.classes true (kind_bits fix) part (drop n fields ++ []) 2 (ap decided e) in
        let b = fields-bound o.classes true (kind_bits fix) part 2 r e in
        let q = whole-read in
        let same : r ≡ (f, 2 + length fields) = cc in
        let end : r.1 ≡ 2 + length fields = ap (λ (x : Fields × ℕ). x.1) same in
        let z : ⊥ = omega (arith, b.within refl, part_length) in
        absurd z
    by_answer (refuses code place) e = go (is_end code) refl
      where
        go : (t : Bool) → is_end code ≡ t → slice 2 (if t (length part) place) part ≡ take n fields
        go true q = ap (drop 2) (take-length part)
        go false q =
            let w = fields-prefix o.classes true (kind_bits fix) part (drop n fields ++ []) 2 (ap decided e ∙ ap not q) in
            let r = whole-read in
            cc

    kept-part : field_bytes o part ≡ take n fields
    kept-part = kept-behind (take n fields) ∙ by_answer (fields_in part) refl

  pub kept : (at : ℕ) → field_bytes o (take at (fields_file fix fields τ)) ≡ take (at - 2) fields
  kept zero = kept-none
  kept (suc zero) = kept-one
  kept (suc (suc n)) = go (leb (length fields) n) refl
    where
      less : suc (suc n) - 2 ≡ n
      less = omega arith

      go : (t : Bool) → leb (length fields) n ≡ t → field_bytes o (0 ∷ fix ∷ take n (fields ++ τ)) ≡ take (suc (suc n) - 2) fields
      go true e =
          let l = leb-true (length fields) n e in
          let k : n ≡ length fields + (n - length fields) = omega arith in
          ap (λ (i : ℕ). field_bytes o (0 ∷ fix ∷ take i (fields ++ τ))) k
          ∙ ap (λ (l : List ℕ). field_bytes o (0 ∷ fix ∷ l)) (take-append-add fields τ (n - length fields))
          ∙ kept-all (take (n - length fields) τ)
          ∙ sym (take_all (suc (suc n) - 2) fields (omega arith))
      go false e =
          let l = leb-false (length fields) n e in
          ap (λ (l : List ℕ). field_bytes o (0 ∷ fix ∷ l)) (take-append-le n fields τ (omega arith)) ∙ kept-part n l
          ∙ ap (λ (k : ℕ). take k fields) (sym less)

  -- a buffer that holds the fields of the first bytes
  pub record FieldsHeld (at : ℕ) (ext : List ℕ) : Type 0 where
    pub long : length fields ≤ length ext
    pub front : take (length (take (at - 2) fields)) ext ≡ take (at - 2) fields

  pub holds-none : (ext : List ℕ) → length fields ≤ length ext → FieldsHeld 0 ext
  holds-none ext l = record { long = l; front = refl }

  abbrev file : List ℕ
  file = fields_file fix fields τ

  pub holds_more : (at n : ℕ) (ext : List ℕ) → FieldsHeld at ext
      → FieldsHeld (at + n) (sets ext (length (field_bytes o (take at file)))
      (drop (length (field_bytes o (take at file))) (field_bytes o (take (at + n) file))))
  holds_more at n ext h =
      let a = take (at - 2) fields in
      let b = take (at + n - 2) fields in
      let p : take (at - 2) b ≡ a = take-take (at - 2) (at + n - 2) fields (omega arith) in
      let q : take (length a) b ≡ a = ap (λ (l : List ℕ). take (length l) b) (sym p) ∙ take-length-take (at - 2) b ∙ p in
      let e = stored-behind a b ext q (omega (arith, h.long, length-take (at + n - 2) fields)) h.front in
      rw (kept at, kept (at + n)) (record { long = omega (arith, h.long, length-sets ext (length a) (drop (length a) b)); front = e })

  pub holds-all : (ext : List ℕ) → FieldsHeld (length file) ext → take (length fields) ext ≡ fields
  holds-all ext h =
      let e : take (length file - 2) fields ≡ fields = take_all (length file - 2) fields (omega (arith, length-append fields τ)) in
      ap (λ (l : List ℕ). take (length l) ext) (sym e) ∙ h.front ∙ e
