-- A header with a body behind it.
use Rattle.std.proofs.Common.{Option}
use Rattle.ext.specs.declared.ExtFieldType.{ExtFieldType}
use Prim.Native.Nat.{ℕ, ◌+◌, ◌-◌, ◌≤◌, ◌<◌}
use mathlib.Core.Path.{◌≡◌, refl, sym, ap, ◌∙◌, subst}
use mathlib.Core.Bool.{Bool, true, false, ◌||◌}
use mathlib.Core.List.{List, ◌∷◌, ◌++◌, append_assoc}
use native.Mathlib.Omega.{arith}
use borrow.Author.Tests.{leb-true, leb-false}
use borrow.Rule.Slice.PartMut.{mid_of, put_mid}
use lib.Dec.{leb, eqb}
use lib.ListN.{length, take, drop, length-append, length-drop, take-append-drop}
use lib.Seq.{sets, length-take-le, take_all, take_at, drop_at, drop-append-le}
use Rattle.error.specs.Choice.{if}
use Rattle.error.specs.Answer.{Answer, gives, refuses, bind, map}
use Rattle.error.specs.Emits.{Emits}
use Rattle.laws.proofs.Emitted.{emits-length}
use Rattle.laws.proofs.Tests.{zero_one}
use Rattle.laws.proofs.Runs.{sets-append, sets-front, sets-part}
use Rattle.laws.proofs.Writers.{emits_none, emits-all}
use Rattle.mbi.specs.Bytes.{mbi_bytes}
use Rattle.ext.specs.Kinds.{Fields}
use Rattle.ext_write.specs.Write.{fields_bytes}
use Rattle.header.specs.Write.{fix_byte, size_bytes, header_bytes, fields_header, presented, ext_header}
use Rattle.encoder.specs.Internal.Parts.{Heads}

module _ (a : Answer (List ℕ)) (body : ℕ) (old : List ℕ) where
  abbrev room : ℕ
  room = length old - body

  -- from the part that was lent to the header's writer
  pub headed : (r : Answer ℕ) (last : List ℕ) (n : ℕ) → n ≡ room → Emits a r (take n old) last → Heads a body r old (last ++ drop n old)
  headed r last n e m =
      let l : length last ≡ n = emits-length a r (take n old) last m ∙ length-take-le n old (omega arith) in
      let f = take_at last (drop n old) n l in
      let b = drop_at last (drop n old) n l in
      record {
        front = subst (λ (k : ℕ). Emits a r (take k old) (take k (last ++ drop n old))) e (rw f m);
        back = subst (λ (k : ℕ). drop k (last ++ drop n old) ≡ drop k old) e b;
      }

  lent : length (take room old) ≡ room
  lent = length-take-le room old (omega arith)

  -- the output by its two parts
  module _ {r : Answer ℕ} {mid : List ℕ} (c : Heads a body r old mid) where
    pub kept-length : length mid ≡ length old
    kept-length =
        let p = emits-length a r (take room old) (take room mid) c.front in
        let q = ap length (take-append-drop room mid) in
        let s = ap length c.back in
        let t : length (take room mid) + length (drop room mid) ≡ length mid = rw length-append at q in
        let u : length (drop room old) ≡ length old - room = length-drop room old in
        omega (arith, lent)

    joined : (front : List ℕ) → take room mid ≡ front → mid ≡ front ++ drop room old
    joined front e = sym (take-append-drop room mid) ∙ ap (λ (l : List ℕ). l ++ drop room mid) e ∙ ap (λ (l : List ℕ). front ++ l) c.back

    unaltered : take room mid ≡ take room old → mid ≡ old
    unaltered e = joined (take room old) e ∙ take-append-drop room old

-- What a header's bytes, which are never none, leave of the output.
pub record Fronted (header : List ℕ) (body : ℕ) (old : List ℕ) (n : ℕ) (mid : List ℕ) : Type 0 where
  pub fits : length header + body ≤ length old
  pub count : n ≡ length header
  pub bytes : mid ≡ sets old 0 header

module _ (header : List ℕ) (some : 0 < length header) (body : ℕ) (old : List ℕ) where
  fronted : (n : ℕ) (mid : List ℕ) → Heads (gives header) body (gives n) old mid → Fronted header body old n mid
  fronted n mid c = go (leb (length header) (length (take (length old - body) old))) refl c.front.answer c.front.bytes
    where
      go : (t : Bool) → leb (length header) (length (take (length old - body) old)) ≡ t
          → gives n ≡ if t (gives (length header)) (refuses 25 0)
          → take (length old - body) mid ≡ if t (header ++ drop (length header) (take (length old - body) old))
          (take (length old - body) old)
          → Fronted header body old n mid
      go true p q e =
          let k = leb-true (length header) (length (take (length old - body) old)) p in
          let l = lent (gives header) body old in
          let f : length header ≤ length old = omega arith in
          let b : drop (length header) (take (length old - body) old) ++ drop (length old - body) old ≡ drop (length header) old =
          sym (drop-append-le (length header) (take (length old - body) old) (drop (length old - body) old) k)
          ∙ ap (drop (length header)) (take-append-drop (length old - body) old) in
          record {
            fits = omega arith;
            count = cc;
            bytes =
                joined (gives header) body old c _ e
                ∙ append_assoc header (drop (length header) (take (length old - body) old)) (drop (length old - body) old)
                ∙ ap (λ (l : List ℕ). header ++ l) b
                ∙ sym (sets-front old header f);
          }
      go false p q e = zero_one (cc)

module _ (a : Answer (List ℕ)) (some : (header : List ℕ) → a ≡ gives header → 0 < length header) where
  -- the body has room behind the header
  pub body-room : (body n : ℕ) (old mid : List ℕ) → Heads a body (gives n) old mid → n + body ≤ length mid
  body-room body n old mid c = go a refl c
    where
      go : (x : Answer (List ℕ)) → a ≡ x → Heads x body (gives n) old mid → n + body ≤ length mid
      go (gives header) e c =
          let f = fronted header (some header e) body old n mid c in
          let l = kept-length (gives header) body old c in
          omega (arith, f.fits, f.count)
      go (refuses code offset) e c = zero_one (cc c.front.answer)

  -- the header and the body
  pub file-written : (body old mid new : List ℕ) (n written : ℕ) → written ≡ n + length body → Heads a (length body) (gives n) old mid
      → new ≡ sets mid n body → Emits (map (λ header. header ++ body) a) (gives written) old new
  file-written body old mid new n written w c s = go a refl c
    where
      go : (x : Answer (List ℕ)) → a ≡ x → Heads x (length body) (gives n) old mid
          → Emits (map (λ header. header ++ body) x) (gives written) old new
      go (gives header) e c =
          let f = fronted header (some header e) (length body) old n mid c in
          let l = length-append header body in
          let k : n ≡ 0 + length header = omega (arith, f.count) in
          emits-all (header ++ body) old new written (omega (arith, f.fits)) (omega (arith, f.count))
          (s
          ∙ ap (λ (q : List ℕ). sets q n body) f.bytes
          ∙ ap (λ (q : ℕ). sets (sets old 0 header) q body) k
          ∙ sets-append old 0 header body
          ∙ sets-front old (header ++ body) (omega (arith, f.fits)))
      go (refuses code offset) e c = zero_one (cc c.front.answer)

-- what a function leaves that was lent the output behind the header
pub behind : (mid body last : List ℕ) (n : ℕ) → n + length body ≤ length mid
    → last ≡ body ++ drop (length body) (mid_of n (length mid - n) mid)
    → put_mid n (length mid - n) mid last ≡ sets mid n body
behind mid body last n h e =
    let d : mid_of n (length mid - n) mid ≡ drop n mid = take_all (length mid - n) (drop n mid) (rw (length-drop n mid) (omega arith)) in
    ap (put_mid n (length mid - n) mid) (e ∙ ap (λ (l : List ℕ). body ++ drop (length body) l) d) ∙ sets-part mid body n h

-- a refusal leaves the output as it was
pub file-refused : (a : Answer (List ℕ)) (body old mid : List ℕ) (code offset : ℕ) → Heads a (length body) (refuses code offset) old mid
    → Emits (map (λ header. header ++ body) a) (refuses code offset) old mid
file-refused (gives header) body old mid code offset c =
    go (leb (length header) (length (take (length old - length body) old))) refl c.front.answer c.front.bytes
  where
    go : (t : Bool) → leb (length header) (length (take (length old - length body) old)) ≡ t
        → refuses code offset ≡ if t (gives (length header)) (refuses 25 0)
        → take (length old - length body) mid
        ≡ if t (header ++ drop (length header) (take (length old - length body) old)) (take (length old - length body) old)
        → Emits (gives (header ++ body)) (refuses code offset) old mid
    go true p q e = zero_one (cc)
    go false p q e =
        let k = leb-false (length header) (length (take (length old - length body) old)) p in
        let l = lent (gives header) (length body) old in
        let n = length-append header body in
        rw (q, unaltered (gives header) (length body) old c e) (emits_none (header ++ body) old (omega arith))
file-refused (refuses code' offset') body old mid code offset c =
    record { answer = c.front.answer; bytes = unaltered (refuses code' offset') (length body) old c c.front.bytes }

-- a header is never empty
pub header-some : (strict : Bool) (w h : ℕ) (p : Option ExtFieldType) (text lengths header : List ℕ)
    → ext_header strict w h p text lengths ≡ gives header
    → 0 < length header
header-some strict w h p text lengths header =
    go (eqb w 0 || eqb h 0) (presented p text lengths)
  where
    each : (f : Fields) (x : Answer (List ℕ)) → map (λ bytes. header_bytes (fix_byte f) bytes w h) x ≡ gives header → 0 < length header
    each f (gives bytes) e =
        let q : header_bytes (fix_byte f) bytes w h ≡ header = cc in
        let l = length-append (mbi_bytes 0) (fix_byte f ∷ (bytes ++ size_bytes w h)) in
        let m : length (header_bytes (fix_byte f) bytes w h) ≡ length header = ap length q in
        omega arith
    each f (refuses code offset) e = zero_one (cc)

    go : (t : Bool) (x : Answer Fields) → if t (refuses 8 0) (bind x (fields_header strict w h)) ≡ gives header → 0 < length header
    go true x e = zero_one (cc)
    go false (gives f) e = each f (fields_bytes strict f) e
    go false (refuses code offset) e = zero_one (cc)
