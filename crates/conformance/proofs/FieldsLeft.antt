-- The fields of a card as a reading leaves them in the extension buffer.
use Prim.Native.Nat.{ℕ, ◌+◌, ◌-◌, ◌*◌, ◌≤◌}
use mathlib.Core.Path.{◌≡◌, refl, sym, ap, ◌∙◌}
use mathlib.Core.Bool.{Bool, true, false, ◌&&◌}
use mathlib.Core.List.{List, [], ◌∷◌, append-nil}
use mathlib.Core.Logic.{⊎_elim}
use native.Mathlib.Omega.{arith}
use borrow.Author.Tests.{le-leb}
use lib.Dec.{ltb}
use lib.ListN.{length, take, drop}
use lib.Seq.{sets}
use Rattle.error.specs.Answer.{gives, map}
use Rattle.laws.proofs.Tests.{zero_one}
use Rattle.ext.specs.Kinds.{Fields, none, bitfield, reserved, pairs, span_of, fields_follow, kind_bits}
use Rattle.ext.specs.Read.{read_fields}
use Rattle.ext_write.specs.Write.{fields_bytes}
use Rattle.ext_write.specs.Ceiling.{kind_of, Readable, OfKind}
use Rattle.ext.proofs.Bounds.{fields-bound}
use Rattle.ext_write.proofs.ReadBack.{read_back}
use Rattle.header.specs.Settings.{Settings}
use Rattle.header.specs.Write.{fix_byte}
use Rattle.header_pieces.specs.Extension.{field_bytes}
use Rattle.decode_session.proofs.CutFields.{fields_file, FieldsHeld, holds-none, holds_more, holds-all}
use Rattle.conformance.specs.Lists.{fields_shown}

-- what the FixHeader byte of fields says
fix-says : (f : Fields) → OfKind f → (fields_follow (fix_byte f) ≡ true) × (kind_bits (fix_byte f) ≡ kind_of f)
fix-says none r = absurd r
fix-says (bitfield octets) r = (refl, refl)
fix-says (reserved kind octet) r = (le-leb 128 (128 + kind * 32) (omega arith), ⊎_elim (λ k. omega arith) (λ k. omega arith) r)
fix-says (pairs ps) r = (refl, refl)

-- the span of fields of so many bytes from offset 2 on shows those in the buffer
span-shows : (f : Fields) (n : ℕ) (extension : List ℕ) → OfKind f
    → fields_shown (span_of 2 (f, 2 + n)) extension ≡ map (λ x. x.0) (read_fields false true (kind_of f) (take n extension) 0)
span-shows none n extension r = absurd r
span-shows (bitfield octets) n extension r = let e : 2 + n - 2 ≡ n = omega arith in rw e
span-shows (reserved kind octet) n extension r = let e : 2 + n - 2 ≡ n = omega arith in rw e
span-shows (pairs ps) n extension r = let e : 2 + n - 2 ≡ n = omega arith in rw e

module _ (o : Settings) (strict : Bool) (f : Fields) (bytes τ : List ℕ) (kind : OfKind f) (readable : Readable f)
    (skipped : o.fix_zero ≡ false) (honoured : o.honoured ≡ true) (ease : o.classes ≡ true → strict ≡ true)
    (given : fields_bytes strict f ≡ gives bytes) where
  abbrev pub file : List ℕ
  file = fields_file (fix_byte f) bytes τ

  pub passed : (o.fix_zero && ltb 0 (fix_byte f)) ≡ false
  passed = rw skipped

  pub follow : (o.honoured && fields_follow (fix_byte f)) ≡ true
  follow = rw honoured (fix-says f kind).0

  pub read : (ρ : List ℕ) → read_fields o.classes true (kind_bits (fix_byte f)) (fields_file (fix_byte f) bytes ρ) 2
      ≡ gives (f, 2 + length bytes)
  read ρ = rw (fix-says f kind).1 (read_back strict o.classes ease (0 ∷ fix_byte f ∷ []) bytes ρ f kind readable given)

  -- the buffer holds the fields of the first bytes
  abbrev pub FileHeld : ℕ → List ℕ → Type 0
  FileHeld = FieldsHeld o (fix_byte f) bytes τ f passed follow read

  -- 4,118 bytes are enough
  pub held_none : (ext : List ℕ) → 4118 ≤ length ext → FileHeld 0 ext
  held_none ext l =
      holds-none o (fix_byte f) bytes τ f passed follow read ext
      (omega (
        arith,
        (fields-bound o.classes true (kind_bits (fix_byte f)) (fields_file (fix_byte f) bytes []) 2 (f, 2 + length bytes)
            (read [])).span_most,
      ))

  pub held_more : (at n : ℕ) (ext : List ℕ) → FileHeld at ext
      → FileHeld (at + n) (sets ext (length (field_bytes o (take at file)))
      (drop (length (field_bytes o (take at file))) (field_bytes o (take (at + n) file))))
  held_more = holds_more o (fix_byte f) bytes τ f passed follow read

  pub held-shows : (ext : List ℕ) → FileHeld (length file) ext → fields_shown (span_of 2 (f, 2 + length bytes)) ext ≡ gives f
  held-shows ext h =
      span-shows f (length bytes) ext kind
      ∙ ap (λ (l : List ℕ). map (λ (x : Fields × ℕ). x.0) (read_fields false true (kind_of f) l 0))
      (holds-all o (fix_byte f) bytes τ f passed follow read ext h ∙ sym (append-nil bytes))
      ∙ ap (map (λ (x : Fields × ℕ). x.0)) (read_back strict false (λ z. zero_one (cc)) [] bytes [] f kind readable given)
