-- A header that is written is read back, with what follows it untouched.
use Prim.Native.Nat.{ℕ, suc, ◌+◌, ◌*◌, ◌/◌, ◌%◌, ◌<◌}
use mathlib.Core.Path.{◌≡◌, ◌∙◌, refl, sym, ap, subst}
use mathlib.Core.Bool.{Bool, true, false, ◌&&◌}
use mathlib.Core.List.{List, [], ◌∷◌, ◌++◌, append_assoc}
use mathlib.Core.Logic.{◌⊎◌, ⊎_elim}
use native.Mathlib.Omega.{arith}
use borrow.Author.Tests.{lt-leb, le-leb, ne_eqb}
use lib.Dec.{ltb, leb}
use lib.ListN.{length, get_or, length-append}
use Rattle.error.specs.Answer.{gives}
use Rattle.laws.proofs.Tests.{and-false}
use Rattle.mbi.specs.Bytes.{mbi_bytes, groups}
use Rattle.mbi.specs.Read.{read_mbi}
use Rattle.mbi.proofs.RoundTrip.{read-written}
use Rattle.ext.specs.Kinds.{Pair, Fields, none, bitfield, reserved, pairs, fields_follow, kind_bits}
use Rattle.ext.specs.Classes.{all, is_alpha_digit}
use Rattle.ext.specs.Read.{read_fields}
use Rattle.ext_write.specs.Write.{fields_bytes, pairs_bytes, check_pair}
use Rattle.ext_write.specs.Ceiling.{kind_of, Readable, OfKind}
use Rattle.ext_write.proofs.ReadBack.{read_back}
use Rattle.header.specs.Settings.{Settings, inner, ext_inner}
use Rattle.header.specs.Read.{Header, read_header}
use Rattle.header.specs.Write.{fix_byte, size_bytes, header_bytes}

-- the header that is shown, its fields being of so many bytes
abbrev pub shown : ℕ → ℕ → Fields → ℕ → Header
shown w h f n =
    record {
      width = w;
      height = h;
      fix = fix_byte f;
      fields = f;
      start = 2;
      sizes = 2 + n;
      body = 2 + n + length (mbi_bytes w) + length
          (mbi_bytes h);
    }

-- a reader that takes fields f written strictly or not: every reader where there are none
abbrev pub Fitting : Settings → Bool → Fields → Type 0
Fitting o strict none = Unit {0}
Fitting o strict (bitfield octets) = Readable (bitfield octets) × (o.fix_zero ≡ false) × (o.honoured ≡ true)
    × (o.classes ≡ true → strict ≡ true)
Fitting o strict (reserved kind octet) = OfKind (reserved kind octet) × (o.fix_zero ≡ false) × (o.honoured ≡ true)
    × (o.classes ≡ true → strict ≡ true)
Fitting o strict (pairs ps) = Readable (pairs ps) × (o.fix_zero ≡ false) × (o.honoured ≡ true) × (o.classes ≡ true → strict ≡ true)

module _ (o : Settings) (strict : Bool) (w h : ℕ) (f : Fields) (bytes τ : List ℕ) where
  abbrev file : List ℕ
  file = header_bytes (fix_byte f) bytes w h ++ τ

  -- the file by its parts
  at_fields : file ≡ (0 ∷ fix_byte f ∷ []) ++ (bytes ++ (size_bytes w h ++ τ))
  unfolding mbi_bytes groups
  at_fields = ap (λ (l : List ℕ). 0 ∷ fix_byte f ∷ l) (append_assoc bytes (size_bytes w h) τ)

  at_width : file ≡ (0 ∷ fix_byte f ∷ bytes) ++ (mbi_bytes w ++ (mbi_bytes h ++ τ))
  at_width = at_fields ∙ ap (λ (l : List ℕ). 0 ∷ fix_byte f ∷ (bytes ++ l)) (append_assoc (mbi_bytes w) (mbi_bytes h) τ)

  at-height : file ≡ ((0 ∷ fix_byte f ∷ bytes) ++ mbi_bytes w) ++ (mbi_bytes h ++ τ)
  at-height = at_width ∙ sym (append_assoc (0 ∷ fix_byte f ∷ bytes) (mbi_bytes w) (mbi_bytes h ++ τ))

  type-back : read_mbi o.shortest file 0 ≡ gives (0, 1)
  unfolding mbi_bytes groups
  type-back = ap (λ (l : List ℕ). read_mbi o.shortest l 0) at_fields
      ∙ read-written o.shortest [] 0 (fix_byte f ∷ (bytes ++ (size_bytes w h ++ τ))) (omega arith)

  width_back : w < 4294967296 → read_mbi o.shortest file (2 + length bytes) ≡ gives (w, 2 + length bytes + length (mbi_bytes w))
  width_back b =
      let e : suc (suc (length bytes)) ≡ 2 + length bytes = omega arith in
      ap (λ (l : List ℕ). read_mbi o.shortest l (2 + length bytes)) at_width
      ∙ subst (λ (n : ℕ). read_mbi o.shortest ((0 ∷ fix_byte f ∷ bytes) ++ (mbi_bytes w ++ (mbi_bytes h ++ τ))) n
      ≡ gives (w, n + length (mbi_bytes w))) e
      (read-written o.shortest (0 ∷ fix_byte f ∷ bytes) w (mbi_bytes h ++ τ) b)

  height-back : h < 4294967296
      → read_mbi o.shortest file (2 + length bytes + length (mbi_bytes w))
      ≡ gives (h, 2 + length bytes + length (mbi_bytes w) + length (mbi_bytes h))
  height-back b =
      let e : length ((0 ∷ fix_byte f ∷ bytes) ++ mbi_bytes w)
      ≡ 2 + length bytes + length (mbi_bytes w) = omega (arith, length-append (0 ∷ fix_byte f ∷ bytes) (mbi_bytes w)) in
      ap (λ (l : List ℕ). read_mbi o.shortest l (2 + length bytes + length (mbi_bytes w))) at-height
      ∙ subst (λ (n : ℕ). read_mbi o.shortest (((0 ∷ fix_byte f ∷ bytes) ++ mbi_bytes w) ++ (mbi_bytes h ++ τ)) n
      ≡ gives (h, n + length (mbi_bytes h))) e
      (read-written o.shortest ((0 ∷ fix_byte f ∷ bytes) ++ mbi_bytes w) h τ b)

  -- the fields, where the reader takes them
  fields-taken : OfKind f → Readable f → o.honoured ≡ true → (o.classes ≡ true → strict ≡ true) → fields_bytes strict f ≡ gives bytes
      → read_fields o.classes (o.honoured && true) (kind_of f) file 2 ≡ gives (f, 2 + length bytes)
  fields-taken k r t c e =
      rw t (ap (λ (l : List ℕ). read_fields o.classes true (kind_of f) l 2) at_fields
      ∙ read_back strict o.classes c (0 ∷ fix_byte f ∷ []) bytes (size_bytes w h ++ τ) f k r e)

-- the bits of the FixHeader byte of a single octet
reserved-bits : (kind : ℕ) → (kind ≡ 1) ⊎ (kind ≡ 2) → (leb 128 (128 + kind * 32) ≡ true) × ((128 + kind * 32) / 32 % 4 ≡ kind)
reserved-bits kind p = (le-leb 128 (128 + kind * 32) (omega arith), ⊎_elim (λ k. omega arith) (λ k. omega arith) p)

-- the fields as the FixHeader byte announces them
fields_back : (o : Settings) (strict : Bool) (w h : ℕ) (f : Fields) (bytes τ : List ℕ) → Fitting o strict f → fields_bytes strict f
    ≡ gives bytes
    → read_fields o.classes (o.honoured && fields_follow (fix_byte f)) (kind_bits (fix_byte f)) (file o strict w h f bytes τ) 2
    ≡ gives (f, 2 + length bytes)
unfolding read_fields fields_bytes
fields_back o strict w h none bytes τ p e =
    let b : [] ≡ bytes = cc in
    rw (and-false o.honoured) (ap (λ (l : List ℕ). gives (none, 2 + length l)) b)
fields_back o strict w h (bitfield octets) bytes τ p e = fields-taken o strict w h (bitfield octets) bytes τ tt p.0 p.2 p.3 e
fields_back o strict w h (pairs ps) bytes τ p e = fields-taken o strict w h (pairs ps) bytes τ tt p.0 p.2 p.3 e
fields_back o strict w h (reserved kind octet) bytes τ p e =
    let b = reserved-bits kind p.0 in
    rw (b.0, b.1) (fields-taken o strict w h (reserved kind octet) bytes τ p.0 tt p.2 p.3 e)

-- no reader that takes the fields asks for a FixHeader byte of 0
fix-taken : (o : Settings) (strict : Bool) (f : Fields) → Fitting o strict f → (o.fix_zero && ltb 0 (fix_byte f)) ≡ false
fix-taken o strict none p = and-false o.fix_zero
fix-taken o strict (bitfield octets) p = rw p.1
fix-taken o strict (reserved kind octet) p = rw p.1
fix-taken o strict (pairs ps) p = rw p.1

-- What is written is read back by every reader that takes the fields.
pub header-back : (o : Settings) (strict : Bool) (w h : ℕ) (f : Fields) (bytes τ : List ℕ) → 0 < w → w < 4294967296 → 0 < h → h < 4294967296
    → Fitting o strict f → fields_bytes strict f ≡ gives bytes
    → read_header o (header_bytes (fix_byte f) bytes w h ++ τ) ≡ gives (shown w h f (length bytes))
unfolding read_header
header-back o strict w h f bytes τ wz wb hz hb p e =
    let s = file o strict w h f bytes τ in
    let n : 1 < length s = rw (at_fields o strict w h f bytes τ) (omega arith) in
    let g : get_or s 1 0 ≡ fix_byte f = ap (λ (l : List ℕ). get_or l 1 0) (at_fields o strict w h f bytes τ) in
    rw (
      type-back o strict w h f bytes τ,
      lt-leb (length s) 1 n,
      g,
      fix-taken o strict f p,
      fields_back o strict w h f bytes τ p e,
      width_back o strict w h f bytes τ wb,
      height-back o strict w h f bytes τ hb,
      ne_eqb w 0 (λ z. omega arith),
      ne_eqb h 0 (λ z. omega arith),
    )

-- P5's header, written strictly and read so, before a byte of its body; and nine by two without fields, read by the strictest reader
pair : Pair
pair = record { identifier = 0x6B ∷ []; value = 0x31 ∷ 0x32 ∷ [] }

example-fields : read_header (ext_inner true) (header_bytes 0xE0 (0x12 ∷ 0x6B ∷ 0x31 ∷ 0x32 ∷ []) 9 2 ++ (0xFF ∷ []))
    ≡ gives (shown 9 2 (pairs (pair ∷ [])) 4)
unfolding fields_bytes pairs_bytes check_pair all is_alpha_digit pair
example-fields =
    header-back (ext_inner true) true 9 2 (pairs (pair ∷ [])) (0x12 ∷ 0x6B ∷ 0x31 ∷ 0x32 ∷ []) (0xFF ∷ []) (omega arith) (omega arith)
    (omega arith) (omega arith)
    ((omega arith, tt), refl, refl, λ z. refl) refl

example-plain : read_header (inner true) (header_bytes 0 [] 9 2 ++ (0xFF ∷ [])) ≡ gives (shown 9 2 none 0)
unfolding fields_bytes
example-plain = header-back (inner true) true 9 2 none [] (0xFF ∷ []) (omega arith) (omega arith) (omega arith) (omega arith) tt refl
