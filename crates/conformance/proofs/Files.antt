-- What a file that is written or made consists of.
use Rattle.std.proofs.Common.{Option, Some, None}
use Rattle.ext.specs.declared.ExtFieldType.{ExtFieldType}
use Prim.Native.Nat.{ℕ, ◌+◌, ◌<◌}
use mathlib.Core.Path.{◌≡◌, refl, sym, ap, ◌∙◌, subst}
use mathlib.Core.Bool.{Bool, true, false, ◌||◌}
use mathlib.Core.List.{List, [], ◌∷◌, ◌++◌}
use mathlib.Core.Logic.{◌⊎◌, inl, inr}
use native.Mathlib.Nat.{pos_of_ne-zero}
use native.Mathlib.Omega.{arith}
use borrow.Author.Tests.{eqb-false}
use lib.Dec.{eqb}
use lib.ListN.{length, drop, length-append}
use lib.Seq.{drop_at}
use Rattle.error.specs.Choice.{if}
use Rattle.error.specs.Answer.{gives, refuses}
use Rattle.laws.proofs.Answers.{bind-gives, map_gives, unless}
use Rattle.laws.proofs.Tests.{neither, zero_one}
use Rattle.mbi.specs.Bytes.{mbi_bytes, groups}
use Rattle.ext.specs.Kinds.{Fields, none, bitfield, reserved, pairs}
use Rattle.ext_write.specs.Write.{fields_bytes, lent_fields, cut_pairs, sum}
use Rattle.ext.specs.declared.ExtFieldType.TheVariants.{Bitfield00, Reserved01, Reserved10, ParameterPairs11}
use Rattle.header.specs.Settings.{Settings}
use Rattle.header.specs.Read.{Header, read_header}
use Rattle.header.specs.Write.{fix_byte, size_bytes, header_bytes, fields_header, presented, ext_header}
use Rattle.header.proofs.RoundTrip.{shown, Fitting, header-back}
use Rattle.options.specs.Limits.{Mode, lenient, strict}
use Rattle.options.specs.declared.EncodeOptions.{EncodeOptions}
use Rattle.decoder.specs.Image.{image_settings}
use Rattle.encoder.specs.File.{file_of}
use Rattle.conformance.specs.ReadBack.{Taken}

-- the header of the fields, and the body
pub record Filed (strict : Bool) (width height : ℕ) (fields : Fields) (body bytes : List ℕ) : Type 0 where
  pub field_bytes : List ℕ
  pub wide : 0 < width
  pub high : 0 < height
  pub fields_give : fields_bytes strict fields ≡ gives field_bytes
  pub bytes_are : bytes ≡ header_bytes (fix_byte fields) field_bytes width height ++ body

pub filed : (o : EncodeOptions) (width height : ℕ) (text lengths body bytes : List ℕ) (fields : Fields)
    → presented o.ext text lengths ≡ gives fields → file_of o width height text lengths body ≡ gives bytes
    → Filed o.strict width height fields body bytes
filed o width height text lengths body bytes fields lent e =
    let m = map_gives (λ (header : List ℕ). header ++ body) (ext_header o.strict width height o.ext text lengths) bytes e in
    let t = unless (eqb width 0 || eqb height 0) 8 0 _ m.0 m.1 in
    let z = neither (eqb width 0) (eqb height 0) t.0 in
    let f = bind-gives (presented o.ext text lengths) (fields_header o.strict width height) m.0 t.1 in
    let p = f.1 in
    let same : f.0 ≡ fields = cc in
    let n = map_gives (λ (fb : List ℕ). header_bytes (fix_byte f.0) fb width height) (fields_bytes o.strict f.0) m.0 f.2 in
    record {
      field_bytes = n.0;
      wide = pos_of_ne-zero (eqb-false width 0 z.0);
      high = pos_of_ne-zero (eqb-false height 0 z.1);
      fields_give = subst (λ (g : Fields). fields_bytes o.strict g ≡ gives n.0) same n.1;
      bytes_are =
          sym m.2 ∙ ap (λ (l : List ℕ). l ++ body) (sym n.2)
          ∙ ap (λ (g : Fields). header_bytes (fix_byte g) n.0 width height ++ body) same;
    }

-- the header is read, and the body stands behind it
header-length : (fix : ℕ) (fields : List ℕ) (w h : ℕ)
    → length (header_bytes fix fields w h) ≡ 2 + length fields + length (mbi_bytes w) + length (mbi_bytes h)
unfolding mbi_bytes groups
header-length fix fields w h =
    omega (arith, length-append fields (size_bytes w h), length-append (mbi_bytes w) (mbi_bytes h))

module _ (strict : Bool) (width height : ℕ) (fields : Fields) (body bytes : List ℕ) (f : Filed strict width height fields body bytes) where
  abbrev pub head : Header
  head = shown width height fields (length f.field_bytes)

  pub header_read : (s : Settings) → width < 4294967296 → height < 4294967296 → Fitting s strict fields → read_header s bytes ≡ gives head
  header_read s wb hb fit =
      ap (read_header s) f.bytes_are
      ∙ header-back s strict width height fields f.field_bytes body f.wide wb f.high hb fit f.fields_give

  abbrev front : List ℕ
  front = header_bytes (fix_byte fields) f.field_bytes width height

  pub behind : drop head.body bytes ≡ body
  behind =
      ap (drop head.body) f.bytes_are ∙ drop_at front body head.body (header-length (fix_byte fields) f.field_bytes width height)

  pub size_is : length bytes ≡ head.body + length body
  size_is =
      ap length f.bytes_are ∙ length-append front body
      ∙ ap (λ (n : ℕ). n + length body) (header-length (fix_byte fields) f.field_bytes width height)

-- a single octet that is lent is of kind 01 or 10
single : (presence : Option ExtFieldType) (text lengths : List ℕ) (kind octet : ℕ) → presented presence text lengths ≡ gives (reserved kind octet)
    → (kind ≡ 1) ⊎ (kind ≡ 2)
unfolding lent_fields
single None text lengths kind octet e = zero_one (cc)
single (Some Bitfield00) text lengths kind octet e = zero_one (cc)
single (Some Reserved01) [] lengths kind octet e = zero_one (cc)
single (Some Reserved01) (b ∷ text) lengths kind octet e = inl (cc)
single (Some Reserved10) [] lengths kind octet e = zero_one (cc)
single (Some Reserved10) (b ∷ text) lengths kind octet e = inr (cc)
single (Some ParameterPairs11) text lengths kind octet e = go (eqb (sum lengths) (length text)) e
  where
    go : {X : Type 0} (t : Bool) → if t (gives (pairs (cut_pairs lengths text))) (refuses 31 0) ≡ gives (reserved kind octet) → X
    go true e = zero_one (cc)
    go false e = zero_one (cc)

-- a reading that takes lent fields reads them back
pub fitting : (mode : Mode) (written : Bool) (presence : Option ExtFieldType) (text lengths : List ℕ) (fields : Fields)
    → presented presence text lengths ≡ gives fields
    → Taken mode written fields → Fitting (image_settings mode) written fields
fitting strict written presence text lengths fields e t = subst (Fitting (image_settings strict) written) (sym t) tt
fitting lenient written presence text lengths none e t = tt
fitting lenient written presence text lengths (bitfield octets) e t = (t, refl, refl, λ z. zero_one (cc))
fitting lenient written presence text lengths (reserved kind octet) e t =
    (single presence text lengths kind octet e, refl, refl, λ z. zero_one (cc))
fitting lenient written presence text lengths (pairs ps) e t = (t, refl, refl, λ z. zero_one (cc))

-- every reading takes no fields
pub plain : (mode : Mode) (written : Bool) → Taken mode written none
plain strict written = refl
plain lenient written = tt
