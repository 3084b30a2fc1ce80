-- What is written is read back.
use Rattle.std.proofs.Common.{Option, None}
use Rattle.ext.specs.declared.ExtFieldType.{ExtFieldType}
use Prim.Native.Nat.{ℕ, zero, suc, ◌+◌, ◌-◌, ◌*◌, ◌^◌, ◌≤◌, ◌<◌}
use mathlib.Core.Path.{◌≡◌, refl, ap, ◌∙◌, subst}
use mathlib.Core.List.{List, ◌++◌}
use native.Mathlib.Nat.{div-mul-le_self}
use native.Mathlib.Omega.{arith}
use lib.ListN.{length, get_or}
use Rattle.error.specs.Answer.{gives}
use Rattle.laws.proofs.Answers.{bind-gives}
use Rattle.laws.proofs.Lists.{length_part}
use Rattle.laws.proofs.Octets.{Octets, octets-nil, octets-set, octets-append}
use Rattle.laws.proofs.Products.{up_to}
use Rattle.ext.specs.Kinds.{Fields, none}
use Rattle.header.specs.Write.{presented}
use Rattle.image.specs.Dots.{is_white}
use Rattle.image.specs.Geometry.{row_bytes, plane_bytes, needed_bytes, padding_bits, check_geometry}
use Rattle.image.specs.Rows.{clear_low, clear_padding, source_row, to_native, wire_row, wire_bits}
use Rattle.image.specs.declared.PixelFormat.{PixelFormat}
use Rattle.image.specs.declared.PixelFormat.TheVariants.{MonoBlack}
use Rattle.image.proofs.MaskClears.{bytes-source, bytes-native}
use Rattle.image.proofs.GeometryTests.{accepted}
use Rattle.image.proofs.WireDots.{wire-dots}
use Rattle.image.proofs.WireRows.{source-there}
use Rattle.options.specs.Limits.{Decoding}
use Rattle.options.specs.declared.EncodeOptions.{EncodeOptions}
use Rattle.encoder.specs.File.{file_of}
use Rattle.encoder.specs.Write.{check_planes, lent_plane, wire_planes, file_of_planes}
use Rattle.encoder.proofs.PlaneTests.{Tested, tested}
use Rattle.encoder.proofs.PlanesLoop.{planes-length}
use Rattle.conformance.specs.ReadBack.{Taken, Admitted, plane_in, ReadsBack}
use Rattle.conformance.proofs.Joined.{piece_back}
use Rattle.conformance.proofs.Files.{filed, fitting, plain}
use Rattle.conformance.proofs.ReadBack.{file-back, renamed}

-- the bytes of wire bits are bytes
octets-clear : (w : ℕ) (row : List ℕ) → Octets row → Octets (clear_padding w row)
unfolding clear_padding
octets-clear w row o =
    let b = get_or row (length row - 1) 0 in
    octets-set row (length row - 1) (clear_low (padding_bits w) b)
    (omega (arith, div-mul-le_self b (2 ^ padding_bits w), o (length row - 1))) o

octets-wire : (f : PixelFormat) (w h s : ℕ) (plane : List ℕ) → Octets plane → Octets (wire_bits f w h s plane)
unfolding wire_bits wire_row
octets-wire f w zero s plane o = octets-nil
octets-wire f w (suc h) s plane o =
    octets-append (wire_bits f w h s plane) (wire_row f w s plane h) (octets-wire f w h s plane o)
    (octets-clear w (to_native f (source_row (row_bytes w) s plane h)) (bytes-native f _ (bytes-source (row_bytes w) s plane h o)))

module _ (format : PixelFormat) (width height stride : ℕ) (planes : List ℕ) where
  -- the planes as a file has them, each and end to end
  abbrev wired : ℕ → List ℕ
  wired k = wire_bits format width height stride (lent_plane width height stride planes k)

  abbrev body : ℕ → List ℕ
  body = wire_planes format width height stride planes

  body-next : (k : ℕ) → body (suc k) ≡ body k ++ wired k
  unfolding wire_planes
  body-next k = refl

  pub body-plane : (n k : ℕ) → k < n → plane_in width height (body n) k ≡ wired k
  body-plane n k =
      piece_back (plane_bytes width height) n wired body (λ k l. planes-length format width height stride planes k) (λ k l. body-next k) n k
      (omega arith)

  pub octets-body : (n : ℕ) → ((k : ℕ) → k < n → Octets (lent_plane width height stride planes k)) → Octets (body n)
  unfolding wire_planes
  octets-body zero o = octets-nil
  octets-body (suc n) o =
      octets-append (body n) (wired n) (octets-body n (λ k l. o k (omega arith)))
      (octets-wire format width height stride (lent_plane width height stride planes n) (o n (omega arith)))

-- the tests that a file's planes have passed
module _ (ceiling : ℕ) (o : EncodeOptions) (format : PixelFormat) (width height count stride : ℕ) (planes text lengths bytes : List ℕ) where
  pub record Passed : Type 0 where
    pub tests : Tested ceiling width height count stride (length planes)
    pub file : file_of o width height text lengths (wire_planes format width height stride planes count) ≡ gives bytes

  pub passed : file_of_planes ceiling o format width height count stride planes text lengths ≡ gives bytes → Passed
  unfolding file_of_planes
  passed e =
      let p = bind-gives (check_planes ceiling width height count stride (length planes)) _ bytes e in
      record { tests = tested ceiling width height count stride (length planes) p.1; file = p.2 }

  module _ (p : Passed) where
    -- plane k is lent whole
    lent-there : (k : ℕ) → k < count → k * needed_bytes width height stride + needed_bytes width height stride ≤ length planes
    lent-there k l = omega (arith, up_to (needed_bytes width height stride) k count l, p.tests.total)

    pub lent-passes : (k : ℕ) → k < count → check_geometry width height stride (length (lent_plane width height stride planes k)) ≡ gives tt
    lent-passes k l =
        let n = needed_bytes width height stride in
        let g = p.tests.plane in
        let e : length (lent_plane width height stride planes k) ≡ n =
        length_part n (k * n) planes (lent-there k l) in
        accepted width height stride _ g.wide g.high g.row p.tests.small (omega arith)

    pub lent-octets : Octets planes → (k : ℕ) → k < count → Octets (lent_plane width height stride planes k)
    lent-octets b k l =
        let n = needed_bytes width height stride in
        subst Octets (source-there n n planes k (lent-there k l)) (bytes-source n n planes k b)

-- Whole reading that takes the fields and admits the size shows what was lent.
pub written_back : (ceiling most : ℕ) (d : Decoding) (o : EncodeOptions) (format : PixelFormat) (width height count stride : ℕ)
    (planes text lengths bytes : List ℕ) (fields : Fields) → width < 4294967296 → height < 4294967296 → 1 ≤ most → Octets planes
    → presented o.ext text lengths ≡ gives fields → Taken d.mode o.strict fields → Admitted d width height
    → file_of_planes ceiling o format width height count stride planes text lengths ≡ gives bytes
    → ReadsBack most d bytes width height fields count (λ k. wire_bits format width height stride (lent_plane width height stride planes k))
    (λ k. is_white format width height stride (lent_plane width height stride planes k))
written_back ceiling most d o format width height count stride planes text lengths bytes fields wb hb r b e t a w =
    let p = passed ceiling o format width height count stride planes text lengths bytes w in
    let body = wire_planes format width height stride planes count in
    let octets = lent-octets ceiling o format width height count stride planes text lengths bytes p b in
    renamed (body-plane format width height stride planes count)
    (λ k x y l.
    ap (λ (s : List ℕ). is_white MonoBlack width height (row_bytes width) s x y) (body-plane format width height stride planes count k l)
    ∙ wire-dots format width height stride _ (lent-passes ceiling o format width height count stride planes text lengths bytes p k l)
    (octets k l) x y)
    (file-back most d o.strict width height fields count body bytes (filed o width height text lengths body bytes fields e p.file)
    p.tests.frames.some r wb hb (fitting d.mode o.strict o.ext text lengths fields e t) a
    (planes-length format width height stride planes count)
    (octets-body format width height stride planes count octets))

-- What has no fields is read back strictly too.
pub written-plain : (ceiling most : ℕ) (d : Decoding) (o : EncodeOptions) (format : PixelFormat) (width height count stride : ℕ)
    (planes text lengths bytes : List ℕ) → width < 4294967296 → height < 4294967296 → 1 ≤ most → Octets planes → o.ext ≡ None
    → Admitted d width height
    → file_of_planes ceiling o format width height count stride planes text lengths ≡ gives bytes
    → ReadsBack most d bytes width height none count (λ k. wire_bits format width height stride (lent_plane width height stride planes k))
    (λ k. is_white format width height stride (lent_plane width height stride planes k))
written-plain ceiling most d o format width height count stride planes text lengths bytes wb hb r b e a w =
    written_back ceiling most d o format width height count stride planes text lengths bytes none wb hb r b
    (ap (λ (p : Option ExtFieldType). presented p text lengths) e) (plain d.mode o.strict) a w
