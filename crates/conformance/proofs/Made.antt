-- What is made is read back, and sniffing says exact of it without fields and with sizes up to 16,384.
use Rattle.std.proofs.Common.{Option, None}
use Rattle.ext.specs.declared.ExtFieldType.{ExtFieldType}
use Prim.Native.Nat.{ℕ, ◌*◌, ◌≤◌, ◌<◌}
use mathlib.Core.Path.{◌≡◌, ap, ◌∙◌}
use mathlib.Core.Bool.{true}
use mathlib.Core.List.{List, ◌++◌}
use native.Mathlib.Nat.{mul-le-mul_right}
use native.Mathlib.Omega.{arith}
use lib.ListN.{length, take, drop, length-drop}
use Rattle.error.specs.Answer.{gives}
use Rattle.laws.proofs.Answers.{bind-gives}
use Rattle.laws.proofs.Products.{up_to}
use Rattle.ext.specs.Kinds.{Fields, none}
use Rattle.header.specs.Write.{presented, ext_header}
use Rattle.image.specs.Dots.{is_white}
use Rattle.image.specs.Geometry.{row_bytes, plane_bytes}
use Rattle.image.specs.declared.PixelFormat.TheVariants.{MonoBlack}
use Rattle.options.specs.Limits.{Decoding}
use Rattle.options.specs.declared.EncodeOptions.{EncodeOptions}
use Rattle.rules.specs.Rule.{Rule, rule_asked, rule_given}
use Rattle.quantize.specs.Finished.{setting, finished}
use Rattle.quantize.proofs.FramesJoined.{scans-long, scans-more}
use Rattle.quantize.proofs.WholePlanes.{plane-long}
use Rattle.encoder.specs.File.{file_of}
use Rattle.encoder.specs.Make.{check_scans, scan_bytes, file_of_scans}
use Rattle.encoder.proofs.ScanTests.{Passed as Passes, passed as scans-passed}
use Rattle.api.specs.Sniff.{is_clear, sniffed}
use Rattle.api.specs.declared.Sniffed.TheVariants.{Exact}
use Rattle.conformance.specs.ReadBack.{Taken, Admitted, plane_in, lent_scan, scan_white, ReadsBack}
use Rattle.conformance.proofs.Joined.{piece_back}
use Rattle.conformance.proofs.Files.{filed, fitting, plain}
use Rattle.conformance.proofs.ReadBack.{file-back, renamed}
use Rattle.conformance.proofs.ScanDots.{finished-octets, finished-last, scan-dots}
use Rattle.conformance.proofs.SniffsExact.{cleared, file-exact}

-- the tests that a file's scans have passed
module _ (ceiling : ℕ) (o : EncodeOptions) (width height count : ℕ) (gray text lengths : List ℕ) (work : ℕ) (bytes : List ℕ) where
  pub record Passed : Type 0 where
    pub tests : Passes ceiling o.quantize width height count (length gray) work
    pub file : file_of o width height text lengths (scan_bytes (rule_given (rule_asked o)) width height gray count) ≡ gives bytes

  pub passed : file_of_scans ceiling o width height count gray text lengths work ≡ gives bytes → Passed
  unfolding file_of_scans
  passed e =
      let p = bind-gives (check_scans ceiling o width height count (length gray) work) _ bytes e in
      record { tests = scans-passed ceiling o width height count (length gray) work p.1; file = p.2 }

-- the planes of so many scans
module _ (rule : Rule) (width height : ℕ) (gray : List ℕ) (wide : 0 < width) (high : 0 < height) (count : ℕ)
    (enough : count * (width * height) ≤ length gray) where
  abbrev body : ℕ → List ℕ
  body = scan_bytes rule width height gray

  abbrev made : ℕ → List ℕ
  made k = finished (setting rule width height 1) (lent_scan width height gray k)

  there : (k : ℕ) → k ≤ count → k * (width * height) ≤ length gray
  there k l = let m : k * (width * height) ≤ count * (width * height) = mul-le-mul_right (width * height) l in omega arith

  pub body-size : (k : ℕ) → k ≤ count → length (body k) ≡ k * plane_bytes width height
  body-size k l = scans-long rule width height gray wide high k (there k l)

  pub body-plane : (k : ℕ) → k < count → plane_in width height (body count) k ≡ made k
  body-plane k =
      piece_back (plane_bytes width height) count made body body-size
      (λ k l. scans-more rule width height gray wide high k (there k (omega arith)))
      count k (omega arith)

  pub made-size : (k : ℕ) → k < count → length (made k) ≡ height * row_bytes width
  made-size k l =
      plane-long rule width height wide high (drop (k * (width * height)) gray)
      (rw length-drop (omega (arith, up_to (width * height) k count l)))

  pub body-clear : (r : ℕ) → r < count * height → is_clear width (body count) r ≡ true
  body-clear r l =
      let e : count * height * row_bytes width ≡ count * plane_bytes width height = omega arith in
      cleared width (body count) r _
      (finished-last (setting rule width height count) _ r wide
      (omega (arith, up_to (row_bytes width) r (count * height) l, body-size count (omega arith))))

-- Making gives the header and the bytes that the samples of all scans finish.
pub made-is : (ceiling : ℕ) (o : EncodeOptions) (width height count : ℕ) (gray text lengths : List ℕ) (work : ℕ) (header : List ℕ)
    → check_scans ceiling o width height count (length gray) work ≡ gives tt
    → ext_header o.strict width height o.ext text lengths ≡ gives header
    → file_of_scans ceiling o width height count gray text lengths work
    ≡ gives (header ++ finished (setting (rule_given (rule_asked o)) width height count) (take (count * (width * height)) gray))
unfolding file_of_scans
made-is ceiling o width height count gray text lengths work header p e = rw (p, e)

-- Whole reading that takes the fields and admits the size shows the dots that the rule gives each scan.
pub made-back : (ceiling most : ℕ) (d : Decoding) (o : EncodeOptions) (width height count : ℕ) (gray text lengths : List ℕ) (work : ℕ)
    (bytes : List ℕ)
    (fields : Fields) → width < 4294967296 → height < 4294967296 → 1 ≤ most
    → presented o.ext text lengths ≡ gives fields → Taken d.mode o.strict fields → Admitted d width height
    → file_of_scans ceiling o width height count gray text lengths work ≡ gives bytes
    → ReadsBack most d bytes width height fields count
    (λ k. finished (setting (rule_given (rule_asked o)) width height 1) (lent_scan width height gray k))
    (λ k. scan_white (rule_given (rule_asked o)) width height (lent_scan width height gray k))
made-back ceiling most d o width height count gray text lengths work bytes fields wb hb r e t a w =
    let p = passed ceiling o width height count gray text lengths work bytes w in
    let rule = rule_given (rule_asked o) in
    let body = scan_bytes rule width height gray count in
    let f = filed o width height text lengths body bytes fields e p.file in
    let planes = body-plane rule width height gray f.wide f.high count p.tests.enough in
    renamed planes
    (λ k x y l.
    ap (λ (s : List ℕ). is_white MonoBlack width height (row_bytes width) s x y) (planes k l)
    ∙ scan-dots rule width height (lent_scan width height gray k)
    (made-size rule width height gray f.wide f.high count p.tests.enough k l) x y)
    (file-back most d o.strict width height fields count body bytes f p.tests.sized.some r wb hb
    (fitting d.mode o.strict o.ext text lengths fields e t) a
    (body-size rule width height gray f.wide f.high count p.tests.enough count (omega arith))
    (finished-octets (setting rule width height count) _))

-- What has no fields is read back strictly too.
pub made_plain : (ceiling most : ℕ) (d : Decoding) (o : EncodeOptions) (width height count : ℕ) (gray text lengths : List ℕ) (work : ℕ)
    (bytes : List ℕ)
    → width < 4294967296 → height < 4294967296 → 1 ≤ most → o.ext ≡ None → Admitted d width height
    → file_of_scans ceiling o width height count gray text lengths work ≡ gives bytes
    → ReadsBack most d bytes width height none count
    (λ k. finished (setting (rule_given (rule_asked o)) width height 1) (lent_scan width height gray k))
    (λ k. scan_white (rule_given (rule_asked o)) width height (lent_scan width height gray k))
made_plain ceiling most d o width height count gray text lengths work bytes wb hb r e a w =
    made-back ceiling most d o width height count gray text lengths work bytes none wb hb r
    (ap (λ (p : Option ExtFieldType). presented p text lengths) e) (plain d.mode o.strict) a w

pub made-exact : (o : EncodeOptions) (width height count : ℕ) (gray text lengths : List ℕ) (work : ℕ) (bytes : List ℕ)
    → o.ext ≡ None → width ≤ 16384 → height ≤ 16384 → file_of_scans 16 o width height count gray text lengths work ≡ gives bytes
    → sniffed bytes ≡ Exact
made-exact o width height count gray text lengths work bytes e wb hb w =
    let p = passed 16 o width height count gray text lengths work bytes w in
    let rule = rule_given (rule_asked o) in
    let body = scan_bytes rule width height gray count in
    let f = filed o width height text lengths body bytes none (ap (λ (p : Option ExtFieldType). presented p text lengths) e) p.file in
    file-exact o.strict width height count body bytes f p.tests.sized wb hb
    (body-size rule width height gray f.wide f.high count p.tests.enough count (omega arith))
    (body-clear rule width height gray f.wide f.high count p.tests.enough)
