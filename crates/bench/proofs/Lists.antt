-- Lists of calls on sessions that were just opened.
use Prim.Native.Nat.{ℕ, ◌≤◌, ◌<◌}
use mathlib.Core.Path.{◌≡◌, ◌∙◌, refl, ap, subst}
use mathlib.Core.Bool.{Bool, true, false, ◌||◌}
use mathlib.Core.List.{List, []}
use Rattle.std.proofs.Common.{None, Result}
use native.Mathlib.Omega.{arith}
use lib.Dec.{eqb, leb}
use lib.IntN.{ℤ}
use lib.ListN.{length}
use borrow.Author.Tests.{le-leb}
use Rattle.error.specs.Choice.{if}
use Rattle.error.specs.Answer.{Answer, gives, refuses, code_of, written}
use Rattle.error.specs.Emits.{Emits, emitted}
use Rattle.error.specs.declared.WbmpError.{WbmpError}
use Rattle.laws.proofs.Tests.{if-true, if-false, zero_one}
use Rattle.ext_write.specs.Write.{fields_bytes}
use Rattle.header.specs.Write.{header_bytes}
use Rattle.header.proofs.HeaderBytes.{header-length, sizes-ten}
use Rattle.image.specs.declared.PixelFormat.{PixelFormat}
use Rattle.options.specs.Limits.{Decoding, settled, decoding}
use Rattle.options.specs.Defaults.{defaults, with_format}
use Rattle.options.specs.declared.DecodeOptions.{DecodeOptions}
use Rattle.options.specs.declared.EncodeOptions.{EncodeOptions}
use Rattle.options.specs.declared.Quantize.{Quantize}
use Rattle.encoder.specs.Make.{Makes}
use Rattle.encoder.specs.Write.{file_of_planes}
use Rattle.encode_session.specs.Model as Making
use Rattle.encode_session.specs.Session as MakingSession
use Rattle.encode_session.specs.declared.EncodeSession.{EncodeSession}
use Rattle.encode_session.proofs.OpenCorrect.{passed}
use Rattle.decode_session.specs.Model as Reading
use Rattle.decode_session.specs.Session as ReadingSession
use Rattle.decode_session.specs.declared.DecodeSession.{DecodeSession}
use Rattle.replay.specs.Encode as Encode
use Rattle.replay.specs.Decode as Decode
use Rattle.bench.specs.Made.{Made}
use Rattle.bench.specs.Lists.{format_of, asked, rule, rule_of, planes_file, ReadsList, started_by, making_from, MakesList, MadeWhole}
use Rattle.bench.proofs.Makes.{made}

-- ---- settings

pub asked_is : (new with : Decoding) (f : PixelFormat) (inverted : Bool) → new ≡ defaults → f ≡ format_of inverted → with ≡ with_format f new
    → with ≡ asked inverted
asked_is new with f inverted d e g = g ∙ ap (with_format f) d ∙ ap (λ (x : PixelFormat). with_format x defaults) e

pub rule-is : (new with : EncodeOptions) (q : Quantize) (dithered : Bool) → new ≡ rule false → q ≡ rule_of dithered
    → with ≡ record { quantize = q; ext = new.ext; strict = new.strict } → with ≡ rule dithered
rule-is new with q dithered d e g =
    g
    ∙ ap (λ (o : EncodeOptions). record { quantize = q; ext = o.ext; strict = o.strict }) d
    ∙ ap (λ (x : Quantize). record { quantize = x; ext = None; strict = false }) e

-- ---- reading

reading-opened : (d : Decoding) (ext : ℕ) (o : DecodeSession) (r : Result (Unit {0}) WbmpError)
    → ReadingSession.Opens (Reading.opening d ext) o r (Reading.opened d)
    → ReadingSession.Stands o (if (leb 4118 ext) (Reading.opened d) (Reading.shut (Reading.opened d)))
unfolding settled
reading-opened d ext o r p = go (leb 4118 ext) refl
  where
    go : (t : Bool) → leb 4118 ext ≡ t → ReadingSession.Stands o (if t (Reading.opened d) (Reading.shut (Reading.opened d)))
    go true e = p.stands (if-true _ _ _ e)
    go false e = p.refused 28 0 (if-false _ _ _ e)

pub reads-list : (inverted : Bool) (numbers file out ext answers : List ℕ) (s : DecodeOptions) (o : DecodeSession)
    (r : Result (Unit {0}) WbmpError) (n : ℕ) (last : DecodeSession) (out' ext' answers' : List ℕ) → decoding s ≡ asked inverted
    → ReadingSession.Opens (Reading.opening (decoding s) (length ext)) o r (Reading.opened (decoding s))
    → Decode.Replays o numbers file out ext answers n last out' ext' answers'
    → ReadsList inverted numbers file out ext answers n out' ext' answers'
reads-list inverted numbers file out ext answers s o r n last out' ext' answers' e p q =
    let f = subst (λ (d : Decoding). ReadingSession.Opens (Reading.opening d (length ext)) o r (Reading.opened d)) e p in
    record { last = last; shows = q.does _ (reading-opened (asked inverted) (length ext) o r f) }

-- ---- making

-- a header without fields is short
short : (w h work : ℕ) (dithered : Bool) (bytes : List ℕ) → w < 4294967296 → h < 4294967296
    → Making.header (Making.opening (rule dithered) w h [] []) work ≡ gives bytes → length bytes ≤ 12
unfolding fields_bytes
short w h work dithered bytes wide high e =
    go (eqb w 0 || eqb h 0) (passed (Making.opening (rule dithered) w h [] []) work bytes e).headed
  where
    go : (z : Bool) → if z (refuses 8 0) (gives (header_bytes 0 [] w h)) ≡ gives bytes → length bytes ≤ 12
    go true e = zero_one (cc)
    go false e =
        let b : header_bytes 0 [] w h ≡ bytes = cc in
        let l : length (header_bytes 0 [] w h) ≡ length bytes = ap length b in
        omega (arith, l, header-length 0 [] w h, sizes-ten w h wide high)

making-opened : (w h work : ℕ) (dithered : Bool) (any : List ℤ) (o : EncodeSession) (r : Result ℕ WbmpError) (old new : List ℕ)
    → w < 4294967296 → h < 4294967296 → 12 ≤ length old → MakingSession.Opens (Making.opening (rule dithered) w h [] []) work o r old new
    → MakingSession.Holds o any (making_from w h dithered work)
making-opened w h work dithered any o r old new wide high room p =
    go (Making.header a work) (λ bytes. short w h work dithered bytes wide high) p.emits.answer
  where
    a : Making.Opening
    a = Making.opening (rule dithered) w h [] []

    go : (x : Answer (List ℕ)) → ((bytes : List ℕ) → x ≡ gives bytes → length bytes ≤ 12) → written r ≡ emitted x old
        → MakingSession.Holds o any (started_by x (Making.opened a))
    go (gives bytes) fits e =
        let l : length bytes ≤ 12 = fits bytes refl in
        p.holds (length bytes) (e ∙ if-true _ _ _ (le-leb (length bytes) (length old) (omega arith))) any
    go (refuses code place) fits e = p.refused code place e any

pub makes-list : (w h : ℕ) (dithered : Bool) (numbers gray : List ℕ) (work : List ℤ) (out answers : List ℕ) (s : EncodeOptions)
    (o : EncodeSession) (r : Result ℕ WbmpError) (old new : List ℕ) (n : ℕ) (last : EncodeSession) (work' : List ℤ)
    (out' answers' : List ℕ) → w < 4294967296 → h < 4294967296 → 12 ≤ length old → s ≡ rule dithered
    → MakingSession.Opens (Making.opening s w h [] []) (length work) o r old new
    → Encode.Replays o numbers gray work out answers n last work' out' answers'
    → MakesList w h dithered numbers gray work out answers n work' out' answers'
makes-list w h dithered numbers gray work out answers s o r old new n last work' out' answers' wide high room e p q =
    let f = subst (λ (t : EncodeOptions). MakingSession.Opens (Making.opening t w h [] []) (length work) o r old new) e p in
    let k = making-opened w h (length work) dithered work o r old new wide high room f in
    record {
      does = record {
        last = last;
        counts = q.counts _ k.stands;
        shows = q.does _ k;
        leaves = q.leaves _ k.stands;
        first = o;
        keeps = q.keeps _ k.stands;
      };
    }

-- ---- whole making and writing

pub made-whole : (w h count : ℕ) (dithered : Bool) (gray out : List ℕ) (work : List ℤ) (s : EncodeOptions) (x : Answer ℕ) (r : ℕ)
    (out' : List ℕ) (work' : List ℤ) → s ≡ rule dithered → Makes 16 s w h count gray [] [] out work x out' work' → r ≡ code_of x
    → MadeWhole w h count dithered gray out work r out' work'
made-whole w h count dithered gray out work s x r out' work' e p q =
    record { told = x; code = q; makes = subst (λ (t : EncodeOptions). Makes 16 t w h count gray [] [] out work x out' work') e p }

pub written-whole : (w h count stride : ℕ) (inverted : Bool) (planes : List ℕ) (s : EncodeOptions) (f : PixelFormat) (x : Answer ℕ) (r : ℕ)
    (out out' : List ℕ) → s ≡ rule false → f ≡ format_of inverted → Emits (file_of_planes 16 s f w h count stride planes [] []) x out out'
    → r ≡ code_of x
    → Made (planes_file inverted w h count stride planes) r out out'
written-whole w h count stride inverted planes s f x r out out' e g p q =
    let a = subst (λ (t : EncodeOptions). Emits (file_of_planes 16 t f w h count stride planes [] []) x out out') e p in
    let b = subst (λ (y : PixelFormat). Emits (file_of_planes 16 (rule false) y w h count stride planes [] []) x out out') g a in
    made _ x r out out' b q
