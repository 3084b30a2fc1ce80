-- Files begun: from what is left of a header's pairs to what is left of a file's.
use Rattle.std.proofs.Common.{Result, Ok, Err}
use Prim.Native.Nat.{ℕ, ◌+◌, ◌-◌, ◌*◌, ◌≤◌}
use mathlib.Core.Path.{◌≡◌, refl, sym, ap, subst, ◌∙◌}
use mathlib.Core.Bool.{Bool}
use mathlib.Core.List.{List, ◌++◌}
use native.Mathlib.Omega.{arith}
use borrow.Rule.Slice.PartMut.{mid_of, put_mid, post_of, same_len_mid}
use lib.IntN.{ℤ}
use lib.ListN.{length, take, drop, length-append, take-append-drop}
use lib.Seq.{sets, length-sets, length-take-le, take_at, drop_at}
use Rattle.error.specs.Answer.{Answer, gives, number, refusal}
use Rattle.error.specs.Emits.{Emits}
use Rattle.error.specs.declared.WbmpError.{WbmpError}
use Rattle.ext_write.specs.Internal.Left.{Left, refused, none_left, pairs-left}
use Rattle.ext_write.specs.declared.PairsBegun.{PairsBegun}
use Rattle.ext_write.proofs.Stores.{sets-left}
use Rattle.header.specs.Write.{ext_header}
use Rattle.header.specs.Internal.Begin.{HasRoom}
use Rattle.image.specs.Geometry.{plane_bytes}
use Rattle.image.specs.declared.PixelFormat.{PixelFormat}
use Rattle.options.specs.declared.EncodeOptions.{EncodeOptions}
use Rattle.rules.specs.Rule.{rule_asked, rule_given}
use Rattle.encoder.specs.File.{file_of}
use Rattle.encoder.specs.Write.{check_planes, wire_planes, file_of_planes}
use Rattle.encoder.specs.Make.{check_scans, Makes}
use Rattle.encoder.specs.Internal.Parts.{Heads}
use Rattle.encoder.specs.Internal.Scans.{PutsScans}
use Rattle.encoder.proofs.HeaderBefore.{headed}
use Rattle.encoder.proofs.PlanesFile.{start-room, planes-filed, planes-refused, tests-accept, tests-refuse}
use Rattle.encoder.proofs.ScansFile.{unmade, not-headed, made}

-- The front part of n bytes was lent to the header's writer, which left `last` there.
module _ (strict : Bool) (text lengths : List ℕ) (a : Answer (List ℕ)) (body : ℕ) (old last : List ℕ) (n : ℕ) (room : n ≡ length old - body)
    (long : length last ≡ n) where
  pub whole : length (last ++ drop n old) ≡ length old
  whole =
      let p = ap length (take-append-drop n old) in
      let q : length (take n old) + length (drop n old) ≡ length old = rw length-append at p in
      let r = length-take-le n old (omega arith) in
      length-append last (drop n old) ∙ omega arith

  -- the header leaves room for the body
  pub header-room : (r : Result PairsBegun WbmpError) → HasRoom r last → (b : PairsBegun) → r ≡ Ok b
      → b.end + body ≤ length (last ++ drop n old)
  header-room r v b e =
      let p = v b e in
      let x = whole in
      omega (arith, p.0, p.1)

  -- pairs that are left in the part are left in the whole
  pub left-inside : (r : Result PairsBegun WbmpError) → Left strict text lengths last (λ x out. Emits a x (take n old) out) r
      → Left strict text lengths (last ++ drop n old) (λ x out. Heads a body x old out) r
  left-inside r (refused x g) = refused x (headed a body old (refusal x) last n room g)
  left-inside r (none_left end g) = none_left end (headed a body old (gives end) last n room g)
  left-inside r (pairs-left end to bytes e l k g) =
      let x = whole in
      pairs-left end to bytes e l (omega arith)
      (subst (Heads a body (gives end) old) (sym (sets-left last (drop n old) to bytes (omega arith)))
      (headed a body old (gives end) (sets last to bytes) n room g))

-- Bytes that are stored before an index leave what was put behind it.
module _ (mid last bytes : List ℕ) (to start : ℕ) (h : to + length bytes ≤ start) (k : start ≤ length mid) where
  abbrev stored : List ℕ
  stored = sets mid to bytes

  parted : stored ≡ sets (take start mid) to bytes ++ drop start mid
  parted =
      let l = length-take-le start mid k in
      ap (λ (z : List ℕ). sets z to bytes) (sym (take-append-drop start mid))
      ∙ sets-left (take start mid) (drop start mid) to bytes (omega arith)

  front_long : length (sets (take start mid) to bytes) ≡ start
  front_long = length-sets (take start mid) to bytes ∙ length-take-le start mid k

  same-front : take start stored ≡ sets (take start mid) to bytes
  same-front = ap (take start) parted ∙ take_at (sets (take start mid) to bytes) (drop start mid) start front_long

  same_back : drop start stored ≡ drop start mid
  same_back = ap (drop start) parted ∙ drop_at (sets (take start mid) to bytes) (drop start mid) start front_long

  long_same : length stored ≡ length mid
  long_same = length-sets mid to bytes

  pub part_same : mid_of start (length stored - start) stored ≡ mid_of start (length mid - start) mid
  part_same = rw (long_same, same_back) refl

  pub put_same : put_mid start (length stored - start) stored last ≡ sets (put_mid start (length mid - start) mid last) to bytes
  put_same =
      let l = length-take-le start mid k in
      rw (long_same, same_back, same-front)
      (sym (sets-left (take start mid) (last ++ post_of start (length mid - start) mid) to bytes (omega arith)))

-- what the tests refuse
pub untested-left : (o : EncodeOptions) (w h n : ℕ) (gray text lengths : List ℕ) (work : List ℤ) (out : List ℕ) (x : WbmpError)
    → check_scans 16 o w h n (length gray) (length work) ≡ refusal x
    → Left o.strict text lengths out (λ r out'. Makes 16 o w h n gray text lengths out work r out' work) (Err x)
untested-left o w h n gray text lengths work out x e =
    refused x (unmade o w h n gray text lengths work out (number x.kind) x.offset e)

-- A body behind a header that was begun: `last` is what was left where the output behind the header was lent.
module _ (o : EncodeOptions) (w h : ℕ) (text lengths out : List ℕ) (body : ℕ) (mid : List ℕ) where
  abbrev header : Answer (List ℕ)
  header = ext_header o.strict w h o.ext text lengths

  pub body-left : (Goal : Answer ℕ → List ℕ → Type 0) (b : PairsBegun) (last : List ℕ) → b.end ≤ length mid
      → length last ≡ length (mid_of b.end (length mid - b.end) mid)
      → ((mid' : List ℕ) → Heads header body (gives b.end) out mid'
      → mid_of b.end (length mid' - b.end) mid' ≡ mid_of b.end (length mid - b.end) mid
      → Goal (gives (b.end + body)) (put_mid b.end (length mid' - b.end) mid' last))
      → Left o.strict text lengths mid (λ r out'. Heads header body r out out') (Ok b)
      → Left o.strict text lengths (put_mid b.end (length mid - b.end) mid last) Goal
      (Ok (record { end = b.end + body; pairs = b.pairs }))
  body-left Goal b last k l filled (none_left end g) = none_left (end + body) (filled mid g refl)
  body-left Goal b last k l filled (pairs-left end to bytes i p m g) =
      let x = same_len_mid end (length mid - end) mid last l in
      pairs-left (end + body) to bytes i (omega arith)
      (fits (sets mid to bytes) (put_mid end (length mid - end) mid last) g (length-sets mid to bytes) x)
      (subst (Goal (gives (end + body))) (put_same mid last bytes to end p k)
      (filled (sets mid to bytes) g (part_same mid last bytes to end p k)))
    where
      fits : (mid' new : List ℕ) → Heads header body (gives end) out mid' → length mid' ≡ length mid → length new ≡ length mid
          → end + body ≤ length new
      fits mid' new c p q = let r = start-room o w h text lengths out body end mid' c in omega arith

  -- a refusal leaves no pairs
  pub unheaded-left : (Goal : Answer ℕ → List ℕ → Type 0) (x : WbmpError)
      → (Heads header body (refusal x) out mid → Goal (refusal x) mid)
      → Left o.strict text lengths mid (λ r out'. Heads header body r out out') (Err x) → Left o.strict text lengths mid Goal (Err x)
  unheaded-left Goal x filled (refused y g) = refused y (filled g)

-- Scans that passed the tests.
module _ (o : EncodeOptions) (w h n : ℕ) (gray text lengths : List ℕ) (work : List ℤ)
    (e : check_scans 16 o w h n (length gray) (length work) ≡ gives tt)
    (out : List ℕ) (body : ℕ) (size : body ≡ n * plane_bytes w h) (mid : List ℕ) where
  pub made-left : (b : PairsBegun) (last : List ℕ) (work' : List ℤ) → b.end ≤ length mid
      → length last ≡ length (mid_of b.end (length mid - b.end) mid)
      → PutsScans (rule_given (rule_asked o)) w h n gray (mid_of b.end (length mid - b.end) mid) work last work'
      → Left o.strict text lengths mid (λ r out'. Heads (header o w h text lengths out body mid) body r out out') (Ok b)
      → Left o.strict text lengths (put_mid b.end (length mid - b.end) mid last)
      (λ r out'. Makes 16 o w h n gray text lengths out work r out' work') (Ok (record { end = b.end + body; pairs = b.pairs }))
  made-left b last work' k l q x =
      body-left o w h text lengths out body mid (λ r out'. Makes 16 o w h n gray text lengths out work r out' work') b last k l
      (λ mid' c j. made o w h n gray text lengths work e out body size b.end mid' last work' c
      (subst (λ (v : List ℕ). PutsScans (rule_given (rule_asked o)) w h n gray v work last work') (sym j) q))
      x

  pub refused-left : (x : WbmpError)
      → Left o.strict text lengths mid (λ r out'. Heads (header o w h text lengths out body mid) body r out out') (Err x)
      → Left o.strict text lengths mid (λ r out'. Makes 16 o w h n gray text lengths out work r out' work) (Err x)
  refused-left x =
      unheaded-left o w h text lengths out body mid (λ r out'. Makes 16 o w h n gray text lengths out work r out' work) x
      (not-headed o w h n gray text lengths work e out body size mid (number x.kind) x.offset)

-- Planes that were tested.
module _ (o : EncodeOptions) (w h : ℕ) (text lengths out : List ℕ) (f : PixelFormat) (n s : ℕ) (planes : List ℕ) (plane : ℕ)
    (laid : plane ≡ plane_bytes w h) (mid : List ℕ) where
  abbrev file : Answer (List ℕ)
  file = file_of o w h text lengths (wire_planes f w h s planes n)

  pub written-left : (b : PairsBegun) (last : List ℕ) → b.end ≤ length mid
      → length last ≡ length (mid_of b.end (length mid - b.end) mid)
      → last ≡ wire_planes f w h s planes n ++ drop (n * plane_bytes w h) (mid_of b.end (length mid - b.end) mid)
      → Left o.strict text lengths mid (λ r out'. Heads (header o w h text lengths out (n * plane) mid) (n * plane) r out out') (Ok b)
      → Left o.strict text lengths (put_mid b.end (length mid - b.end) mid last) (λ r out'. Emits file r out out')
      (Ok (record { end = b.end + n * plane; pairs = b.pairs }))
  written-left b last k l q x =
      body-left o w h text lengths out (n * plane) mid (λ r out'. Emits file r out out') b last k l
      (λ mid' c j. planes-filed o w h text lengths out f n s planes plane laid b.end mid' last c
      (q ∙ ap (λ (v : List ℕ). wire_planes f w h s planes n ++ drop (n * plane_bytes w h) v) (sym j)))
      x

  pub unwritten-left : (x : WbmpError)
      → Left o.strict text lengths mid (λ r out'. Heads (header o w h text lengths out (n * plane) mid) (n * plane) r out out') (Err x)
      → Left o.strict text lengths mid (λ r out'. Emits file r out out') (Err x)
  unwritten-left x =
      unheaded-left o w h text lengths out (n * plane) mid (λ r out'. Emits file r out out') x
      (planes-refused o w h text lengths out f n s planes plane laid mid (number x.kind) x.offset)

-- by what the planes' tests answered
module _ (o : EncodeOptions) (f : PixelFormat) (w h n s : ℕ) (planes text lengths out new : List ℕ) where
  pub tested-left : (r : Result PairsBegun WbmpError) → check_planes 16 w h n s (length planes) ≡ gives tt
      → Left o.strict text lengths new (λ a out'. Emits (file_of o w h text lengths (wire_planes f w h s planes n)) a out out') r
      → Left o.strict text lengths new (λ a out'. Emits (file_of_planes 16 o f w h n s planes text lengths) a out out') r
  tested-left r e (refused x g) = refused x (tests-accept o f w h n s planes text lengths e (refusal x) out new g)
  tested-left r e (none_left end g) = none_left end (tests-accept o f w h n s planes text lengths e (gives end) out new g)
  tested-left r e (pairs-left end to bytes i p m g) =
      pairs-left end to bytes i p m (tests-accept o f w h n s planes text lengths e (gives end) out (sets new to bytes) g)

  pub unplaned-left : (x : WbmpError) → check_planes 16 w h n s (length planes) ≡ refusal x
      → Left o.strict text lengths out (λ a out'. Emits (file_of_planes 16 o f w h n s planes text lengths) a out out') (Err x)
  unplaned-left x e = refused x (tests-refuse o f w h n s planes text lengths (number x.kind) x.offset e out)
