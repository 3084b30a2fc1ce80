-- From a header with room for the planes behind it to the file.
use Prim.Native.Nat.{ℕ, ◌+◌, ◌-◌, ◌*◌, ◌≤◌}
use mathlib.Core.Path.{◌≡◌, refl, sym, ap, ◌∙◌, subst}
use mathlib.Core.List.{List, ◌++◌}
use native.Mathlib.Omega.{arith}
use borrow.Rule.Slice.PartMut.{mid_of, put_mid}
use lib.ListN.{length, drop}
use Rattle.error.specs.Answer.{Answer, gives, refuses, bind}
use Rattle.error.specs.Emits.{Emits}
use Rattle.header.specs.Write.{ext_header}
use Rattle.image.specs.Geometry.{plane_bytes}
use Rattle.image.specs.declared.PixelFormat.{PixelFormat}
use Rattle.options.specs.declared.EncodeOptions.{EncodeOptions}
use Rattle.encoder.specs.File.{file_of}
use Rattle.encoder.specs.Write.{check_planes, wire_planes, file_of_planes}
use Rattle.encoder.specs.Internal.Parts.{Heads}
use Rattle.encoder.proofs.HeaderBefore.{header-some, body-room, file-written, file-refused, behind}
use Rattle.encoder.proofs.PlanesLoop.{planes-length}

module _ (o : EncodeOptions) (w h : ℕ) (text lengths old : List ℕ) where
  abbrev header : Answer (List ℕ)
  header = ext_header o.strict w h o.ext text lengths

  -- the output behind the header has room for the body
  pub start-room : (body start : ℕ) (mid : List ℕ) → Heads header body (gives start) old mid → start + body ≤ length mid
  start-room body start mid c = body-room header (header-some o.strict w h o.ext text lengths) body start old mid c

  -- any body of so many bytes
  module _ (body : List ℕ) (size : ℕ) (long : size ≡ length body) where
    resized : {r : Answer ℕ} {mid : List ℕ} → Heads header size r old mid → Heads header (length body) r old mid
    resized {r} {mid} c = subst (λ (k : ℕ). Heads header k r old mid) long c

    pub filed : (start : ℕ) (mid last : List ℕ) → Heads header size (gives start) old mid
        → last ≡ body ++ drop (length body) (mid_of start (length mid - start) mid)
        → Emits (file_of o w h text lengths body) (gives (start + size)) old (put_mid start (length mid - start) mid last)
    filed start mid last c e =
        let p = start-room size start mid c in
        file-written header (header-some o.strict w h o.ext text lengths) body old mid _ start (start + size)
        (ap (λ (k : ℕ). start + k) long)
        (resized c) (behind mid body last start (omega arith) e)

    pub unfiled : (mid : List ℕ) (code offset : ℕ) → Heads header size (refuses code offset) old mid
        → Emits (file_of o w h text lengths body) (refuses code offset) old mid
    unfiled mid code offset c = file-refused header body old mid code offset (resized c)

  -- the planes
  module _ (f : PixelFormat) (n s : ℕ) (planes : List ℕ) (plane : ℕ) (laid : plane ≡ plane_bytes w h) where
    abbrev body : List ℕ
    body = wire_planes f w h s planes n

    long : n * plane ≡ length body
    long = ap (λ (k : ℕ). n * k) laid ∙ sym (planes-length f w h s planes n)

    pub planes-filed : (start : ℕ) (mid last : List ℕ) → Heads header (n * plane) (gives start) old mid
        → last ≡ body ++ drop (n * plane_bytes w h) (mid_of start (length mid - start) mid)
        → Emits (file_of o w h text lengths body) (gives (start + n * plane)) old (put_mid start (length mid - start) mid last)
    planes-filed start mid last c e =
        filed body (n * plane) long start mid last c
        (e ∙ ap (λ (k : ℕ). body ++ drop k (mid_of start (length mid - start) mid)) (sym (planes-length f w h s planes n)))

    pub planes-refused : (mid : List ℕ) (code offset : ℕ) → Heads header (n * plane) (refuses code offset) old mid
        → Emits (file_of o w h text lengths body) (refuses code offset) old mid
    planes-refused mid code offset c = unfiled body (n * plane) long mid code offset c

-- by what the tests answered
module _ (o : EncodeOptions) (f : PixelFormat) (w h n s : ℕ) (planes text lengths : List ℕ) where
  behind-tests : (y : Answer (Unit {0})) → check_planes 16 w h n s (length planes) ≡ y
      → file_of_planes 16 o f w h n s planes text lengths ≡ bind y (λ _. file_of o w h text lengths (wire_planes f w h s planes n))
  unfolding file_of_planes
  behind-tests y e = ap (λ (x : Answer (Unit {0})). bind x (λ _. file_of o w h text lengths (wire_planes f w h s planes n))) e

  pub tests-accept : check_planes 16 w h n s (length planes) ≡ gives tt → (r : Answer ℕ) (old new : List ℕ)
      → Emits (file_of o w h text lengths (wire_planes f w h s planes n)) r old new
      → Emits (file_of_planes 16 o f w h n s planes text lengths) r old new
  tests-accept e r old new m = subst (λ (a : Answer (List ℕ)). Emits a r old new) (sym (behind-tests (gives tt) e)) m

  pub tests-refuse : (code offset : ℕ) → check_planes 16 w h n s (length planes) ≡ refuses code offset → (old : List ℕ)
      → Emits (file_of_planes 16 o f w h n s planes text lengths) (refuses code offset) old old
  tests-refuse code offset e old =
      subst (λ (a : Answer (List ℕ)). Emits a (refuses code offset) old old) (sym (behind-tests (refuses code offset) e))
      (record { answer = refl; bytes = refl })
