-- What a header that was read says: its sizes are not 0, and its body starts within the file.
use Prim.Native.Nat.{ℕ, ◌+◌, ◌≤◌, ◌<◌}
use mathlib.Core.Path.{◌≡◌, subst}
use mathlib.Core.Bool.{◌||◌, ◌&&◌}
use mathlib.Core.List.{List}
use native.Mathlib.Nat.{pos_of_ne-zero}
use borrow.Author.Tests.{eqb-false}
use lib.Dec.{eqb, leb, ltb}
use lib.ListN.{length, get_or}
use Rattle.error.specs.Answer.{gives, map}
use Rattle.laws.proofs.Answers.{bind-gives, map_gives, unless, when}
use Rattle.laws.proofs.Tests.{neither}
use Rattle.mbi.specs.Read.{read_mbi}
use Rattle.mbi.proofs.IntegerBounds.{mbi-within}
use Rattle.ext.specs.Kinds.{Fields, fields_follow, kind_bits}
use Rattle.ext.specs.Read.{read_fields}
use Rattle.header.specs.Settings.{Settings}
use Rattle.header.specs.Read.{Header, Outline, outline, read_height, read_sizes, read_after_fix, read_fix, read_header}

pub record Shaped (s : List ℕ) (h : Header) : Type 0 where
  pub wide : 0 < h.width
  pub high : 0 < h.height
  pub inside : h.body ≤ length s

module _ (o : Settings) (s : List ℕ) (h : Header) where
  height-shape : (fix start : ℕ) (f : Fields × ℕ) (w : ℕ × ℕ) → read_height o s fix start f w ≡ gives h → Shaped s h
  height-shape fix start f w e =
      let n = bind-gives (read_mbi o.shortest s w.1) _ h e in
      let t = unless (eqb w.0 0 || eqb n.0.0 0) 8 n.0.1 _ h n.2 in
      let z = neither (eqb w.0 0) (eqb n.0.0 0) t.0 in
      let q = t.1 in
      let same : record { width = w.0; height = n.0.0; fix = fix; fields = f.0; start = start; sizes = f.1; body = n.0.1 } ≡ h =
      cc in
      subst (Shaped s) same
      (record {
        wide = pos_of_ne-zero (eqb-false w.0 0 z.0);
        high = pos_of_ne-zero (eqb-false n.0.0 0 z.1);
        inside = (mbi-within o.shortest s w.1 n.0.0 n.0.1 n.1).inside;
      })

  after-shape : (fix at : ℕ) → read_after_fix o s fix at ≡ gives h → Shaped s h
  after-shape fix at e =
      let f = bind-gives (read_fields o.classes (o.honoured && fields_follow fix) (kind_bits fix) s at) (read_sizes o s fix at) h e in
      let w = bind-gives (read_mbi o.shortest s f.0.1) (read_height o s fix at f.0) h f.2 in
      height-shape fix at f.0 w.0 w.2

  fix-shape : (at : ℕ) → read_fix o s at ≡ gives h → Shaped s h
  fix-shape at e =
      let t = unless (leb (length s) at) 6 at _ h e in
      let u = unless (o.fix_zero && ltb 0 (get_or s at 0)) 7 at _ h t.1 in
      after-shape (get_or s at 0) (at + 1) u.1

  pub header-shape : read_header o s ≡ gives h → Shaped s h
  unfolding read_header
  header-shape e =
      let t = bind-gives (read_mbi o.shortest s 0) _ h e in
      fix-shape t.0.1 (when (eqb t.0.0 0) 5 t.0.1 _ h t.2).1

pub outline-shape : (o : Settings) (s : List ℕ) (g : Outline) → map outline (read_header o s) ≡ gives g
    → (0 < g.width) × (0 < g.height) × (g.body ≤ length s)
outline-shape o s g e =
    let m = map_gives outline (read_header o s) g e in
    let f = header-shape o s m.0 m.1 in
    subst (λ (g : Outline). (0 < g.width) × (0 < g.height) × (g.body ≤ length s)) m.2 (f.wide, f.high, f.inside)
