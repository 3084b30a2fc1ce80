-- Sniffing a body, by what was found in it.
use Prim.Native.Nat.{ℕ, ◌*◌, ◌/◌, ◌^◌, ◌≤◌, ◌<◌}
use mathlib.Core.Path.{◌≡◌, refl, sym, ap, ◌∙◌, subst}
use mathlib.Core.Bool.{true, false, ◌&&◌}
use mathlib.Core.List.{List}
use native.Mathlib.Nat.{mul-le-mul}
use native.Mathlib.Omega.{arith}
use borrow.Author.Tests.{le-leb, lt-leb}
use lib.Dec.{leb}
use lib.ListN.{length}
use Rattle.laws.proofs.Tests.{if-elim}
use Rattle.image.proofs.PlaneSizes.{stride-is, total-is}
use Rattle.image.specs.Geometry.{row_bytes}
use Rattle.image.specs.Layout.{layout_of}
use Rattle.image.specs.declared.PlaneLayout.{PlaneLayout}
use Rattle.api.specs.Sniff.{are_clear, sniff_length, sniff_body}
use Rattle.api.specs.declared.Sniffed.{Sniffed}
use Rattle.api.specs.declared.Sniffed.TheVariants.{Neither}

module _ (w h : ℕ) (body : List ℕ) (l : PlaneLayout) (made : l ≡ layout_of w h) where
  pub no_row : length body < l.stride → sniff_body w h body ≡ Neither
  unfolding sniff_body
  no_row k = rw (lt-leb (row_bytes w) (length body) (subst (λ (n : ℕ). length body < n) (stride-is made) k))

  pub small-plane : w ≤ 16384 → h ≤ 16384 → l.total_bytes < 2 ^ 32
  small-plane p q =
      let r : row_bytes w ≤ 2048 = omega arith in
      let k : row_bytes w * h ≤ 2048 * 16384 = mul-le-mul r q in
      omega (arith, total-is made)

  pub no_length : sniff_length l.total_bytes (length body) ≡ Neither → sniff_body w h body ≡ Neither
  unfolding sniff_body
  no_length e =
      if-elim (λ (t : Sniffed). t ≡ Neither) (leb (row_bytes w) (length body) && are_clear w body (length body / row_bytes w)) _ _
      (λ t. ap (λ (n : ℕ). sniff_length n (length body)) (sym (total-is made)) ∙ e) (λ t. refl)

  module _ (room : l.stride ≤ length body) where
    fits : row_bytes w ≤ length body
    fits = subst (λ (n : ℕ). n ≤ length body) (stride-is made) room

    pub dirty : are_clear w body (length body / l.stride) ≡ false → sniff_body w h body ≡ Neither
    unfolding sniff_body
    dirty e = rw (le-leb (row_bytes w) (length body) fits, sym (ap (λ (n : ℕ). are_clear w body (length body / n)) (stride-is made)) ∙ e)

    pub clean : are_clear w body (length body / l.stride) ≡ true → sniff_body w h body ≡ sniff_length l.total_bytes (length body)
    unfolding sniff_body
    clean e =
        rw (le-leb (row_bytes w) (length body) fits, sym (ap (λ (n : ℕ). are_clear w body (length body / n)) (stride-is made)) ∙ e)
        (ap (λ (n : ℕ). sniff_length n (length body)) (sym (total-is made)))
