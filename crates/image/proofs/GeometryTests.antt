-- The geometry test, case by case.
use Prim.Native.Nat.{ℕ, ◌^◌, ◌≤◌, ◌<◌}
use mathlib.Core.Path.{◌≡◌}
use native.Mathlib.Omega.{arith}
use borrow.Author.Tests.{lt-ltb, le-ltb, le-leb, lt-leb, eq-eqb, ne_eqb}
use Rattle.error.specs.Answer.{gives, refuses}
use Rattle.image.specs.Geometry.{row_bytes, needed_bytes, check_geometry}

module _ (w h s n : ℕ) where
  pub no-width : w ≡ 0 → check_geometry w h s n ≡ refuses 8 0
  unfolding check_geometry
  no-width e = rw (eq-eqb w 0 e)

  module _ (wide : 0 < w) where
    pub no-height : h ≡ 0 → check_geometry w h s n ≡ refuses 8 0
    unfolding check_geometry
    no-height e = rw (ne_eqb w 0 (λ z. omega arith), eq-eqb h 0 e)

    module _ (high : 0 < h) where
      pub narrow : s < row_bytes w → check_geometry w h s n ≡ refuses 26 0
      unfolding check_geometry
      narrow p = rw (ne_eqb w 0 (λ z. omega arith), ne_eqb h 0 (λ z. omega arith), lt-ltb s (row_bytes w) p)

      module _ (row : row_bytes w ≤ s) where
        pub large : 2 ^ 64 ≤ needed_bytes w h s → check_geometry w h s n ≡ refuses 27 0
        unfolding check_geometry
        large p =
            rw (
              ne_eqb w 0 (λ z. omega arith),
              ne_eqb h 0 (λ z. omega arith),
              le-ltb s (row_bytes w) row,
              le-leb (2 ^ 64)
                  (needed_bytes w h s) p,
            )

        module _ (small : needed_bytes w h s < 2 ^ 64) where
          pub short : n < needed_bytes w h s → check_geometry w h s n ≡ refuses 20 0
          unfolding check_geometry
          short p =
              rw (
                ne_eqb w 0 (λ z. omega arith),
                ne_eqb h 0 (λ z. omega arith),
                le-ltb s (row_bytes w) row,
                lt-leb (2 ^ 64) (needed_bytes w h s) small,
                lt-ltb n (needed_bytes w h s) p,
              )

          pub accepted : needed_bytes w h s ≤ n → check_geometry w h s n ≡ gives tt
          unfolding check_geometry
          accepted p =
              rw (
                ne_eqb w 0 (λ z. omega arith),
                ne_eqb h 0 (λ z. omega arith),
                le-ltb s (row_bytes w) row,
                lt-leb (2 ^ 64) (needed_bytes w h s) small,
                le-ltb n (needed_bytes w h s) p,
              )
