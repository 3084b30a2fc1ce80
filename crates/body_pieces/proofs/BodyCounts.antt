-- How far a body goes: what an advance comes to, and the cases of the code's count.
use Prim.Native.Nat.{ℕ, ◌+◌, ◌-◌, ◌*◌, ◌/◌, ◌%◌, ◌≤◌, ◌<◌, min}
use mathlib.Core.Path.{◌≡◌, refl, sym, ap, subst⁻¹, ◌∙◌}
use mathlib.Core.Bool.{Bool, true, false}
use mathlib.Core.Logic.{◌⊎◌, ⊎_elim, inl, inr}
use native.Mathlib.Nat.{le-div_iff_mul-le, div-lt_iff_lt-mul, div-eq_of_lt-le, div-add-mod', mod-lt, mul-le-mul_right}
use native.Mathlib.Omega.{arith}
use borrow.Author.Tests.{leb-true, leb-false, le-leb, lt-leb}
use lib.Dec.{leb}
use Rattle.error.specs.Choice.{if}
use Rattle.laws.proofs.Tests.{lt-or-le, if-true, if-false, if-elim}
use Rattle.body_pieces.specs.Internal.Body.{fed_up_to, advanced}
use Rattle.body_pieces.specs.declared.BodyFed.{BodyFed}

-- From so many whole planes and bytes of the begun one, over the bytes that are written: on to the end of what is given or of the room, or
-- up to a ceiling of planes, behind which all that is given is taken.
pub record Advanced (ceiling plane whole begun given room : ℕ) (r : BodyFed) : Type 0 where
  pub takes : r.taken ≤ given
  pub writes : r.written ≤ r.taken
  pub fits : r.written ≤ room
  pub sum : r.whole * plane + r.begun ≡ whole * plane + begun + r.written
  pub below : r.begun < plane
  pub ends : ((r.whole < ceiling) × ((r.taken ≡ r.written) × ((r.written ≡ given) ⊎ (r.written ≡ room))))
      ⊎ ((r.whole ≡ ceiling) × ((r.begun ≡ 0) × (r.taken ≡ given)))

-- a place in the body: inside a plane, or behind the last
abbrev pub Placed : ℕ → ℕ → ℕ → ℕ → Type 0
Placed ceiling plane whole begun = (begun < plane) × ((whole < ceiling) ⊎ ((whole ≡ ceiling) × (begun ≡ 0)))

module _ (ceiling plane whole begun given room : ℕ) where
  abbrev at : ℕ
  at = whole * plane + begun

  abbrev left : ℕ
  left = ceiling * plane - at

  abbrev most : ℕ
  most = min given room

  abbrev Goes : BodyFed → Type 0
  Goes r = r ≡ advanced ceiling plane whole begun given room

  -- no place in a body
  pub stuck : plane ≤ begun → Goes (record { taken = 0; written = 0; whole = whole; begun = begun })
  unfolding advanced
  stuck h = sym (if-true (leb plane begun) _ _ (le-leb plane begun h))

  module _ (k : begun < plane) where
    -- the whole planes and the begun one, by all their bytes
    counted : (taken n whole' begun' : ℕ) → whole' * plane + begun' ≡ at + n → begun' < plane
        → record { taken = taken; written = n; whole = whole'; begun = begun' } ≡ fed_up_to plane at taken n
    counted taken n whole' begun' e l =
        let q : (at + n) / plane ≡ whole' = div-eq_of_lt-le plane (omega arith) (omega arith) in
        let d = div-add-mod' (at + n) plane in
        let s : (at + n) / plane * plane ≡ whole' * plane = ap (λ (w : ℕ). w * plane) q in
        let m : (at + n) % plane ≡ begun' = omega arith in
        cc

    -- the planes that are left are all there, or not
    filled : left ≤ most → Goes (fed_up_to plane at given left)
    unfolding advanced
    filled h =
        sym (if-false (leb plane begun) _ _ (lt-leb plane begun k) ∙ if-true (leb left most) _ _ (le-leb left most h))

    short : most < left → Goes (fed_up_to plane at most most)
    unfolding advanced
    short h =
        sym (if-false (leb plane begun) _ _ (lt-leb plane begun k) ∙ if-false (leb left most) _ _ (lt-leb left most h))

    -- behind the last plane
    pub full : ceiling ≤ whole → Goes (record { taken = given; written = 0; whole = whole; begun = begun })
    full h =
        let c = mul-le-mul_right plane h in
        let z : left ≡ 0 = omega arith in
        counted given 0 whole begun (omega arith) k ∙ ap (fed_up_to plane at given) (sym z) ∙ filled (omega arith)

    module _ (n : ℕ) (is-most : n ≡ most) (w : whole < ceiling) where
      -- a place after n bytes that is before the ceiling
      before : (whole' begun' : ℕ) → whole' < ceiling → whole' * plane + begun' ≡ at + n → begun' < plane
          → Goes (record { taken = n; written = n; whole = whole'; begun = begun' })
      before whole' begun' l e b =
          let c : (whole' + 1) * plane ≤ ceiling * plane = mul-le-mul_right plane (omega arith) in
          counted n n whole' begun' e b ∙ ap (λ (m : ℕ). fed_up_to plane at m m) is-most ∙ short (omega (arith, is-most))

      pub inside : n < plane - begun → Goes (record { taken = n; written = n; whole = whole; begun = begun + n })
      inside h = before whole (begun + n) w (omega arith) (omega arith)

      module _ (past : plane - begun ≤ n) where
        abbrev rest : ℕ
        rest = n - (plane - begun)

        -- the planes that are left are all there
        pub all_there : ceiling - 1 - whole ≤ rest / plane → plane - begun + (ceiling - 1 - whole) * plane ≤ n
        all_there h = let f : (ceiling - 1 - whole) * plane ≤ rest = (le-div_iff_mul-le {k = plane} (omega arith)).0 h in omega arith

        pub reaches : ceiling - 1 - whole ≤ rest / plane
            → Goes (record { taken = given; written = plane - begun + (ceiling - 1 - whole) * plane; whole = ceiling; begun = 0 })
        reaches h =
            let f = all_there h in
            let e : whole + (1 + (ceiling - 1 - whole)) ≡ ceiling = omega arith in
            let s : ceiling * plane ≡ at + (plane - begun + (ceiling - 1 - whole) * plane) =
            ap (λ (n : ℕ). n * plane) (sym e) ∙ spread (ceiling - 1 - whole) in
            let l : plane - begun + (ceiling - 1 - whole) * plane ≡ left = omega arith in
            counted given _ ceiling 0 (omega arith) (omega arith) ∙ ap (fed_up_to plane at given) l ∙ filled (omega (arith, is-most))
          where
            spread : (n : ℕ) → (whole + (1 + n)) * plane ≡ whole * plane + begun + (plane - begun + n * plane)
            spread n = omega arith

        pub goes_on : rest / plane < ceiling - 1 - whole
            → Goes (record { taken = n; written = n; whole = whole + 1 + rest / plane; begun = rest % plane })
        goes_on h =
            before (whole + 1 + rest / plane) (rest % plane) (omega arith) (spread (rest / plane) (rest % plane) (div-add-mod' rest plane))
            (mod-lt rest (omega arith))
          where
            spread : (m r : ℕ) → m * plane + r ≡ rest → (whole + 1 + m) * plane + r ≡ whole * plane + begun + n
            spread m r e = omega arith

  module _ (r : BodyFed) (e : Goes r) where
    -- what is taken is given, and what is written is taken and has room
    abbrev Bounded : BodyFed → Type 0
    Bounded x = (x.taken ≤ given) × ((x.written ≤ x.taken) × (x.written ≤ room))

    pub in_bounds : Bounded r
    unfolding advanced
    in_bounds = subst⁻¹ Bounded e (go (leb plane begun) (leb left most) refl)
      where
        go : (s t : Bool) → leb left most ≡ t
            → Bounded (if s (record { taken = 0; written = 0; whole = whole; begun = begun })
            (if t (fed_up_to plane at given left) (fed_up_to plane at most most)))
        go true t e = (omega arith, (omega arith, omega arith))
        go false true e = let h = leb-true left most e in (omega arith, (omega arith, omega arith))
        go false false e = (omega arith, (omega arith, omega arith))

    -- what an advance from a place comes to
    pub from_place : Placed ceiling plane whole begun → Advanced ceiling plane whole begun given room r
    unfolding advanced
    from_place p =
        subst⁻¹ (Advanced ceiling plane whole begun given room) (e ∙ if-false (leb plane begun) _ _ (lt-leb plane begun p.0))
        (if-elim (Advanced ceiling plane whole begun given room) (leb left most) (fed_up_to plane at given left) (fed_up_to plane at most most)
        (λ t. all_left (leb-true left most t)) (λ t. part (leb-false left most t)))
      where
        inside-planes : at ≤ ceiling * plane
        inside-planes =
            ⊎_elim
            (λ (w : whole < ceiling).
            let c : (whole + 1) * plane ≤ ceiling * plane = mul-le-mul_right plane (omega arith) in omega (arith, p.0))
            (λ w. let c : whole * plane ≡ ceiling * plane = ap (λ (n : ℕ). n * plane) w.0 in omega (arith, w.1)) p.1

        all_left : left ≤ most → Advanced ceiling plane whole begun given room (fed_up_to plane at given left)
        all_left h =
            let i = inside-planes in
            let q : (at + left) / plane ≡ ceiling = div-eq_of_lt-le plane (omega arith) (omega (arith, p.0)) in
            let s : (at + left) / plane * plane ≡ ceiling * plane = ap (λ (n : ℕ). n * plane) q in
            let d = div-add-mod' (at + left) plane in
            record {
              takes = omega arith;
              writes = omega arith;
              fits = omega arith;
              sum = d;
              below = mod-lt (at + left) (omega (arith, p.0));
              ends = inr (q, (omega arith, refl));
            }

        part : most < left → Advanced ceiling plane whole begun given room (fed_up_to plane at most most)
        part h =
            record {
              takes = omega arith;
              writes = omega arith;
              fits = omega arith;
              sum = div-add-mod' (at + most) plane;
              below = mod-lt (at + most) (omega (arith, p.0));
              ends =
                  inl (
                    (div-lt_iff_lt-mul {k = plane} (omega (arith, p.0))).1 (omega arith),
                    (refl, ⊎_elim (λ (e : room < given). inr (omega arith)) (λ e. inl (omega arith)) (lt-or-le room given)),
                  );
            }
