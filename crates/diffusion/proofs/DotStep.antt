-- One dot's step, from the tables.
-- Assumes nothing.
use Prim.Native.Nat.{ℕ, ◌+◌, ◌*◌, ◌/◌, ◌<◌}
use mathlib.Core.Path.{◌≡◌, refl, sym, ap, ◌∙◌, subst, subst⁻¹}
use mathlib.Core.List.{List}
use native.Mathlib.Omega.{arith}
use lib.Bits.{bit_or, bit_xor, and_le_l, and_le_r, or_add_and, xor_add_and}
use lib.IntN.{ℤ, nat_abs}
use lib.ListN.{get_or}
use Rattle.diffusion.specs.declared.row.Flow.{Flow}
use Rattle.diffusion.specs.Internal.Sums.{rest_of}
use Rattle.diffusion.specs.Internal.Rows.{RightTable, DownTable}
use Rattle.diffusion.specs.Internal.Flow.{parts_of, none_down, DotLent, DotPassed}
use Rattle.diffusion.proofs.SumsCorrect.{part_small, rest-small}

-- bits of two numbers that are all 0
pub or-none : (a b : ℕ) → bit_or a b ≡ 0 → (a ≡ 0) × (b ≡ 0)
or-none a b e = let s = or_add_and a b in let l = and_le_l a b in let r = and_le_r a b in (omega arith, omega arith)

pub xor-none : (a b : ℕ) → bit_xor a b ≡ 0 → a ≡ b
xor-none a b e = let s = xor_add_and a b in let l = and_le_l a b in let r = and_le_r a b in omega arith

pub parts-lt : (v : ℕ) → v < 512 → parts_of (rest_of v) < 1069105
parts-lt v h =
    let b = rest-small v h in
    omega (arith, part_small 1 _ b, part_small 3 _ b, part_small 5 _ b)

module _ (rights downs : List ℕ) (f : Flow) (v : ℕ) where
  abbrev pub flow_by : Flow
  flow_by =
      record {
        right = get_or rights v 0;
        down = f.down / 256 + get_or downs v 0;
        stirred = bit_or f.stirred (bit_xor (get_or downs v 0) none_down);
        digits = f.digits * 2 + v / 256;
      }

  step-passed : RightTable rights → DownTable downs → v < 512 → DotPassed f v flow_by
  step-passed r d h =
      record {
        right_is = r v h;
        down_is = ap (λ (n : ℕ). f.down / 256 + n) (d v h);
        unstirred = λ e.
            let o = or-none f.stirred (bit_xor (get_or downs v 0) none_down) e in
            (o.0, sym (d v h) ∙ xor-none (get_or downs v 0) none_down o.1);
        digits_is = refl;
      }

module _ (rights downs : List ℕ) (f : Flow) (gray : ℕ) (z sum : ℤ) (same : z ≡ sum) (lent : DotLent f sum) (byte : gray < 256) where
  pub index_in : gray + nat_abs z + f.right < 512
  index_in = subst⁻¹ (λ (i : ℤ). gray + nat_abs i + f.right < 512) same (omega (arith, lent.right_small, lent.sum_small))

  pub dot-passed : RightTable rights → DownTable downs
      → DotPassed f (gray + nat_abs sum + f.right) (flow_by rights downs f (gray + nat_abs z + f.right))
  dot-passed r d =
      subst (λ (i : ℤ). DotPassed f (gray + nat_abs i + f.right) (flow_by rights downs f (gray + nat_abs z + f.right))) same
      (step-passed rights downs f (gray + nat_abs z + f.right) r d index_in)
