use Prim.Native.Nat.{ℕ, ◌+◌, ◌-◌}
use mathlib.Core.Path.{◌≡◌, ◌∙◌, sym, ap}
use mathlib.Core.Bool.{Bool}
use mathlib.Core.List.{List}
use native.Mathlib.Omega.{arith}
use lib.ListN.{length, set, length-set}
use lib.Seq.{sets}
use borrow.Rule.Slice.PartMut.{put_mid, same_len_mid}
use Rattle.std.proofs.Common.{rules}
use Rattle.std.specs.Option.{option_map}
use Rattle.std.proofs.lemmas.Result.{err_from_is_err_and}
use Rattle.header.specs.Write.{size_bytes}
use Rattle.error.specs.Answer.{gives, map}
use Rattle.ext.specs.Kinds.{kind_number}
use Rattle.ext_write.specs.Write.{lent_bytes}
use Rattle.ext_write.specs.Internal.Left.{ChecksPairs}
use Rattle.header.proofs.HeaderBytes.{refused-within, bytes-within, lent-refused, lent-short, not_refused, lent-left}
use Rattle.header.proofs.write.begin_fields_header.Goals as goal
use Rattle.header.proofs.write.begin_fields_header.Goals.{In_ok-len, Else-out-end}

-- the fields are accepted, and how many bytes they are
checked : (c : In_ok-len)
    → let a = c.args in
    (strict : Bool) (lengths : List ℕ) → ChecksPairs strict a.text.now lengths a.found
    → gives c.in_ok-len.len ≡ map length (lent_bytes strict (kind_number a.ext_type) a.text.now lengths)
checked c strict lengths h = c.in_ok-len.ensures strict lengths h

pub returns-in_err-len : goal.returns-in_err-len
returns-in_err-len c =
    let a = c.args in
    let p = err_from_is_err_and c.from_residual.result c.from_residual.ensures.1 in
    rw (p.1, p.2) (
      refused-within a.out.now _,
      λ strict lengths h. lent-refused strict a.width a.height _ _ lengths a.out.now _ (c.in_err-len.ensures strict lengths h),
    )

pub returns-then-out-end : goal.returns-then-out-end
returns-then-out-end c =
    let a = c.args in (
      refused-within a.out.now _,
      λ strict lengths h. lent-short strict a.width a.height _ _ lengths a.out.now _ _
          c.new.ensures (checked (goal.at.returns-then-out-end c).In_ok-len strict lengths h)
          (omega (arith, c.if-out-end.true, c.plain_len.ensures, c.saturating_add-end.ensures)),
    )

-- the header has room, and its fields are begun behind its first two bytes
room : (c : Else-out-end) → 2 + length (size_bytes c.args.width c.args.height) + c.in_ok-len.len ≡ c.saturating_add-end.result
room c = omega (arith, c.if-out-end.false, c.plain_len.ensures, c.saturating_add-end.ensures, c.well_formed)

pub returns-in_err-begun : goal.returns-in_err-begun
returns-in_err-begun c =
    let a = c.args in
    let p = err_from_is_err_and c.from_residual-in_err-begun.result c.from_residual-in_err-begun.ensures.1 in
    rw (p.1, p.2) (
      refused-within _ _,
      λ strict lengths h. absurd (not_refused strict a.width a.height (kind_number a.ext_type) a.text.now lengths a.out.now
          c.put_sizes.new.out c.begin_fields.new.out c.in_ok-len.len
          (checked (goal.at.returns-in_err-begun c).In_ok-len strict lengths h)
          (omega (arith, c.if-out-end.false, room (goal.at.returns-in_err-begun c).Else-out-end))
          (c.put_sizes.ensures ∙ ap (λ (x : ℕ). sets (set (set a.out.now 0 0) 1 x) (2 + c.in_ok-len.len) (size_bytes a.width a.height))
          c.fix_byte.ensures)
          c.begin_fields.auto.out _ (c.in_err-begun.ensures.1 strict lengths h)),
    )

pub returns : goal.returns
returns c =
    let a = c.args in
    let n : ℕ = c.in_ok-len.len in
    let m : c.map.result ≡ option_map (λ to. 2 + to) c.in_ok-begun.begun.pairs = search rules in
    let e = room (goal.at.returns c).Else-out-end in
    let kept = same_len_mid 2 (length c.put_sizes.new.out - 2) c.put_sizes.new.out c.begin_fields.new.out
    c.begin_fields.auto.out ∙ simp length-set at c.put_sizes.auto.out in
    rw (sym e) (
      bytes-within a.out.now (put_mid 2 (length c.put_sizes.new.out - 2) c.put_sizes.new.out c.begin_fields.new.out) _ _
          (omega arith) (omega (arith, c.if-out-end.false, e)) kept,
      λ strict lengths h. lent-left strict a.width a.height (kind_number a.ext_type) a.text.now lengths a.out.now
          c.put_sizes.new.out c.begin_fields.new.out n
          (checked (goal.at.returns c).In_ok-len strict lengths h)
          (omega (arith, c.if-out-end.false, e))
          (c.put_sizes.ensures ∙ ap (λ (x : ℕ). sets (set (set a.out.now 0 0) 1 x) (2 + n) (size_bytes a.width a.height))
          c.fix_byte.ensures)
          c.begin_fields.auto.out _ _ m (c.in_ok-begun.ensures.1 strict lengths h),
    )
