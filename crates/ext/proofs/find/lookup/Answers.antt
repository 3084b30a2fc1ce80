use Rattle.std.proofs.Common.{◌≡◌, ◌+◌, ◌-◌, rules, ap, sym, ◌∙◌, get_or, refl, arith, Option}
use Rattle.std.specs.Cmp.Lexicographic.{bytes_decides}
use Rattle.error.specs.Answer.{gives}
use Rattle.ext.specs.Kinds.{pair_header, ext_span}
use Rattle.ext.specs.declared.ExtFields.{ExtFields}
use Rattle.ext.specs.declared.PairHeader.{PairHeader}
use Rattle.ext.proofs.SliceSame.{lent_part}
use Rattle.ext.proofs.PairsWalk.{Answers, NextPair, walk_begin, walk-next, walk_end}
use Rattle.ext.proofs.find.lookup.Goals as goal
use Rattle.ext.proofs.find.lookup.Goals.{In-loop-pair}

-- the next pair, whose header is h
next : (c : In-loop-pair) (h : PairHeader) → h ≡ pair_header (get_or c.args.bytes.now c.loop-pair.at 0)
    → let a = c.args in
    let l = c.loop-pair in
    NextPair a.bytes.now a.identifier.now (Answers a.fix_header a.bytes.now a.offset a.identifier.now) h l.at (c.in-Some.fields.pairs - l._pair)
next c h e = walk-next _ _ _ _ _ h e (omega arith) c.loop-pair.invariant

pub loop-pair-init : goal.loop-pair-init
loop-pair-init c =
    let a = c.args in
    walk_begin a.fix_header a.bytes.now a.offset a.identifier.now c.in-Some.fields _ (omega arith)
    (sym (ap (λ (o : Option ExtFields). gives (ext_span o)) c.in-Some.is) ∙ c.in_ok-fields.ensures)

pub bounds-bytes-at : goal.bounds-bytes-at
bounds-bytes-at c = omega (arith, (next (goal.at.bounds-bytes-at c).In-loop-pair _ refl).within)

pub overflow_add-identifier_at : goal.overflow_add-identifier_at
overflow_add-identifier_at c = omega (arith, (next (goal.at.overflow_add-identifier_at c).In-loop-pair _ refl).within)

pub overflow_add-start : goal.overflow_add-start
overflow_add-start c = omega (arith, (next (goal.at.overflow_add-start c).In-loop-pair _ c.from_byte-header.ensures).within)

pub slice_bounds-eq-end : goal.slice_bounds-eq-end
slice_bounds-eq-end c = let h = (next (goal.at.slice_bounds-eq-end c).In-loop-pair _ c.from_byte-header.ensures).within in search rules

pub overflow_add-at : goal.overflow_add-at
overflow_add-at c = omega (arith, (next (goal.at.overflow_add-at c).In-loop-pair _ c.from_byte-header.ensures).within)

pub returns-then-eq : goal.returns-then-eq
returns-then-eq c =
    let part = lent_part (c.loop-pair.at + 1) c.from_byte-header.result.identifier_len c.args.bytes.now in
    (next (goal.at.returns-then-eq c).In-loop-pair _ c.from_byte-header.ensures).found
    (sym part ∙ (bytes_decides _ _).0 (sym c.eq.ensures ∙ c.if-eq.true))

pub loop-pair-preserved : goal.loop-pair-preserved
loop-pair-preserved c =
    let part = lent_part (c.loop-pair.at + 1) c.from_byte-header.result.identifier_len c.args.bytes.now in
    (next (goal.at.loop-pair-preserved c).In-loop-pair _ c.from_byte-header.ensures).other
    (λ e. let s = c.eq.ensures ∙ (bytes_decides _ _).1 (part ∙ e) in cc)
    _ (omega arith)

pub returns : goal.returns
returns c = walk_end _ _ _ _ _ (omega arith) c.loop-pair.invariant
