use Rattle.std.proofs.Common.{◌≡◌, ◌+◌, ◌*◌, ◌/◌, ℕ, List, get_or, ◌∙◌, ap, sym, arith}
use Rattle.std.proofs.lemmas.List.{get_or_past}
use Rattle.ext_write.specs.Write.{flattened}
use Rattle.ext_write.proofs.RecordsFlat.{flat-at, flat-long}
use Rattle.ext_write.proofs.list.RefSliceParameterPairList.length.Goals as goal

-- the same length by another form of its index
at-index : (lengths : List ℕ) (k j : ℕ) → k ≡ j → get_or lengths j 0 ≡ get_or lengths k 0
at-index lengths k j e = ap (λ i. get_or lengths i 0) (sym e)

pub returns-in-Some : goal.returns-in-Some
returns-in-Some c =
    let a = c.args in
    let h = c.in-Some.ensures.lookup.3 in
    let d = c.in-Some.p.now in
    let e : a.k ≡ a.k / 2 * 2 = omega (arith, c.if-k-eq0.true) in
    ap (λ p. p.identifier_len) (h.1 d) ∙ sym (flat-at a.self.now.now (a.k / 2) d h.0).0 ∙ at-index (flattened a.self.now.now) a.k _ e

pub returns-in-Some-2 : goal.returns-in-Some-2
returns-in-Some-2 c =
    let a = c.args in
    let h = c.in-Some.ensures.lookup.3 in
    let d = c.in-Some.p.now in
    let e : a.k ≡ a.k / 2 * 2 + 1 = omega (arith, c.if-k-eq0.false) in
    ap (λ p. p.value_len) (h.1 d) ∙ sym (flat-at a.self.now.now (a.k / 2) d h.0).1 ∙ at-index (flattened a.self.now.now) a.k _ e

pub returns-in-None : goal.returns-in-None
returns-in-None c =
    let a = c.args in
    sym (get_or_past (flattened a.self.now.now) a.k 0 (omega (arith, flat-long a.self.now.now, c.in-None.ensures.lookup.3)))
