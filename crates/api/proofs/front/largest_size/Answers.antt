use Prim.Native.Nat.{◌-◌}
use mathlib.Core.Path.{◌∙◌, sym}
use mathlib.Core.List.{[], ◌∷◌}
use lib.ListN.{length, take, drop}
use Rattle.std.proofs.lemmas.Bool.Decides.{Decides-eqb}
use Rattle.std.proofs.lemmas.List.{take_rest}
use Rattle.std.proofs.lemmas.Slice.Eq.{starts_is}
use Rattle.api.proofs.ShortHeaders.{read-largest}
use Rattle.api.proofs.front.largest_size.Goals as goal

pub returns : goal.returns
returns c =
    let at = c.args.at in
    let b = c.args.bytes.now in
    let s = take (length b - at) (drop at b) in
    read-largest b at (drop 3 s)
    (sym (take_rest b at)
    ∙ (starts_is Decides-eqb s (129 ∷ 128 ∷ 0 ∷ []) c.starts_with.result c.starts_with.ensures.value).0 c.if-not-starts_with.false)
