use mathlib.Core.Path.{subst}
use mathlib.Core.List.{[], ◌∷◌}
use lib.ListN.{drop}
use Rattle.std.proofs.lemmas.Bool.Decides.{Decides-eqb}
use Rattle.std.proofs.lemmas.Slice.Eq.{starts_is}
use Rattle.api.specs.Internal.Parts.{ShortReads}
use Rattle.api.proofs.ShortHeaders.{front-on}
use Rattle.api.proofs.front.short_header.Goals as goal

pub returns : goal.returns
returns c =
    let s = c.args.bytes.now in
    front-on s (drop 2 s)
    ((starts_is Decides-eqb s (0 ∷ 0 ∷ []) c.starts_with.result c.starts_with.ensures.value).0 c.if-not-starts_with.false)
    c.short_height.result _ _ (subst (ShortReads s 2) c.in_ok-width.was c.short_integer.ensures) c.short_height.ensures
