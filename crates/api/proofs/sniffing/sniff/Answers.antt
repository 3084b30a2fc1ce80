use mathlib.Core.Path.{sym, ap, ◌∙◌, subst}
use Rattle.api.proofs.HeaderTold.{sniff_front, front-sniffed, FrontSized, front-sized}
use Rattle.api.proofs.sniffing.sniff.Goals as goal

pub sniff_sizes-requires : goal.sniff_sizes-requires
sniff_sizes-requires c =
    let s = c.args.bytes.now in
    subst (FrontSized s) (sym c.read_front.ensures ∙ c.in-Some.is) (front-sized s)

pub returns-in-Some : goal.returns-in-Some
returns-in-Some c =
    let s = c.args.bytes.now in
    c.sniff_sizes.ensures ∙ ap (sniff_front s) (sym c.in-Some.is ∙ c.read_front.ensures) ∙ front-sniffed s

pub returns-in-None : goal.returns-in-None
returns-in-None c =
    let s = c.args.bytes.now in
    ap (sniff_front s) (sym c.in-None.is ∙ c.read_front.ensures) ∙ front-sniffed s
