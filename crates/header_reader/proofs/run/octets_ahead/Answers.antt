use Rattle.std.proofs.Common.{◌≡◌, ◌∙◌, take, nat_le, rules, tests}
use Rattle.std.proofs.lemmas.Iterator.{YieldsList-from_slice}
use Rattle.std.proofs.lemmas.Iterator.Consumers.{count_from_yields_List}
use Rattle.std.proofs.lemmas.Iterator.Search.{YieldsList-from_take_while}
use Rattle.std.proofs.lemmas.List.{take_min}
use Rattle.std.proofs.lemmas.List.Folds.{length-prefix_len}
use Rattle.header_reader.proofs.run.octets_ahead.Goals as goal

pub returns : goal.returns
returns c =
    let ahead : take c.min.result c.args.piece.now ≡ take c.args.most c.args.piece.now = rw c.min.ensures (take_min c.args.most c.args.piece.now) in
    count_from_yields_List c.take_while.result _ c.count.ensures.ran
    (YieldsList-from_take_while _ (nat_le 128) (YieldsList-from_slice (take c.args.most c.args.piece.now) (cc))
    c.take_while.ensures.closure c.take_while.ensures.done (λ x b q k. search (rules, tests)))
    ∙ length-prefix_len (nat_le 128) (take c.args.most c.args.piece.now)
