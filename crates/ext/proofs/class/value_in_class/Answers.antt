use Rattle.std.proofs.Common.{◌∙◌, rules}
use Rattle.std.proofs.lemmas.Iterator.{YieldsList-from_slice}
use Rattle.std.proofs.lemmas.Iterator.Search.{all_from_yields_List}
use borrow.Author.Tests.{tests}
use Rattle.ext.specs.Classes.{is_alpha_digit, all}
use Rattle.ext.proofs.ClassAll.{strict-class}
use Rattle.ext.proofs.class.value_in_class.Goals as goal

pub returns-else-not-strict : goal.returns-else-not-strict
unfolding all
returns-else-not-strict c =
    all_from_yields_List is_alpha_digit _ _ _ c.all.ensures.ran (YieldsList-from_slice c.args.bytes.now cc) (λ x b q k. search (rules, tests))
    ∙ strict-class _ _ _ c.if-not-strict.false
