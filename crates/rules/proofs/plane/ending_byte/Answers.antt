use Rattle.rules.proofs.PlaneWritten.{ending-is, ending-fits}
use Rattle.rules.proofs.plane.ending_byte.Goals as goal

pub overflow_cast-result-2 : goal.overflow_cast-result-2
overflow_cast-result-2 c =
    let a = c.args in
    let dots = c.threshold_dots-dots in
    record { fits = ending-fits a.bound a.gray.now _ c.requires (ending-is a.bound a.gray.now dots.result c.requires dots.ensures) }

pub returns : goal.returns
returns c = ending-is c.args.bound c.args.gray.now c.threshold_dots-dots.result c.requires c.threshold_dots-dots.ensures
