use mathlib.Core.Path.{sym}
use borrow.Author.Tests.{le-ltb, ne_eqb}
use Rattle.api.proofs.LengthSniffed.{too_long}
use Rattle.api.proofs.sniffing.sniff_length.Goals as goal
use Rattle.api.proofs.sniffing.sniff_length.Goals.{then-plane-size-via-then-plane-size, then-plane-size-via-else-plane-size+then-size-plane-ne0}

pub returns-then-plane-size : goal.returns-then-plane-size
returns-then-plane-size c =
    elim c.then-plane-size.branch [
      | then-plane-size-via-then-plane-size w ↦ sym (too_long c.args.plane c.args.size c.requires.0 w.if-plane-size.true)
      | then-plane-size-via-else-plane-size+then-size-plane-ne0 w ↦
          sym (simp (le-ltb _ _ c.if-size-plane-2.false, ne_eqb _ _ w.if-size-plane-ne0.true))
    ]
