use Rattle.std.proofs.Common.{◌≡◌, false, rules, sym, ◌∙◌}
use Rattle.header.specs.Settings.{settings}
use Rattle.header_reader.proofs.RunSteps.{stayed, phased}
use Rattle.header_reader.proofs.run.run_fields.Goals as goal
use Rattle.header_reader.proofs.run.run_fields.Goals.{in_default-via-in-AtPair+else-not-mode, in_default-via-in_default}

pub returns-in-InOctets : goal.returns-in-InOctets
returns-in-InOctets c = phased c.in-InOctets.is (c.run_octets.ensures _)

pub returns-in-AtPair : goal.returns-in-AtPair
returns-in-AtPair c =
    let off : c.args.mode.classes ≡ false = search rules in
    phased c.in-AtPair.is (c.run_pairs.ensures (settings c.args.mode) off)

pub returns-in_default : goal.returns-in_default
returns-in_default c =
    let kept : c.in_default.phase ≡ c.args.phase = elim c.in_default.branch [ in_default-via-in-AtPair+else-not-mode w ↦ w.phase-is ∙ sym w.in-AtPair.is | in_default-via-in_default w ↦ w.phase-is ] in
    phased (sym kept) (stayed c.stay.ensures _)
