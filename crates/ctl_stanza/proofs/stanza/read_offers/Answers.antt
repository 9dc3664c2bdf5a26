use Rattle.std.proofs.Common.{◌∙◌, false, sym}
use Rattle.ctl_stanza.specs.Inside.HeldFields.{shown_fields}
use Rattle.ctl_stanza.proofs.FaultLemmas.{first_wrong-memory, never-memory}
use Rattle.ctl_stanza.proofs.stanza.read_offers.Goals as goal

pub returns-in-Some-clause-memory : goal.returns-in-Some-clause-memory
returns-in-Some-clause-memory c =
    never-memory c.in-Some.fault _ (first_wrong-memory false c.args.head.line (shown_fields c.as_slice-bytes.result.now c.as_slice-fields.result.now)) (sym c.first_wrong.ensures ∙ c.in-Some.is)
