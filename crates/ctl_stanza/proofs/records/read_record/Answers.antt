use Rattle.std.proofs.Common.{◌∙◌, [], length, sym, ap, arith}
use Rattle.std.proofs.lemmas.List.{length-map}
use Rattle.ctl_stanza.specs.declared.repeats.Repeats.TheVariants.{Explanation}
use Rattle.ctl_stanza.specs.declared.fault.TextFault.{TextFault}
use Rattle.ctl_stanza.specs.Lines.{lent_lines}
use Rattle.ctl_stanza.proofs.FaultLemmas.{first_fault-memory, not-memory}
use Rattle.ctl_stanza.proofs.CauseLemmas.{lines_tell}
use Rattle.ctl_stanza.proofs.PieceLemmas.{now}
use Rattle.ctl_stanza.proofs.records.read_record.Goals as goal

pub numbered_fault-requires : goal.numbered_fault-requires
numbered_fault-requires c =
    let told = (lines_tell Explanation 0 (lent_lines c.as_slice-lines.result.now)).sound c.in-Some.fault (sym c.in_ok-found.ensures.fault ∙ c.in-Some.is) in
    omega (arith, told.1, told.2.0, length-map c.as_slice-lines.result.now now, ap length c.as_slice-lines.ensures.value, c.requires.numbers)

pub returns-in-Some-clause-memory : goal.returns-in-Some-clause-memory
returns-in-Some-clause-memory c = λ memory.
    absurd (not-memory c.in-Some.fault _ (first_fault-memory Explanation 0 [] (lent_lines c.as_slice-lines.result.now)) (sym c.in_ok-found.ensures.fault ∙ c.in-Some.is)
    (sym (ap (λ (f : TextFault). f.cause) c.numbered_fault.ensures) ∙ memory))
