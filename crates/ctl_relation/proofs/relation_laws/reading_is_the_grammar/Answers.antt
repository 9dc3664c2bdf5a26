use Rattle.std.specs.Prelude.{Ok}
use Rattle.std.proofs.Common.{ap}
use Rattle.ctl_relation.proofs.Found.{if_found}
use Rattle.ctl_relation.proofs.FieldAgain.{relations_again}
use Rattle.ctl_relation.proofs.Faults.{read_fault}
use Rattle.ctl_relation.proofs.Runs.{fault_in}
use Rattle.ctl_relation.proofs.relation_laws.reading_is_the_grammar.Goals as goal

pub returns-clause-found : goal.returns-clause-found
returns-clause-found c kind body groups read = if_found kind body (Ok groups) read

pub returns-clause-only : goal.returns-clause-only
returns-clause-only c kind body groups text = relations_again kind body groups text

pub returns-clause-fault : goal.returns-clause-fault
returns-clause-fault c kind body f read = read_fault kind body f (ap fault_in read)
