use Rattle.ctl_session.proofs.LoadingLemmas.{fault_is_told}
use Rattle.ctl_session.proofs.list_source.stanzas_of.Goals as goal

pub returns-in-Err : goal.returns-in-Err
returns-in-Err c = λ kind text reads. fault_is_told kind text c.args.reading c.in-Err.fault c.in-Err.is reads
