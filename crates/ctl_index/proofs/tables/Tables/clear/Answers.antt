use Rattle.std.proofs.Common.{ap}
use Rattle.std.specs.Option.{option_map_or}
use Rattle.ctl_index.specs.Inside.TablesByName.{named_own, no_rows}
use Rattle.ctl_index.proofs.RecoverLemmas.{nothing_indexed}
use Rattle.ctl_index.proofs.tables.Tables.clear.Goals as goal

pub returns-clause-indexed : goal.returns-clause-indexed
returns-clause-indexed c = nothing_indexed _ c.new.ensures c.new-2.ensures

pub returns-clause-bare : goal.returns-clause-bare
returns-clause-bare c = λ q. ap (λ o. option_map_or named_own o no_rows) (c.new.ensures q)
