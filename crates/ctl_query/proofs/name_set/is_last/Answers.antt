use Rattle.std.proofs.Common.{◌∙◌, ◌-◌, sym, length}
use Rattle.std.specs.Str.{bytes_eq}
use Rattle.ctl_query.proofs.RisingLemmas.{one_at}
use Rattle.ctl_query.proofs.name_set.is_last.Goals as goal

pub returns-in-Some : goal.returns-in-Some
returns-in-Some c = λ is. one_at (bytes_eq c.args.name.now) c.args.names.now (length c.args.names.now - 1) c.in-Some.last.now (sym c.in-Some.ensures.value) (sym c.eq.ensures ∙ is)
