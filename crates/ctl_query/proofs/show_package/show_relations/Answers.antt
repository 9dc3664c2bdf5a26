use Rattle.std.proofs.Common.{rules, [], ◌∷◌, codes}
use Rattle.ctl_policy.specs.Priority.{world_of}
use Rattle.ctl_query.specs.ShowPackage.{relation_lines}
use Rattle.ctl_filter.specs.Texts.{line}
use Rattle.ctl_query.proofs.LeadLemmas.{as_told_under}
use Rattle.ctl_query.proofs.show_package.show_relations.Goals as goal

pub returns : goal.returns
unfolding line
returns c = as_told_under (world_of c.args.store.now) relation_lines c.args.out.now.items (line (codes "Dependencies:" ∷ [])) c.leads.out.items c.args.rows (search rules)
