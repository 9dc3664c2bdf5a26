use Rattle.std.proofs.Common.{◌∙◌, ap}
use Rattle.ctl_query.specs.NameSet.{is_among}
use Rattle.ctl_query.proofs.NameLemmas.{any_lent}
use Rattle.ctl_query.proofs.query_name.CacheQuery.has_option.Goals as goal

pub returns : goal.returns
returns c = c.is_any_of.ensures ∙ any_lent c.options.result.now c.args.option.now ∙ ap (λ words. is_among words c.args.option.now) c.options.ensures
