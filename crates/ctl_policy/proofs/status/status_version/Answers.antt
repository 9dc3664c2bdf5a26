use Rattle.std.proofs.Common.{None, ap, ◌∙◌}
use Rattle.std.specs.Option.{option_map_or}
use Rattle.ctl_stanza.specs.Content.{version_of}
use Rattle.ctl_store.specs.Store.{keyed_of}
use Rattle.ctl_policy.specs.Rows.{version_under}
use Rattle.ctl_policy.proofs.StatusLemmas.{status_is}
use Rattle.ctl_policy.proofs.status.status_version.Goals as goal

pub returns-in-Some-find : goal.returns-in-Some-find
returns-in-Some-find c =
    let lists = (keyed_of c.args.store.now).lists in
    c.version.ensures.version
    ∙ ap (λ o. option_map_or version_of o None) c.in-Some-find.ensures.stanza
    ∙ ap (version_under lists) c.in-Some.ensures
    ∙ status_is c.args.name.now lists c.requires.rising c.args.rows.now c.requires.ordered c.requires.rows

pub returns-in-None-find : goal.returns-in-None-find
returns-in-None-find c =
    let lists = (keyed_of c.args.store.now).lists in
    ap (λ o. option_map_or version_of o None) c.in-None-find.ensures.stanza
    ∙ ap (version_under lists) c.in-Some.ensures
    ∙ status_is c.args.name.now lists c.requires.rising c.args.rows.now c.requires.ordered c.requires.rows

pub returns-in-None : goal.returns-in-None
returns-in-None c =
    let lists = (keyed_of c.args.store.now).lists in
    ap (version_under lists) c.in-None.ensures
    ∙ status_is c.args.name.now lists c.requires.rising c.args.rows.now c.requires.ordered c.requires.rows
