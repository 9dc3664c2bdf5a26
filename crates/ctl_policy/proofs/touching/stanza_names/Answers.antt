use Rattle.std.proofs.Common.{◌++◌, ap, ◌∙◌}
use Rattle.ctl_store.specs.Store.{keyed_of}
use Rattle.ctl_store.specs.Keys.{stanza_at, coming}
use Rattle.ctl_policy.specs.Touched.{packages_at}
use Rattle.ctl_policy.proofs.TouchedNamesLemmas.{stanzas_pushed}
use Rattle.ctl_policy.proofs.touching.stanza_names.Goals as goal

pub returns : goal.returns
returns c = λ q.
    stanzas_pushed q c.args.store.now c.args.plan.now c.requires c.new-names.result.items c.push_packages.new.names.items c.push_coming.new.names.items c.new-names.ensures.items
    (c.in_ok-push_packages.ensures ∙ ap (λ ks. c.new-names.result.items ++ packages_at ks (λ k. stanza_at k (keyed_of c.args.store.now).lists)) c.removed.ensures)
    (c.in_ok-push_coming.ensures ∙ ap (λ ks. c.push_packages.new.names.items ++ packages_at ks (coming c.args.plan.now.edit)) c.added.ensures.keys)
