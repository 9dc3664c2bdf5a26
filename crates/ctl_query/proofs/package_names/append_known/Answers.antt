use Rattle.std.proofs.Common.{◌∙◌, ◌++◌, ap, flat_map}
use Rattle.ctl_policy.specs.Priority.{world_of}
use Rattle.ctl_query.specs.PackageNames.{name_line}
use Rattle.ctl_query.proofs.PackageLemmas.{begun_names}
use Rattle.ctl_query.proofs.package_names.append_known.Goals as goal

pub returns : goal.returns
returns c =
    c.in_ok-append_names.ensures
    ∙ ap (λ names. c.args.out.now.items ++ flat_map name_line names)
    (begun_names (world_of c.args.asking.now) c.args.prefix.now c.in_ok-names.names c.in_ok-names.ensures.order c.in_ok-names.ensures.members)
