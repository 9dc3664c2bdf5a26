use Rattle.std.proofs.Common.{◌∙◌, ◌++◌, [], ◌∷◌, codes, ap, append_assoc}
use Rattle.ctl_filter.specs.Texts.{line}
use Rattle.ctl_policy.specs.Priority.{world_of}
use Rattle.ctl_query.specs.Packages.{of_all_rows}
use Rattle.ctl_query.specs.ShowPackage.{naming_lines}
use Rattle.ctl_query.proofs.show_package.show_namers.Goals as goal

pub returns : goal.returns
unfolding line
returns c =
    let lines = of_all_rows (world_of c.args.asking.now) (naming_lines c.args.asked.now.name.now) in
    c.in_ok-append_naming.ensures
    ∙ ap (λ text. text ++ lines) c.in_ok-extend_from_slice.ensures.items
    ∙ append_assoc c.args.out.now.items (line (codes "Reverse Depends:" ∷ [])) lines
