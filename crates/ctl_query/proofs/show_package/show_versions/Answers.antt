use Rattle.std.proofs.Common.{rules, ◌≡◌, ◌∙◌, ◌++◌, [], ◌∷◌, codes, flat_map, ap, append_assoc}
use Rattle.ctl_filter.specs.Texts.{line}
use Rattle.ctl_policy.specs.Priority.{world_of}
use Rattle.ctl_query.specs.ShowPackage.{version_line}
use Rattle.ctl_query.proofs.show_package.show_versions.Goals as goal

pub returns : goal.returns
unfolding line
returns c =
    let out = c.args.out.now.items in
    let heading = line (codes "Versions:" ∷ []) in
    let lines = flat_map (version_line (world_of c.args.asking.now)) c.args.rows in
    let told : c.rows.out.items ≡ (out ++ heading) ++ lines = search rules in
    c.in_ok-push.ensures.items ∙ ap (λ text. text ++ line []) told ∙ append_assoc (out ++ heading) lines (line []) ∙ append_assoc out heading (lines ++ line [])
