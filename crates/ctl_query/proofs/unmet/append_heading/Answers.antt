use Rattle.std.proofs.Common.{◌∙◌, ◌++◌, [], ◌∷◌, codes}
use Rattle.ctl_filter.specs.Texts.{line}
use Rattle.ctl_query.proofs.unmet.append_heading.Goals as goal

-- the line with the lead's package and version
pub returns : goal.returns
returns c =
    c.in_ok-append_line.ensures
    ∙ (λ i. c.args.out.now.items ++ line (codes "Package " ∷ c.package.ensures.body i ∷ codes " version " ∷ c.version_text.ensures i ∷ codes " has an unmet dep:" ∷ []))
