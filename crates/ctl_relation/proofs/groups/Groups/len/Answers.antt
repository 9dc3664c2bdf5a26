use Rattle.std.proofs.Common.{◌∙◌, List, length, ap, sym}
use Rattle.ctl_relation.specs.Parts.{AtomParts}
use Rattle.ctl_relation.proofs.PlaceLemmas.{held-length}
use Rattle.ctl_relation.proofs.groups.Groups.len.Goals as goal

pub returns : goal.returns
returns c =
    let g = c.self.inside in
    sym (held-length g.kind g.body.now g.starts.now g.further.now) ∙ ap (λ (groups : List (List AtomParts)). length groups) c.self.view_is
