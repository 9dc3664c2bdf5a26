use Rattle.std.proofs.Common.{◌∙◌, List, length, drop, ap, arith}
use Rattle.ctl_relation.specs.Parts.{AtomParts}
use Rattle.ctl_relation.proofs.PlaceLemmas.{held-length, held-from, are-held-from}
use Rattle.ctl_relation.proofs.groups.Groups.from_index.Goals as goal

pub split_at-requires : goal.split_at-requires
split_at-requires c =
    let g = c.self.inside in
    omega (arith, c.requires, held-length g.kind g.body.now g.starts.now g.further.now, ap (λ (groups : List (List AtomParts)). length groups) c.self.view_is)

pub new-requires-2 : goal.new-requires-2
new-requires-2 c =
    let g = c.self.inside in
    rw (c.behind_earlier-further.ensures, c.split_at.ensures.back) (are-held-from g.kind g.body.now c.args.index g.starts.now g.further.now c.self.invariant)

pub returns : goal.returns
returns c =
    let g = c.self.inside in
    let size = ap (λ (groups : List (List AtomParts)). length groups) c.self.view_is in
    rw (c.new-2.ensures, c.behind_earlier-further.ensures, c.split_at.ensures.back)
    (held-from g.kind g.body.now c.args.index _ g.starts.now g.further.now c.if-index-eq0.false (omega (arith, c.requires, held-length g.kind g.body.now g.starts.now g.further.now, size)) c.self.invariant.starts_rise
    ∙ ap (drop c.args.index) c.self.view_is)
