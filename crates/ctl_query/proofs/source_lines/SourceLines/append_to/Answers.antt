use Rattle.std.proofs.Common.{◌≡◌, ◌∙◌, ◌++◌, ap, flat_map}
use Rattle.ctl_store.specs.Store.{Held, keyed_of}
use Rattle.ctl_policy.specs.Priority.{world_of}
use Rattle.ctl_policy.specs.Rows.{sources_of}
use Rattle.ctl_query.specs.Inside.SourceLines.{lent_lines, lines_of_lists, line_if_source}
use Rattle.ctl_query.specs.Policy.{source_line}
use Rattle.ctl_query.proofs.ListLemmas.{lines_of_sources}
use Rattle.ctl_query.proofs.source_lines.SourceLines.append_to.Goals as goal

pub returns-in-Some : goal.returns-in-Some
returns-in-Some c =
    let world = world_of c.self.inside.store.now in
    let text = line_if_source world c.args.row.now in
    let told : lent_lines c.in-Some.lines.items ≡ lines_of_lists world = rw c.in-Some.is at c.self.invariant in
    c.in_ok-append_lines.ensures
    ∙ ap (λ shown. c.args.out.now.items ++ shown)
    (ap (λ lines. flat_map text (lent_lines lines)) c.deref.ensures.value
    ∙ ap (flat_map text) told
    ∙ lines_of_sources world c.args.row.now)
    ∙ ap (λ (store : Held). c.args.out.now.items ++ flat_map (source_line (world_of store)) (sources_of c.args.row.now (keyed_of store).lists)) c.self.view_is
