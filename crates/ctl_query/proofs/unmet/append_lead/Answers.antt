use Rattle.std.proofs.Common.{rules, ◌≡◌, ◌∙◌, ◌++◌, length, ap}
use Rattle.ctl_policy.specs.Priority.{world_of}
use Rattle.ctl_query.specs.Unmet.{clause_lines, unmet_heading, unmet_lead}
use Rattle.ctl_query.proofs.unmet.append_lead.Goals as goal

pub returns : goal.returns
unfolding unmet_lead
returns c =
    let lines = clause_lines (world_of c.args.asking.now) c.args.important c.args.lead.now.stanza.now in
    let started : length c.args.out.now.items ≡ c.len-start.result = search rules in
    let headed : length (c.args.out.now.items ++ unmet_heading c.args.lead.now.stanza.now) ≡ c.len-headed.result = search (rules, c.in_ok-append_heading.ensures) in
    c.close_heading.ensures c.args.out.now.items (unmet_heading c.args.lead.now.stanza.now) lines started headed
    (c.in_ok-append_clauses.ensures ∙ ap (λ text. text ++ lines) c.in_ok-append_heading.ensures)
