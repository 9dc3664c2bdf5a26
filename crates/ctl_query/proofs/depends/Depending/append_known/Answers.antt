use Rattle.std.proofs.Common.{rules, ◌≡◌, ◌∙◌, ◌++◌, [], ◌∷◌, Option, None, Some, option_copied, append-nil, append_assoc, ap, sym}
use Rattle.std.specs.Option.{option_or}
use Rattle.ctl_stanza.specs.Content.{Content}
use Rattle.ctl_policy.specs.declared.chosen.Chosen.{Chosen}
use Rattle.ctl_policy.specs.Candidate.{candidate_of}
use Rattle.ctl_policy.specs.Priority.{world_of}
use Rattle.ctl_policy.specs.Rows.{lead_of}
use Rattle.ctl_filter.specs.Texts.{line}
use Rattle.ctl_query.specs.Depends.{lead_lines}
use Rattle.ctl_query.specs.Packages.{rows_of, stanza_under, told}
use Rattle.ctl_query.proofs.ShownLeadLemmas.{told_without, told_with}
use Rattle.ctl_query.proofs.depends.Depending.append_known.Goals as goal

pub returns-in_default-clause-text : goal.returns-in_default-clause-text
returns-in_default-clause-text c =
    let world = world_of c.args.self.now.asking.now in
    let name = c.args.asked.now.name.now in
    let none : rows_of world name ≡ [] = search rules in
    c.in_ok-append_line.ensures ∙ ap (λ text. c.args.out.now.items ++ text) (sym (told_without world c.args.self.now.options name none))

pub returns-in_ok-append_lead-in-Some-lead_shown-clause-text : goal.returns-in_ok-append_lead-in-Some-lead_shown-clause-text
returns-in_ok-append_lead-in-Some-lead_shown-clause-text c =
    let world = world_of c.args.self.now.asking.now in
    let options = c.args.self.now.options in
    let name = c.args.asked.now.name.now in
    let out = c.args.out.now.items in
    let newest = c.in-Some.newest.now in
    let lead = c.in-Some-lead_shown.lead.now in
    let lines = lead_lines world options in
    let are : rows_of world name ≡ newest ∷ c.next.new.self = search rules in
    let chose : c.chosen.result.candidate ≡ candidate_of name world = ap (λ (chosen : Chosen). chosen.candidate) (c.chosen.ensures ∙ c.requires.chosen) in
    let shown : stanza_under world (option_or (candidate_of name world) (lead_of newest)) ≡ Some lead =
    (λ i. stanza_under (world_of (sym c.store.ensures i)) (option_or (sym chose i) (lead_of newest))) ∙ sym c.lead_shown.ensures ∙ ap (λ o. option_copied o) c.in-Some-lead_shown.is in
    c.in_ok-append_lead-in-Some-lead_shown.ensures.text
    ∙ ap (λ text. text ++ lines lead) c.in_ok-append_line-2.ensures
    ∙ append_assoc out (line (name ∷ [])) (lines lead)
    ∙ ap (λ (o : Option Content). out ++ (line (name ∷ []) ++ told lines o)) (sym shown)
    ∙ ap (λ text. out ++ text) (sym (told_with world options name newest c.next.new.self are))

pub returns-in-None-clause-text : goal.returns-in-None-clause-text
returns-in-None-clause-text c =
    let world = world_of c.args.self.now.asking.now in
    let options = c.args.self.now.options in
    let name = c.args.asked.now.name.now in
    let out = c.args.out.now.items in
    let newest = c.in-Some.newest.now in
    let lines = lead_lines world options in
    let are : rows_of world name ≡ newest ∷ c.next.new.self = search rules in
    let chose : c.chosen.result.candidate ≡ candidate_of name world = ap (λ (chosen : Chosen). chosen.candidate) (c.chosen.ensures ∙ c.requires.chosen) in
    let shown : stanza_under world (option_or (candidate_of name world) (lead_of newest)) ≡ None =
    (λ i. stanza_under (world_of (sym c.store.ensures i)) (option_or (sym chose i) (lead_of newest))) ∙ sym c.lead_shown.ensures ∙ ap (λ o. option_copied o) c.in-None.is in
    c.in_ok-append_line-2.ensures
    ∙ ap (λ text. out ++ text) (sym (append-nil (line (name ∷ []))))
    ∙ ap (λ (o : Option Content). out ++ (line (name ∷ []) ++ told lines o)) (sym shown)
    ∙ ap (λ text. out ++ text) (sym (told_with world options name newest c.next.new.self are))
