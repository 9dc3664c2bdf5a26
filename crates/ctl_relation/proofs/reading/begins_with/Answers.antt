use Rattle.std.proofs.Common.{◌∙◌, rules, get_or, nat_eq, ap, sym}
use Rattle.ctl_relation.proofs.NamedLemmas.{differs_at}
use Rattle.ctl_relation.proofs.reading.begins_with.Goals as goal

pub returns-in-Some-Some : goal.returns-in-Some-Some
returns-in-Some-Some c =
    let last = c.saturating_sub-last.result in
    let one = c.in-Some-Some.ensures.lookup.3 in
    let other = c.in-Some-Some.ensures'.lookup.3 in
    sym (differs_at c.args.text.now c.args.name.now last one.0 other.0
    (ap (λ byte. nat_eq byte (get_or c.args.name.now last 0)) (sym (one.1 0)) ∙ ap (nat_eq c.in-Some-Some.one.now) (sym (other.1 0)) ∙ search rules))
