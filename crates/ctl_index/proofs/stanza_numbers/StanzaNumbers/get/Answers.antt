use Rattle.std.proofs.Common.{◌≡◌, ◌∙◌, ℕ, Some, option_map, slice_get, ap, sym, rules}
use Rattle.ctl_index.specs.declared.stanza_numbers.ClausePlace.{ClausePlace}
use Rattle.ctl_index.specs.Inside.ClauseNumbers.{number_at_place}
use Rattle.ctl_index.proofs.PlaceLemmas.{number_there}
use Rattle.ctl_index.proofs.stanza_numbers.StanzaNumbers.get.Goals as goal

pub returns-in-Some-clause-number : goal.returns-in-Some-clause-number
returns-in-Some-clause-number c =
    let cs = c.self.inside.clauses.items in
    let there : option_map (λ (x : ClausePlace × ℕ). x.0) (slice_get cs c.in-Some.at) ≡ Some c.args.place = search rules in
    ap (λ n. Some n) (c.get.ensures.number ∙ ap (λ (x : ClausePlace × ℕ). x.1) c.index.ensures) ∙ sym (number_there cs c.in-Some.at c.args.place c.index.result.now there c.self.invariant)
    ∙ ap (number_at_place c.args.place) c.self.view_is
