use Rattle.std.proofs.Common.{◌≡◌, ◌∙◌, ◌-◌, ℕ, Some, cond, option_map, slice_get, ap, sym, rules, arith}
use Rattle.std.specs.Ordering.{is_eq}
use Rattle.ctl_index.specs.declared.stanza_numbers.ClausePlace.{ClausePlace}
use Rattle.ctl_index.specs.Inside.ClauseNumbers.{Placed, number_at_place, place_cmp}
use Rattle.ctl_index.proofs.PlaceLemmas.{number_there, number_written, place_absent, place_changed, rises_written}
use Rattle.ctl_index.proofs.stanza_numbers.StanzaNumbers.lower.Goals as goal

pub invariant_of-self : goal.invariant_of-self
invariant_of-self c =
    let cs = c.self.inside.clauses.items in
    let there : option_map (λ (x : ClausePlace × ℕ). x.0) (slice_get cs c.in-Some.at) ≡ Some c.args.place = search rules in
    rises_written c.args.place c.new.result cs c.in-Some.at there c.self.invariant

pub returns-in-Some-clause-before : goal.returns-in-Some-clause-before
returns-in-Some-clause-before c =
    let cs = c.self.inside.clauses.items in
    let there : option_map (λ (x : ClausePlace × ℕ). x.0) (slice_get cs c.in-Some.at) ≡ Some c.args.place = search rules in
    ap (λ n. Some n) (c.get-number.ensures.number ∙ ap (λ (x : ClausePlace × ℕ). x.1) c.index.ensures) ∙ sym (number_there cs c.in-Some.at c.args.place c.index.result.now there c.self.invariant)
    ∙ ap (number_at_place c.args.place) c.self.view_is

pub returns-in-Some-clause-after : goal.returns-in-Some-clause-after
returns-in-Some-clause-after c = λ q.
    let cs = c.self.inside.clauses.items in
    let there : option_map (λ (x : ClausePlace × ℕ). x.0) (slice_get cs c.in-Some.at) ≡ Some c.args.place = search rules in
    let before : number_at_place c.args.place cs ≡ Some c.get-number.result =
    number_there cs c.in-Some.at c.args.place c.index.result.now there c.self.invariant ∙ sym (ap (λ n. Some n) (c.get-number.ensures.number ∙ ap (λ (x : ClausePlace × ℕ). x.1) c.index.ensures)) in
    number_written c.args.place c.new.result cs c.in-Some.at there c.self.invariant q
    ∙ place_changed (λ x n. x - n) (λ x. omega arith) cs c.args.place c.get-number.result c.new.result before (omega (arith, c.new.ensures, c.saturating_sub.ensures, c.get-number.ensures.number)) q
    ∙ ap (λ (xs : Placed). option_map (λ x. x - cond (is_eq (place_cmp c.args.place q)) 1 0) (number_at_place q xs)) c.self.view_is

pub returns-in-None-clause-after : goal.returns-in-None-clause-after
returns-in-None-clause-after c = place_absent (λ x n. x - n) (λ x. omega arith) c.args.self.now c.args.place (search rules)
