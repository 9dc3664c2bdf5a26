use Rattle.std.proofs.Common.{◌∙◌, ap, sym}
use Rattle.std.specs.Map.{lookup}
use Rattle.std.specs.Ordering.{is_eq}
use Rattle.ctl_index.specs.Inside.ClauseNumbers.{Placed, come_in, number_at_place, place_cmp}
use Rattle.ctl_index.proofs.ClauseNumberLemmas.{if_ok, none_there, of_true}
use Rattle.ctl_index.proofs.PlaceLemmas.{come_in-none}
use Rattle.ctl_index.proofs.stanza_numbers.StanzaNumbers.joined.Goals as goal

pub returns-then-are_rising : goal.returns-then-are_rising
returns-then-are_rising c = λ q.
    ap (λ (xs : Placed). number_at_place q xs) c.in_ok-clauses.ensures.items
    ∙ come_in-none c.args.coming.now (of_true c.are_rising.result c.if-are_rising.true c.are_rising.ensures) q
    ∙ ap (λ (xs : Placed). come_in c.args.coming.now q (number_at_place q xs)) (sym (none_there c.args.self.now (sym c.is_empty.ensures ∙ c.if-is_empty.true)))

pub returns : goal.returns
returns c = if_ok c.listed.result (λ numbers is q.
    let cs : Placed = c.self.inside.clauses.items in
    ap (λ (xs : Placed). number_at_place q xs) is ∙ c.in_ok-insert_each-2.ensures.numbers q
    ∙ ap (come_in c.args.coming.now q) (
    c.in_ok-insert_each.ensures.numbers q ∙ (λ i. come_in (c.deref.ensures.value i) q (lookup (λ p. is_eq (place_cmp q p)) (c.new-all.ensures.empty i)))
    ∙ sym (come_in-none cs c.self.invariant q) ∙ ap (λ (xs : Placed). number_at_place q xs) c.self.view_is)) c.listed.ensures
