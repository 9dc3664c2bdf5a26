use Rattle.std.proofs.Common.{◌≡◌, ◌∙◌, None, cond, ap, sym, rules}
use Rattle.std.specs.BTreeMap.{BTreeMap, get}
use Rattle.ctl_store.specs.declared.stanza_key.StanzaKey.{StanzaKey}
use Rattle.ctl_store.specs.Keys.{key_cmp, key_is}
use Rattle.ctl_index.specs.Clauses.{number_among}
use Rattle.ctl_index.specs.Inside.ClauseNumbers.{Placed, all_numbered, number_at_place, place_of}
use Rattle.ctl_index.specs.Inside.TablesCounters.{Numbers}
use Rattle.ctl_index.proofs.ClauseNumberLemmas.{number_is, placed_number, stanza_absent, stanza_written}
use Rattle.ctl_index.proofs.SeenLemmas.{key_is-same}
use Rattle.ctl_index.proofs.clause_numbers.ClauseNumbers.take.Goals as goal

pub returns-in_default-clause-told : goal.returns-in_default-clause-told
returns-in_default-clause-told c = λ k is.
    let m : BTreeMap StanzaKey Placed = c.self.inside.stanzas in
    let none : get key_cmp m c.new.result ≡ None = search rules in
    ap (λ (n : Numbers). number_among n k) (sym c.self.view_is) ∙ stanza_absent m c.args.stanza c.self.invariant (ap (get key_cmp m) (sym c.new.ensures) ∙ none) k is
    ∙ sym (ap (λ (xs : Placed). number_at_place (place_of k) xs) c.none-in_default.ensures)

pub returns-in_default-clause-gone : goal.returns-in_default-clause-gone
returns-in_default-clause-gone c = λ k.
    let m : BTreeMap StanzaKey Placed = c.self.inside.stanzas in
    stanza_written m c.remove.new.self c.new.result None c.self.invariant c.remove.ensures.ordered c.remove.ensures.updates.0 k
    ∙ ap (λ s. cond (key_is k.stanza s) None (number_among (all_numbered m.entries) k)) c.new.ensures
    ∙ ap (λ (n : Numbers). cond (key_is k.stanza c.args.stanza) None (number_among n k)) c.self.view_is

pub returns-clause-told : goal.returns-clause-told
returns-clause-told c = λ k is.
    let m : BTreeMap StanzaKey Placed = c.self.inside.stanzas in
    ap (λ (n : Numbers). number_among n k) (sym c.self.view_is) ∙ number_is m c.self.invariant k
    ∙ ap (λ (q : StanzaKey). placed_number k (get key_cmp m q)) (key_is-same k.stanza c.args.stanza is) ∙ ap (placed_number k) (ap (get key_cmp m) (sym c.new.ensures) ∙ sym c.in-Some.ensures.value)

pub returns-clause-gone : goal.returns-clause-gone
returns-clause-gone c = λ k.
    let m : BTreeMap StanzaKey Placed = c.self.inside.stanzas in
    stanza_written m c.remove.new.self c.new.result None c.self.invariant c.remove.ensures.ordered c.remove.ensures.updates.0 k
    ∙ ap (λ s. cond (key_is k.stanza s) None (number_among (all_numbered m.entries) k)) c.new.ensures
    ∙ ap (λ (n : Numbers). cond (key_is k.stanza c.args.stanza) None (number_among n k)) c.self.view_is
