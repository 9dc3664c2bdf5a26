use Rattle.std.proofs.Common.{◌∙◌, ap, sym}
use Rattle.std.specs.BTreeMap.{BTreeMap, get}
use Rattle.ctl_store.specs.declared.stanza_key.StanzaKey.{StanzaKey}
use Rattle.ctl_store.specs.Keys.{key_cmp}
use Rattle.ctl_index.specs.Clauses.{number_among}
use Rattle.ctl_index.specs.declared.stanza_numbers.ClausePlace.{ClausePlace}
use Rattle.ctl_index.specs.Inside.ClauseNumbers.{Placed, number_at_place}
use Rattle.ctl_index.specs.Inside.TablesCounters.{Numbers}
use Rattle.ctl_index.proofs.ClauseNumberLemmas.{number_is, placed_number}
use Rattle.ctl_index.proofs.clause_numbers.ClauseNumbers.get.Goals as goal

pub returns-in-Some : goal.returns-in-Some
returns-in-Some c =
    let m : BTreeMap StanzaKey Placed = c.self.inside.stanzas in
    c.get-in-Some.ensures.number ∙ ap (λ (p : ClausePlace). number_at_place p c.in-Some.numbers.now) c.of.ensures ∙ ap (placed_number c.args.clause) (c.in-Some.ensures.value ∙ ap (get key_cmp m) c.new.ensures)
    ∙ sym (number_is m c.self.invariant c.args.clause) ∙ ap (λ (n : Numbers). number_among n c.args.clause) c.self.view_is

pub returns-in-None : goal.returns-in-None
returns-in-None c =
    let m : BTreeMap StanzaKey Placed = c.self.inside.stanzas in
    ap (placed_number c.args.clause) (c.in-None.ensures.value ∙ ap (get key_cmp m) c.new.ensures) ∙ sym (number_is m c.self.invariant c.args.clause) ∙ ap (λ (n : Numbers). number_among n c.args.clause) c.self.view_is
