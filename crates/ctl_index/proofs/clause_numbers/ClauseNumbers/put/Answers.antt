use Rattle.std.proofs.Common.{◌∙◌, Some, cond, ap}
use Rattle.std.specs.BTreeMap.{BTreeMap}
use Rattle.ctl_store.specs.declared.stanza_key.StanzaKey.{StanzaKey}
use Rattle.ctl_store.specs.Keys.{key_is}
use Rattle.ctl_index.specs.Clauses.{number_among}
use Rattle.ctl_index.specs.Inside.ClauseNumbers.{Placed, all_numbered, number_at_place, place_of}
use Rattle.ctl_index.specs.Inside.TablesCounters.{Numbers}
use Rattle.ctl_index.proofs.ClauseNumberLemmas.{stanza_written}
use Rattle.ctl_index.proofs.clause_numbers.ClauseNumbers.put.Goals as goal

pub returns : goal.returns
returns c = λ k.
    let m : BTreeMap StanzaKey Placed = c.self.inside.stanzas in
    stanza_written m c.insert.new.self c.new.result (Some c.args.numbers) c.in_ok-insert.ensures.was_ordered c.in_ok-insert.ensures.ordered c.in_ok-insert.ensures.updates.0 k
    ∙ ap (λ s. cond (key_is k.stanza s) (number_at_place (place_of k) c.args.numbers) (number_among (all_numbered m.entries) k)) c.new.ensures
    ∙ ap (λ (n : Numbers). cond (key_is k.stanza c.args.stanza) (number_at_place (place_of k) c.args.numbers) (number_among n k)) c.self.view_is
