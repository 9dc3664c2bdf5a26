use Rattle.std.proofs.Common.{◌≡◌, ◌∙◌, length, ap, arith}
use Rattle.ctl_store.specs.Entries.{stanzas_in_order}
use Rattle.ctl_store.specs.Store.{state_of, keyed_of}
use Rattle.ctl_filter.specs.Inside.Values.{without_keys}
use Rattle.ctl_filter.proofs.StanzaLemmas.{plain_entries}
use Rattle.ctl_filter.proofs.stanzas.stanzas_of.Goals as goal

pub returns-clause-few : goal.returns-clause-few
returns-clause-few c =
    let same : length (without_keys c.entries.result) ≡ length (stanzas_in_order (state_of c.args.store.now).lists) =
    ap (λ entries. length (without_keys entries)) c.entries.ensures.entries ∙ ap length (plain_entries (keyed_of c.args.store.now).lists) in
    omega (arith, same, c.stanza_count-count.ensures, c.stanza_count-count.type_inv)
