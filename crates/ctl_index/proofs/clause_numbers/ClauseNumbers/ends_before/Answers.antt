use Rattle.std.proofs.Common.{◌∙◌, ap, sym}
use Rattle.std.specs.BTreeMap.{BTreeMap}
use Rattle.std.specs.Ordering.{is_lt}
use Rattle.ctl_store.specs.declared.stanza_key.StanzaKey.{StanzaKey}
use Rattle.ctl_store.specs.Keys.{key_cmp}
use Rattle.ctl_index.specs.Clauses.{number_among}
use Rattle.ctl_index.specs.Inside.ClauseNumbers.{Placed}
use Rattle.ctl_index.specs.Inside.TablesCounters.{Numbers}
use Rattle.ctl_index.proofs.ClauseNumberLemmas.{behind_last, on_true}
use Rattle.ctl_index.proofs.clause_numbers.ClauseNumbers.ends_before.Goals as goal

pub returns-in-Some : goal.returns-in-Some
returns-in-Some c = on_true c.is_lt.result (λ less k is.
    let m : BTreeMap StanzaKey Placed = c.self.inside.stanzas in
    ap (λ (n : Numbers). number_among n k) (sym c.self.view_is)
    ∙ behind_last m c.in-Some.last.now c.args.stanza c.self.invariant c.in-Some.ensures.all_up_to (ap is_lt (ap (key_cmp c.in-Some.last.now) (sym c.new.ensures) ∙ sym c.cmp.ensures) ∙ sym c.is_lt.ensures ∙ less) k is)
