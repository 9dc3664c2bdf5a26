-- The orders of stanzas and of clauses are total.
use Rattle.std.specs.Cmp.{IsEquivalence, IsTotalOrder, nat_cmp_total, on_total, then_total, eq_by_cmp_equiv}
use Rattle.std.specs.Ordering.{eq_by_cmp}
use Rattle.ctl_relation.specs.FieldKind.{field_place}
use Rattle.ctl_store.specs.declared.stanza_key.StanzaKey.{StanzaKey}
use Rattle.ctl_store.specs.Keys.{key_cmp}
use Rattle.ctl_index.specs.declared.keys.ClauseKey.{ClauseKey}
use Rattle.ctl_index.specs.Clauses.{clause_cmp}

pub stanzas_total : IsTotalOrder key_cmp
stanzas_total = then_total (on_total (λ (k : StanzaKey). k.list) nat_cmp_total) (on_total (λ (k : StanzaKey). k.stanza) nat_cmp_total)

pub stanzas_equiv : IsEquivalence (eq_by_cmp key_cmp)
stanzas_equiv = eq_by_cmp_equiv stanzas_total

pub clauses_total : IsTotalOrder clause_cmp
clauses_total =
    then_total (on_total (λ (k : ClauseKey). k.stanza) stanzas_total)
    (then_total (on_total (λ (k : ClauseKey). field_place k.field) nat_cmp_total) (on_total (λ (k : ClauseKey). k.group) nat_cmp_total))

pub clauses_equiv : IsEquivalence (eq_by_cmp clause_cmp)
clauses_equiv = eq_by_cmp_equiv clauses_total
