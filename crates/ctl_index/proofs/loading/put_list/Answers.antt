use Rattle.std.proofs.Common.{◌+◌, ℕ, List, ap, sym, subst, ◌∙◌}
use Rattle.std.specs.List.{sum_by}
use Rattle.ctl_index.specs.declared.named.ChosenRows.{ChosenRows}
use Rattle.ctl_index.specs.Clauses.{clause_at}
use Rattle.ctl_index.specs.Inside.TablesHeld.{offers_in, rows_in}
use Rattle.ctl_index.specs.Inside.TablesIndexed.{namers_sum}
use Rattle.ctl_index.specs.Inside.TablesLoaded.{number_with}
use Rattle.ctl_index.specs.Inside.TablesPending.{entries_seen}
use Rattle.ctl_index.specs.Inside.TablesRows.{AreRowsPut}
use Rattle.ctl_index.proofs.NameLemmas.{all_chosen}
use Rattle.ctl_index.proofs.ThereLemmas.{more_there}
use Rattle.ctl_index.proofs.loading.put_list.Goals as goal

pub put_atoms-requires : goal.put_atoms-requires
put_atoms-requires c =
    more_there c.args.pending.now c.args.keys.now (offers_in c.args.tables.now) (offers_in c.put_offers_and_rows.new.tables) c.in_ok-put_offers_and_rows.ensures.offers c.requires

pub returns-clause-chosen : goal.returns-clause-chosen
returns-clause-chosen c =
    ap all_chosen c.in_ok-put_atoms.ensures.rows ∙ c.in_ok-put_offers_and_rows.ensures.chosen

pub returns-clause-tables : goal.returns-clause-tables
returns-clause-tables c = λ apart.
    let s = c.args.pending.now in
    let keys = c.args.keys.now in
    let offers = c.in_ok-put_atoms.ensures.offers in
    record {
      offers = λ q f. (λ i. sum_by f (offers i q)) ∙ c.in_ok-put_offers_and_rows.ensures.offers q f;
      namers = λ q f.
          c.in_ok-put_atoms.ensures.namers q f ∙ (λ i. sum_by f (c.in_ok-put_offers_and_rows.ensures.namers i q) + namers_sum q f (entries_seen s keys));
      counters = λ k. c.in_ok-put_atoms.ensures.counts apart k ∙ (λ i. number_with s (sym offers i) k.field (clause_at k (entries_seen s keys)) (c.in_ok-put_offers_and_rows.ensures.counts k i));
      rows = subst (λ (own : List ℕ → ChosenRows). AreRowsPut (entries_seen s keys) (rows_in c.args.tables.now) (λ q. (own q).rows)) (sym c.in_ok-put_atoms.ensures.rows) c.in_ok-put_offers_and_rows.ensures.rows;
      whole = c.in_ok-put_offers_and_rows.ensures.whole;
    }
