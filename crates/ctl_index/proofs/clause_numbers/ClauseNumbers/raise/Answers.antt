use Rattle.std.proofs.Common.{◌≡◌, ◌∙◌, Some, cond, option_map, ap, sym, rules, arith}
use Rattle.std.specs.BTreeMap.{BTreeMap, get}
use Rattle.std.specs.Ordering.{is_eq}
use Rattle.ctl_store.specs.declared.stanza_key.StanzaKey.{StanzaKey}
use Rattle.ctl_store.specs.Keys.{key_cmp}
use Rattle.ctl_index.specs.Clauses.{clause_cmp, number_among}
use Rattle.ctl_index.specs.declared.clause_numbers.ClauseNumbers.TheInside.{Inside}
use Rattle.ctl_index.specs.declared.stanza_numbers.ClausePlace.{ClausePlace}
use Rattle.ctl_index.specs.Inside.ClauseNumbers.{Placed, all_numbered, number_at_place, place_cmp}
use Rattle.ctl_index.specs.Inside.TablesCounters.{Numbers, counted_up}
use Rattle.ctl_index.proofs.ClauseNumberLemmas.{none_changed, number_is, one_changed, placed_number}
use Rattle.ctl_index.proofs.clause_numbers.ClauseNumbers.raise.Goals as goal
use Rattle.ctl_index.proofs.clause_numbers.ClauseNumbers.raise.Goals.{in-Some, in-None}

pub returns-clause-before : goal.returns-clause-before
returns-clause-before c =
    let m : BTreeMap StanzaKey Placed = c.self.inside.stanzas in
    let there : c.match-get_mut.result ≡ placed_number c.args.clause (get key_cmp m c.args.clause.stanza) =
    elim c.match-get_mut.branch [
      | in-Some w ↦
          w.result-is ∙ w.raise.ensures.before ∙ ap (λ (p : ClausePlace). number_at_place p w.in-Some.numbers.now) w.of.ensures
          ∙ ap (placed_number c.args.clause) (w.in-Some.ensures.value ∙ ap (get key_cmp m) c.new.ensures)
      | in-None w ↦ w.result-is ∙ ap (placed_number c.args.clause) (w.in-None.ensures.value ∙ ap (get key_cmp m) c.new.ensures)
    ] in
    there ∙ sym (number_is m c.self.invariant c.args.clause) ∙ ap (λ (n : Numbers). number_among n c.args.clause) c.self.view_is

pub returns-clause-after : goal.returns-clause-after
returns-clause-after c = λ k.
    let m : BTreeMap StanzaKey Placed = c.self.inside.stanzas in
    let told : BTreeMap StanzaKey Placed → Type 0 = λ n. number_among (all_numbered n.entries) k ≡ option_map (λ x. counted_up (cond (is_eq (clause_cmp c.args.clause k)) 1 0) x) (number_among (all_numbered m.entries) k) in
    let at_end : told c.match-get_mut.self-inside.stanzas =
    elim c.match-get_mut.branch [
      | in-Some w ↦
          let new : Placed = w.raise.new.self in
          ap (λ (i : Inside). number_among (all_numbered i.stanzas.entries) k) w.self-inside-is
          ∙ one_changed m (c.get_mut.follows.lender new) c.args.clause w.in-Some.numbers.now new (λ x n. counted_up n x) (λ x. omega arith) c.self.invariant (c.get_mut.follows.holds new).4
          (w.in-Some.ensures.value ∙ ap (get key_cmp m) c.new.ensures)
          (λ q. ((c.get_mut.follows.holds new).3 (search rules)).0 q ∙ ap (λ s. cond (is_eq (key_cmp s q)) (Some new) (get key_cmp m q)) c.new.ensures)
          (λ q. w.raise.ensures.after q ∙ ap (λ (p : ClausePlace). option_map (λ x. counted_up (cond (is_eq (place_cmp p q)) 1 0) x) (number_at_place q w.in-Some.numbers.now)) w.of.ensures) k
      | in-None w ↦
          ap (λ (i : Inside). number_among (all_numbered i.stanzas.entries) k) w.self-inside-is
          ∙ ap (λ (n : BTreeMap StanzaKey Placed). number_among (all_numbered n.entries) k) c.get_mut.follows.holds-at-none
          ∙ none_changed (all_numbered m.entries) c.args.clause (λ x n. counted_up n x) (λ x. omega arith) (number_is m c.self.invariant c.args.clause ∙ ap (placed_number c.args.clause) (sym (w.in-None.ensures.value ∙ ap (get key_cmp m) c.new.ensures))) k
    ] in
    at_end ∙ ap (λ (n : Numbers). option_map (λ x. counted_up (cond (is_eq (clause_cmp c.args.clause k)) 1 0) x) (number_among n k)) c.self.view_is
