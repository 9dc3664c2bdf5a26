use Rattle.std.proofs.Common.{◌≡◌, ◌∷◌, ◌+◌, ℕ, List, ap, sym, ◌∙◌, arith}
use Rattle.std.specs.List.{list_any}
use Rattle.std.proofs.lemmas.List.Sums.{sum_by-cons}
use Rattle.ctl_relation.specs.Parts.{AtomParts}
use Rattle.ctl_index.specs.declared.keys.OfferKey.{OfferKey}
use Rattle.ctl_index.specs.Inside.TablesHeld.{offers_in, namers_in}
use Rattle.ctl_index.specs.Inside.TablesLeft.{has_namer}
use Rattle.ctl_index.specs.Inside.TablesOrder.{namer_stanza, others, without_if}
use Rattle.ctl_index.specs.Inside.TablesTests.{group_tested, groups_tested}
use Rattle.ctl_index.proofs.LeavingLemmas.{filter_twice, twice}
use Rattle.ctl_index.proofs.going.take_groups.Goals as goal

pub loop-group-preserved : goal.loop-group-preserved
loop-group-preserved c =
    let s = c.args.going.now.pending in
    let field = c.args.field in
    let span = c.args.going.now.span in
    let t = offers_in c.args.tables.now in
    let g : List AtomParts = c.in-Some.group in
    let rest : List (List AtomParts) = c.next.new.self in
    let left : c.loop-group.group-iterator ≡ g ∷ rest = c.in-Some.ensures.steps in
    let tests : groups_tested s field t c.loop-group.group-iterator ≡ group_tested s field t g + groups_tested s field t rest =
    ap (groups_tested s field t) left ∙ sum_by-cons (group_tested s field t) g rest in
    let one : group_tested s field (offers_in c.loop-group.tables) g ≡ group_tested s field t g = ap (λ (u : List ℕ → List OfferKey). group_tested s field u g) c.loop-group.invariant.offers in
    record {
      namers = λ q.
          let now = namers_in c.loop-group.tables q in
          ap (without_if namer_stanza span (list_any (has_namer q) rest)) (c.take_group.ensures.namers q)
          ∙ twice (others namer_stanza span) now (filter_twice _ now) (has_namer q g) (list_any (has_namer q) rest)
          ∙ sym (ap (λ gs. without_if namer_stanza span (list_any (has_namer q) gs) now) left) ∙ c.loop-group.invariant.namers q;
      offers = (λ j q. c.take_group.ensures.offers j q) ∙ c.loop-group.invariant.offers;
      rows = (λ j q. c.take_group.ensures.rows j q) ∙ c.loop-group.invariant.rows;
      counts = c.loop-group.invariant.counts;
      steps = omega (arith, tests, one, c.take_group.ensures.steps, c.loop-group.invariant.steps);
      counted = omega (arith, c.take_group.ensures.steps);
    }
