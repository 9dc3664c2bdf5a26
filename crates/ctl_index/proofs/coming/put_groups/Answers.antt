use Rattle.std.proofs.Common.{◌≡◌, ◌∷◌, ◌+◌, ℕ, suc, List, length, Some, cond, ap, sym, ◌∙◌, arith}
use Rattle.std.specs.List.{sum_by}
use Rattle.std.proofs.lemmas.List.Sums.{sum_by-append, sum_by-cons}
use Rattle.ctl_relation.specs.Bounds.{atom_count}
use Rattle.ctl_relation.specs.Parts.{AtomParts}
use Rattle.ctl_index.specs.declared.keys.AtomKey.{AtomKey}
use Rattle.ctl_index.specs.declared.keys.ClauseKey.{ClauseKey}
use Rattle.ctl_index.specs.declared.keys.OfferKey.{OfferKey}
use Rattle.ctl_index.specs.Inside.TablesHeld.{offers_in, number_told}
use Rattle.ctl_index.specs.Inside.TablesIndexed.{atom_named}
use Rattle.ctl_index.specs.Inside.TablesLoaded.{number_with}
use Rattle.ctl_index.specs.Inside.TablesTests.{group_met, group_tested, groups_tested, is_clause}
use Rattle.ctl_index.specs.Names.{keyed_group, keyed_groups}
use Rattle.ctl_index.proofs.ClauseLemmas.{group_from, groups_end, group_comes}
use Rattle.ctl_index.proofs.coming.put_groups.Goals as goal

pub loop-group-preserved : goal.loop-group-preserved
loop-group-preserved c =
    let s = c.args.pending.now in
    let key = c.args.key in
    let field = c.args.field in
    let t = offers_in c.args.tables.now in
    let p = c.loop-group.place in
    let g : List AtomParts = c.in-Some.group in
    let rest : List (List AtomParts) = c.next.new.self in
    let left : c.loop-group.group-iterator ≡ g ∷ rest = c.in-Some.ensures.steps in
    let tests : groups_tested s field t c.loop-group.group-iterator ≡ group_tested s field t g + groups_tested s field t rest =
    ap (groups_tested s field t) left ∙ sum_by-cons (group_tested s field t) g rest in
    let one : group_tested s field (offers_in c.loop-group.tables) g ≡ group_tested s field t g = ap (λ (u : List ℕ → List OfferKey). group_tested s field u g) c.loop-group.invariant.offers in
    let met = c.in_ok-met.ensures.met ∙ ap (λ (u : List ℕ → List OfferKey). group_met s field u g) c.loop-group.invariant.offers in
    record {
      namers = λ q f.
          let F : AtomKey × AtomParts → ℕ = atom_named q f in
          let z : suc p ≡ p + 1 = omega arith in
          let more : sum_by F (keyed_groups key field p c.loop-group.group-iterator) ≡ sum_by F (keyed_group key field p 0 g) + sum_by F (keyed_groups key field (p + 1) rest) =
          ap (λ gs. sum_by F (keyed_groups key field p gs)) left ∙ sum_by-append F (keyed_group key field p 0 g) (keyed_groups key field (suc p) rest)
          ∙ (λ j. sum_by F (keyed_group key field p 0 g) + sum_by F (keyed_groups key field (z j) rest)) in
          omega (arith, c.in_ok-met.ensures.namers q f, more, c.loop-group.invariant.namers q f);
      offers = c.in_ok-met.ensures.offers ∙ c.loop-group.invariant.offers;
      rows = c.in_ok-met.ensures.rows ∙ c.loop-group.invariant.rows;
      counts = λ k.
          let now = number_told c.loop-group.tables k in
          let clause : ClauseKey = record { stanza = key; field = field; group = p } in
          let z : p + 1 ≡ suc p = omega arith in
          (λ j. number_with s t field (group_from key k field (z j) rest) ((c.in_ok-list_clause.ensures k ∙ ap (λ n. cond (is_clause clause k) (Some n) now) met) j))
          ∙ group_comes s t key k field p g rest now
          ∙ ap (λ gs. number_with s t field (group_from key k field p gs) now) (sym left) ∙ c.loop-group.invariant.counts k;
      places = omega (arith, ap length left, c.loop-group.invariant.places);
      few = omega (arith, ap atom_count left ∙ sum_by-cons (λ (group : List AtomParts). length group) g rest, c.loop-group.invariant.few);
      steps = omega (arith, tests, one, c.in_ok-met.ensures.steps, c.loop-group.invariant.steps);
      counted = omega (arith, c.in_ok-met.ensures.steps);
      least = omega (arith, c.put_group.ensures.least, c.loop-group.invariant.least);
    }

pub returns-clause-counts : goal.returns-clause-counts
returns-clause-counts c = λ k.
    let s = c.args.pending.now in
    let t = offers_in c.args.tables.now in
    let now = number_told c.loop-group.tables k in
    sym (ap (λ gs. number_with s t c.args.field (group_from c.args.key k c.args.field c.loop-group.place gs) now) c.in-None.ensures.steps.0 ∙ groups_end s t c.args.key k c.args.field c.loop-group.place now)
    ∙ c.loop-group.invariant.counts k
