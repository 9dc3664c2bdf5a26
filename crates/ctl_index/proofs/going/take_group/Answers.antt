use Rattle.std.proofs.Common.{◌≡◌, ℕ, List, ◌∷◌, ap, sym, ◌∙◌, ◌+◌, arith}
use Rattle.std.specs.Str.{bytes_eq}
use Rattle.std.proofs.lemmas.List.Sums.{sum_by-cons}
use Rattle.ctl_relation.specs.Parts.{AtomParts}
use Rattle.ctl_index.specs.declared.keys.NamingAtom.{NamingAtom}
use Rattle.ctl_index.specs.declared.keys.OfferKey.{OfferKey}
use Rattle.ctl_index.specs.Inside.TablesByName.{offers_under, namers_under}
use Rattle.ctl_index.specs.Inside.TablesPending.{atom_tested}
use Rattle.ctl_index.specs.Inside.TablesLeft.{has_namer}
use Rattle.ctl_index.specs.Inside.TablesOrder.{namer_stanza, others, without_if}
use Rattle.ctl_index.specs.Inside.TablesTests.{group_tested}
use Rattle.ctl_index.proofs.LeavingLemmas.{filter_twice, twice}
use Rattle.ctl_index.proofs.going.take_group.Goals as goal

pub loop-atom-preserved : goal.loop-atom-preserved
loop-atom-preserved c =
    let s = c.args.going.now.pending in
    let t = offers_under c.args.names.now.map in
    let span = c.args.going.now.span in
    let a : AtomParts = c.in-Some.atom in
    let rest : List AtomParts = c.next.new.self in
    let left : c.loop-atom.atom-iterator ≡ a ∷ rest = c.in-Some.ensures.steps in
    let tests : group_tested s c.args.field t c.loop-atom.atom-iterator ≡ atom_tested s c.args.field (t a.name) + group_tested s c.args.field t rest =
    ap (group_tested s c.args.field t) left ∙ sum_by-cons (λ (x : AtomParts). atom_tested s c.args.field (t x.name)) a rest in
    let one : atom_tested s c.args.field (offers_under c.loop-atom.names.map a.name) ≡ atom_tested s c.args.field (t a.name) = ap (λ (u : List ℕ → List OfferKey). atom_tested s c.args.field (u a.name)) c.loop-atom.invariant.offers in
    record {
      namers = λ q.
          let now = namers_under c.loop-atom.names.map q in
          let left_by : List AtomParts → List NamingAtom = λ ps. without_if namer_stanza span (has_namer q ps) now in
          ap (without_if namer_stanza span (has_namer q rest)) (c.take_atom.ensures.namers q)
          ∙ twice (others namer_stanza span) now (filter_twice _ now) (bytes_eq a.name q) (has_namer q rest)
          ∙ sym (ap left_by left) ∙ c.loop-atom.invariant.namers q;
      offers = (λ j q. c.take_atom.ensures.offers q j) ∙ c.loop-atom.invariant.offers;
      rows = (λ j q. c.take_atom.ensures.rows q j) ∙ c.loop-atom.invariant.rows;
      steps = omega (arith, tests, one, c.take_atom.ensures.steps, c.loop-atom.invariant.steps);
      counted = omega (arith, c.take_atom.ensures.steps);
    }
