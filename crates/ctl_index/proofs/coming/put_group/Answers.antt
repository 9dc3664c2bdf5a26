use Rattle.std.proofs.Common.{◌≡◌, ℕ, suc, ◌∷◌, List, ap, subst, sym, ◌∙◌, ◌+◌, length, arith}
use Rattle.std.specs.List.{sum_by}
use Rattle.std.proofs.lemmas.List.Sums.{sum_by-cons}
use Rattle.ctl_relation.specs.Parts.{AtomParts}
use Rattle.ctl_index.specs.declared.keys.AtomKey.{AtomKey}
use Rattle.ctl_index.specs.declared.keys.OfferKey.{OfferKey}
use Rattle.ctl_index.specs.Inside.TablesByName.{offers_under}
use Rattle.ctl_index.specs.Inside.TablesIndexed.{atom_named}
use Rattle.ctl_index.specs.Inside.TablesPending.{atom_met, atom_tested, missing}
use Rattle.ctl_index.specs.Inside.TablesTests.{group_met, group_tested}
use Rattle.ctl_index.specs.Names.{keyed_group}
use Rattle.ctl_index.proofs.coming.put_group.Goals as goal

pub put_atom-requires : goal.put_atom-requires
put_atom-requires c =
    let name = c.in-Some.atom.name in
    subst (λ (u : List ℕ → List OfferKey). sum_by (missing c.args.pending.now name) (u name) ≡ 0) (sym c.loop-atom.invariant.offers) (c.requires.there.none_missing name)

pub loop-atom-preserved : goal.loop-atom-preserved
loop-atom-preserved c =
    let s = c.args.pending.now in
    let k = c.args.clause in
    let t = offers_under c.args.names.now.map in
    let p = c.loop-atom.place in
    let a : AtomParts = c.in-Some.atom in
    let rest : List AtomParts = c.next.new.self in
    let left : c.loop-atom.atom-iterator ≡ a ∷ rest = c.in-Some.ensures.steps in
    let key : AtomKey = record { stanza = k.stanza; field = k.field; group = k.group; atom = p } in
    let met : group_met s k.field t c.loop-atom.atom-iterator ≡ atom_met s k.field a (t a.name) + group_met s k.field t rest =
    ap (group_met s k.field t) left ∙ sum_by-cons (λ (x : AtomParts). atom_met s k.field x (t x.name)) a rest in
    let tests : group_tested s k.field t c.loop-atom.atom-iterator ≡ atom_tested s k.field (t a.name) + group_tested s k.field t rest =
    ap (group_tested s k.field t) left ∙ sum_by-cons (λ (x : AtomParts). atom_tested s k.field (t x.name)) a rest in
    let one_met : atom_met s k.field a (offers_under c.loop-atom.names.map a.name) ≡ atom_met s k.field a (t a.name) = ap (λ (u : List ℕ → List OfferKey). atom_met s k.field a (u a.name)) c.loop-atom.invariant.offers in
    let one : atom_tested s k.field (offers_under c.loop-atom.names.map a.name) ≡ atom_tested s k.field (t a.name) = ap (λ (u : List ℕ → List OfferKey). atom_tested s k.field (u a.name)) c.loop-atom.invariant.offers in
    record {
      namers = λ q f.
          let F : AtomKey × AtomParts → ℕ = atom_named q f in
          let z : suc p ≡ p + 1 = omega arith in
          let more : sum_by F (keyed_group k.stanza k.field k.group p c.loop-atom.atom-iterator) ≡ F (key, a) + sum_by F (keyed_group k.stanza k.field k.group (p + 1) rest) =
          ap (λ ps. sum_by F (keyed_group k.stanza k.field k.group p ps)) left ∙ sum_by-cons F (key, a) (keyed_group k.stanza k.field k.group (suc p) rest)
          ∙ (λ j. F (key, a) + sum_by F (keyed_group k.stanza k.field k.group (z j) rest)) in
          omega (arith, c.in_ok-met.ensures.namers q f, more, c.loop-atom.invariant.namers q f);
      offers = (λ j q. c.in_ok-met.ensures.offers q j) ∙ c.loop-atom.invariant.offers;
      rows = (λ j q. c.in_ok-met.ensures.rows q j) ∙ c.loop-atom.invariant.rows;
      met = omega (arith, met, one_met, c.in_ok-met.ensures.met, c.loop-atom.invariant.met);
      few = omega (arith, c.loop-atom.invariant.few, c.in_ok-met.ensures.few);
      places = omega (arith, ap length left, c.loop-atom.invariant.places);
      steps = omega (arith, tests, one, c.in_ok-met.ensures.steps, c.loop-atom.invariant.steps);
      counted = omega (arith, c.in_ok-met.ensures.steps);
      least = omega (arith, c.put_atom.ensures.least, c.loop-atom.invariant.least);
    }

pub returns-in_err-met-clause-most : goal.returns-in_err-met-clause-most
returns-in_err-met-clause-most c =
    let s = c.args.pending.now in
    let k = c.args.clause in
    let t = offers_under c.args.names.now.map in
    let a : AtomParts = c.in-Some.atom in
    let rest : List AtomParts = c.next.new.self in
    let left : c.loop-atom.atom-iterator ≡ a ∷ rest = c.in-Some.ensures.steps in
    let tests : group_tested s k.field t c.loop-atom.atom-iterator ≡ atom_tested s k.field (t a.name) + group_tested s k.field t rest =
    ap (group_tested s k.field t) left ∙ sum_by-cons (λ (x : AtomParts). atom_tested s k.field (t x.name)) a rest in
    let one : atom_tested s k.field (offers_under c.loop-atom.names.map a.name) ≡ atom_tested s k.field (t a.name) = ap (λ (u : List ℕ → List OfferKey). atom_tested s k.field (u a.name)) c.loop-atom.invariant.offers in
    omega (arith, c.put_atom.ensures.most, tests, one, c.loop-atom.invariant.steps)
