use Rattle.std.proofs.Common.{◌≡◌, ◌∙◌, ◌∷◌, ◌||◌, Bool, ap, sym}
use Rattle.std.specs.List.{All, list_any}
use Rattle.std.proofs.lemmas.List.Elements.{All-head, All-tail, All-same}
use Rattle.ctl_index.specs.Names.{KeptNamer}
use Rattle.ctl_query.specs.Leads.{is_at, is_listed}
use Rattle.ctl_query.specs.Inside.ListedAtoms.{places_in, IsKeptOf}
use Rattle.ctl_query.proofs.ListedAtomLemmas.{any_moved}
use Rattle.ctl_query.proofs.lead_atoms.list_atoms.Goals as goal

pub namers-preserved : goal.namers-preserved
namers-preserved c =
    let namer = c.in-Some.namer in
    let rest = c.next.new.self in
    let left : c.namers.namer-iterator ≡ namer ∷ rest = c.in-Some.ensures.steps in
    let leads = c.args.table.now in (
      λ a.
          let stands : KeptNamer → Bool = λ n. is_at leads n.0 a in
          ap (λ t. list_any stands rest || t) (c.in_ok-push_atom.ensures.members a)
          ∙ any_moved (stands namer) (list_any stands rest) (is_listed (places_in c.namers.atoms.items) a)
          ∙ ap (λ namers. list_any stands namers || is_listed (places_in c.namers.atoms.items) a) (sym left)
          ∙ c.namers.invariant.0 a,
      λ name all.
          let before = c.namers.invariant.1 name all in
          let one : All (IsKeptOf leads name) (namer ∷ rest) = All-same (IsKeptOf leads name) (namer ∷ rest) c.namers.namer-iterator (sym left) before.0 in
          (All-tail (IsKeptOf leads name) namer rest one, c.in_ok-push_atom.ensures.kept name (All-head (IsKeptOf leads name) namer rest one) before.1),
    )

pub returns-clause-kept : goal.returns-clause-kept
returns-clause-kept c = λ name all. c.put_in_order.ensures.kept c.args.table.now name (c.namers.invariant.1 name (rw c.into_iter-namer-iterator.ensures.into_iter_gives all)).1
