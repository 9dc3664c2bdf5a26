use Rattle.std.proofs.Common.{◌≡◌, ◌∙◌, ◌++◌, ◌∷◌, ◌+◌, ℕ, List, [], Option, None, option_map, flat_map, drop, drop-cons, add-one, ap, sym, subst, arith}
use Rattle.std.specs.Option.{option_to_list}
use Rattle.std.proofs.Math.ListN.{drop_of_length-le}
use Rattle.std.specs.List.Sorted.{IsPermutation}
use Rattle.ctl_index.specs.declared.keys.AtomKey.{AtomKey}
use Rattle.ctl_index.specs.HeldCache.{standing}
use Rattle.ctl_index.specs.Names.{kept_namers_named}
use Rattle.ctl_policy.specs.Priority.{world_of}
use Rattle.ctl_query.specs.declared.lead_atoms.LeadAtom.{LeadAtom}
use Rattle.ctl_query.specs.Inside.Namings.{Naming, lent_naming, namings_at, lines_behind}
use Rattle.ctl_query.specs.declared.lead_atoms.ListedAtom.{ListedAtom}
use Rattle.ctl_query.specs.Leads.{is_at}
use Rattle.ctl_query.specs.Inside.ListedAtoms.{places_in}
use Rattle.ctl_query.proofs.KeptLemmas.{any_named, namers_are_kept}
use Rattle.ctl_query.proofs.LeadNamingLemmas.{lines_are_enough}
use Rattle.ctl_query.proofs.ListedAtomLemmas.{of_places}
use Rattle.ctl_query.proofs.NamingAtomLemmas.{all_named, namings_named}
use Rattle.ctl_query.proofs.naming.append_by_atoms.Goals as goal

pub loop-at-preserved : goal.loop-at-preserved
loop-at-preserved c =
    let atoms = c.in_ok-atoms.atoms.items in
    let a = c.index.result.now in
    let told : ListedAtom → List Naming = λ listed. namings_at c.args.table.now listed.at in
    let left = flat_map told (drop (c.loop-at.at + 1) atoms) in
    let lines : List Naming → List ℕ = lines_behind (world_of c.args.depending.now.asking.now) c.args.depending.now.installed (option_map lent_naming c.loop-at.found) in
    let next : drop c.loop-at.at atoms ≡ a ∷ drop (c.loop-at.at + 1) atoms =
    drop-cons atoms c.loop-at.at a (omega (arith, c.loop-at-test.true)) ∙ (λ i. sym c.index.ensures i ∷ drop (sym (add-one c.loop-at.at) i) atoms) in
    c.in_ok-found.ensures left
    ∙ ap (λ (text : List ℕ). text ++ lines (option_to_list (option_map lent_naming c.naming_at-naming.result) ++ left)) c.in_ok-look_ahead.ensures
    ∙ ap (λ (o : Option Naming). c.loop-at.out.items ++ lines (option_to_list o ++ left)) c.naming_at-naming.ensures
    ∙ ap (λ (others : List ListedAtom). c.loop-at.out.items ++ lines (flat_map told others)) (sym next)
    ∙ c.loop-at.invariant

pub returns : goal.returns
unfolding lines_behind
returns c =
    let store = c.args.depending.now.asking.now in
    let name = c.args.asked.now.name.now in
    let atoms = c.in_ok-atoms.atoms.items in
    let told = namings_at c.args.table.now in
    let lines : Option Naming → List ListedAtom → List ℕ = λ found left. lines_behind (world_of store) c.args.depending.now.installed found (flat_map (λ (listed : ListedAtom). told listed.at) left) in
    let same : IsPermutation (kept_namers_named name (standing store)) c.kept_namers.result = subst (IsPermutation (kept_namers_named name (standing store))) (sym c.kept_namers.ensures) c.requires.namers in
    let none : drop c.loop-at.at atoms ≡ [] = drop_of_length-le atoms (omega (arith, c.loop-at-test.false)) in
    c.in_ok-append_found.ensures
    ∙ ap (λ left. c.loop-at.out.items ++ lines (option_map lent_naming c.loop-at.found) left) (sym none)
    ∙ c.loop-at.invariant
    ∙ ap (λ text. c.args.out.now.items ++ text)
    (ap (lines_behind (world_of store) c.args.depending.now.installed None)
    (all_named c.args.table.now name atoms
    (c.in_ok-atoms.ensures.kept name (namers_are_kept store c.stanzas_are_found.ensures name c.args.table.now c.requires.enough c.kept_namers.result same))
    ∙ of_places (namings_named c.args.table.now name) atoms)
    ∙ lines_are_enough c.rows_are_classes.ensures store c.stanzas_are_found.ensures name c.args.table.now c.requires.enough (places_in atoms) c.in_ok-atoms.ensures.order
    (λ (a : LeadAtom). c.in_ok-atoms.ensures.members a
    ∙ any_named (λ (k : AtomKey). is_at c.args.table.now k a) name (standing store) c.kept_namers.result same)
    c.args.depending.now.installed)
