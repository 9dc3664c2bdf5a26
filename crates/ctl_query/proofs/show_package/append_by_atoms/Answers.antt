use Rattle.std.proofs.Common.{◌≡◌, ◌∙◌, ◌++◌, List, flat_map, ap, sym, subst}
use Rattle.std.specs.List.{All, list_any}
use Rattle.std.specs.List.Sorted.{IsPermutation}
use Rattle.std.proofs.lemmas.List.Elements.{All-same}
use Rattle.ctl_index.specs.declared.keys.AtomKey.{AtomKey}
use Rattle.ctl_index.specs.HeldCache.{standing}
use Rattle.ctl_index.specs.Names.{KeptNamer, kept_namers_named}
use Rattle.ctl_store.specs.Entries.{Entry}
use Rattle.ctl_query.specs.declared.lead_atoms.LeadAtom.{LeadAtom}
use Rattle.ctl_query.specs.declared.lead_atoms.ListedAtom.{ListedAtom}
use Rattle.ctl_query.specs.Leads.{line_at, is_at}
use Rattle.ctl_query.specs.Inside.ListedAtoms.{places_in, IsKept, IsKeptOf}
use Rattle.ctl_query.proofs.KeptLemmas.{any_named, namers_are_kept}
use Rattle.ctl_query.proofs.LeadNamingLemmas.{atoms_are_enough}
use Rattle.ctl_query.proofs.ListedAtomLemmas.{of_places}
use Rattle.ctl_query.proofs.show_package.append_by_atoms.Goals as goal

pub append_atoms-requires : goal.append_atoms-requires
append_atoms-requires c =
    let store = c.args.asking.now in
    let name = c.args.asked.now.name.now in
    let leads = c.args.table.now in
    let same : c.table.result.now ≡ leads = c.table.ensures in
    let same_namers : IsPermutation (kept_namers_named name (standing store)) c.kept_namers.result = subst (IsPermutation (kept_namers_named name (standing store))) (sym c.kept_namers.ensures) c.requires.namers in
    let kept = namers_are_kept store c.stanzas_are_found.ensures name leads c.requires.enough c.kept_namers.result same_namers in
    All-same (IsKept leads name) _ _ c.deref.ensures.value
    (subst (λ (ls : List Entry). All (IsKept ls name) c.in_ok-atoms.atoms.items) same
    (c.in_ok-atoms.ensures.kept name (subst (λ (ls : List Entry). All (IsKeptOf ls name) c.kept_namers.result) (sym same) kept)))

pub returns : goal.returns
returns c =
    let store = c.args.asking.now in
    let name = c.args.asked.now.name.now in
    let leads = c.args.table.now in
    let same : c.table.result.now ≡ leads = c.table.ensures in
    let same_namers : IsPermutation (kept_namers_named name (standing store)) c.kept_namers.result = subst (IsPermutation (kept_namers_named name (standing store))) (sym c.kept_namers.ensures) c.requires.namers in
    let atoms = c.in_ok-atoms.atoms.items in
    c.in_ok-append_atoms.ensures
    ∙ ap (λ text. c.args.out.now.items ++ text)
    (ap (flat_map (λ (listed : ListedAtom). line_at leads name listed.at)) c.deref.ensures.value
    ∙ of_places (line_at leads name) atoms
    ∙ atoms_are_enough c.rows_are_classes.ensures store c.stanzas_are_found.ensures name leads c.requires.enough (places_in atoms) c.in_ok-atoms.ensures.order
    (λ (a : LeadAtom).
    c.in_ok-atoms.ensures.members a
    ∙ ap (λ (ls : List Entry). list_any (λ (n : KeptNamer). is_at ls n.0 a) c.kept_namers.result) same
    ∙ any_named (λ (k : AtomKey). is_at leads k a) name (standing store) c.kept_namers.result same_namers))
