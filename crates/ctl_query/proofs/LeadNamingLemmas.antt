-- The atoms of the leads that name a name are enough for the lines of all leads.
use Rattle.std.proofs.Common.{◌≡◌, ◌∙◌, ℕ, Bool, List, flat_map, None, sym, ap, ⊎_elim, inl, refl}
use Rattle.std.specs.List.{list_any}
use Rattle.std.specs.List.Sorted.{IsStrictlySortedBy}
use Rattle.std.specs.Ordering.{is_eq}
use Rattle.ctl_store.specs.Entries.{Entry, AreAt}
use Rattle.ctl_store.specs.Store.{Held, keyed_of}
use Rattle.ctl_index.specs.declared.keys.AtomKey.{AtomKey}
use Rattle.ctl_index.specs.HeldCache.{standing}
use Rattle.ctl_index.specs.Names.{namers_named}
use Rattle.ctl_policy.specs.Priority.{world_of}
use Rattle.ctl_query.specs.declared.lead_atoms.LeadAtom.{LeadAtom}
use Rattle.ctl_query.specs.Inside.Namings.{lines_behind}
use Rattle.ctl_query.specs.Leads.{leads_of, line_at, is_at, lead_atom_cmp}
use Rattle.ctl_query.specs.LeadTable.{AreEnough}
use Rattle.ctl_query.specs.Packages.{packages_of, of_rows, of_all_rows}
use Rattle.ctl_query.specs.ReverseDepends.{asking_line}
use Rattle.ctl_query.specs.ShowPackage.{naming_lines}
use Rattle.ctl_query.proofs.AskerLemmas.{lines_of_packages, packages_sorted}
use Rattle.ctl_query.proofs.AtomLemmas.{atoms_from, text_of_all, outside_silent, named_is_naming}
use Rattle.ctl_query.proofs.AtomOrderLemmas.{atoms_sorted, of_two}
use Rattle.ctl_query.proofs.ClassLemmas.{AreClasses}
use Rattle.ctl_query.proofs.EnoughLemmas.{askers_are_enough, naming_is_enough}
use Rattle.ctl_query.proofs.LeadLemmas.{told_of_leads, leads_held}
use Rattle.ctl_query.proofs.NamingAtomLemmas.{atoms_tell, namings_named, namings_of}

-- the leads of all packages are enough
pub all_are_enough : (store : Held) (name : List ℕ) (leads : List Entry) → leads ≡ leads_of (world_of store) → AreEnough store name leads
unfolding leads_of
all_are_enough store name leads are = (packages_of (world_of store), are, inl refl)

module _ (classes : AreClasses) (store : Held) (at : AreAt (standing store) (keyed_of store).lists) (name : List ℕ) (leads : List Entry) (enough : AreEnough store name leads) (atoms : List LeadAtom)
    (sorted : IsStrictlySortedBy lead_atom_cmp atoms) (members : (a : LeadAtom) → list_any (λ b. is_eq (lead_atom_cmp a b)) atoms ≡ list_any (λ (k : AtomKey). is_at leads k a) (namers_named name (standing store))) where
  pub atoms_are_enough : flat_map (line_at leads name) atoms ≡ of_all_rows (world_of store) (naming_lines name)
  atoms_are_enough =
      of_two (line_at leads name) (atoms_from 0 leads) atoms (atoms_sorted 0 leads) sorted (outside_silent leads name)
      (λ a out. named_is_naming store leads name (leads_held store enough.0 leads enough.1) a (sym (members a) ∙ out))
      ∙ text_of_all leads name
      ∙ ap (flat_map (λ (e : Entry). naming_lines name e.1)) enough.1
      ∙ sym (told_of_leads (world_of store) (naming_lines name) enough.0)
      ∙ ⊎_elim (λ all. ap (flat_map (of_rows (world_of store) (naming_lines name))) all) (λ some. naming_is_enough classes store at name enough.0 some.0 some.1) enough.2

  -- and for the lines of all packages
  pub lines_are_enough : (installed : Bool) → lines_behind (world_of store) installed None (flat_map (namings_named leads name) atoms) ≡ flat_map (asking_line (world_of store) installed name) (packages_of (world_of store))
  lines_are_enough installed =
      ap (lines_behind (world_of store) installed None) (atoms_tell store name enough.0 leads enough.1 atoms sorted members)
      ∙ ⊎_elim
      (λ all. ap (λ ps. lines_behind (world_of store) installed None (flat_map (of_rows (world_of store) (namings_of name)) ps)) all
      ∙ lines_of_packages (world_of store) installed name classes at (packages_of (world_of store)) (packages_sorted (world_of store)))
      (λ some. lines_of_packages (world_of store) installed name classes at enough.0 some.0 ∙ askers_are_enough classes store at installed name enough.0 some.0 some.1) enough.2
