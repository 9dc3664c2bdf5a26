use Rattle.std.proofs.Common.{rules, ◌≡◌, ◌∙◌, List, ap, sym, subst}
use Rattle.std.proofs.lemmas.Cmp.{on_total}
use Rattle.std.proofs.lemmas.Fn.{always_returns_same, dedup_same}
use Rattle.std.proofs.lemmas.List.Filters.{All-dedup}
use Rattle.std.proofs.lemmas.List.Kept.{IsStrictlySortedBy-dedup}
use Rattle.std.proofs.lemmas.List.Sorted.{All-permutation, IsPermutation-map, list_any-IsPermutation}
use Rattle.std.specs.List.{All, dedup}
use Rattle.std.specs.List.Sorted.{IsStrictlySortedBy}
use Rattle.std.specs.Ordering.{is_eq}
use Rattle.ctl_query.specs.declared.lead_atoms.ListedAtom.{ListedAtom}
use Rattle.ctl_query.specs.Leads.{lead_atom_cmp, is_listed}
use Rattle.ctl_query.specs.Inside.ListedAtoms.{places_in, IsKept}
use Rattle.ctl_query.proofs.AtomOrderLemmas.{lead_atoms_total, sorted_map}
use Rattle.ctl_query.proofs.ListedAtomLemmas.{same_place, same_place_is, kept_once}
use Rattle.ctl_query.proofs.lead_atoms.sort.Goals as goal

pub returns-clause-order : goal.returns-clause-order
returns-clause-order c =
    let deduped : c.dedup_by.new.self.items ≡ dedup same_place c.sort_unstable_by_key.new.self.items = dedup_same _ same_place _ (λ x y b f' x' y' k. search rules) _ _ c.dedup_by.ensures.filtered in
    let at = λ (listed : ListedAtom). listed.at in
    let sorted = c.sort_unstable_by_key.ensures.sorted at (always_returns_same _ (λ a r. r ≡ a.0.now.at) _ (λ a r f' k. search rules)) in
    subst (λ (atoms : List ListedAtom). IsStrictlySortedBy lead_atom_cmp (places_in atoms)) (sym deduped)
    (sorted_map lead_atom_cmp at _ (IsStrictlySortedBy-dedup (on_total at lead_atoms_total) same_place_is _ sorted))

pub returns-clause-members : goal.returns-clause-members
returns-clause-members c = λ a.
    let deduped : c.dedup_by.new.self.items ≡ dedup same_place c.sort_unstable_by_key.new.self.items = dedup_same _ same_place _ (λ x y b f' x' y' k. search rules) _ _ c.dedup_by.ensures.filtered in
    let at = λ (listed : ListedAtom). listed.at in
    ap (λ (atoms : List ListedAtom). is_listed (places_in atoms) a) deduped
    ∙ kept_once a c.sort_unstable_by_key.new.self.items
    ∙ sym (list_any-IsPermutation (λ b. is_eq (lead_atom_cmp a b)) (places_in c.args.atoms.now.items) (places_in c.sort_unstable_by_key.new.self.items)
    (IsPermutation-map at _ _ c.sort_unstable_by_key.ensures.permutation))

pub returns-clause-kept : goal.returns-clause-kept
returns-clause-kept c = λ leads name all.
    let deduped : c.dedup_by.new.self.items ≡ dedup same_place c.sort_unstable_by_key.new.self.items = dedup_same _ same_place _ (λ x y b f' x' y' k. search rules) _ _ c.dedup_by.ensures.filtered in
    subst (All (IsKept leads name)) (sym deduped)
    (All-dedup same_place (IsKept leads name) _ (All-permutation (IsKept leads name) _ _ c.sort_unstable_by_key.ensures.permutation all))
