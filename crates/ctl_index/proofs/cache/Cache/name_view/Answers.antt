use Rattle.std.proofs.Common.{List, map, is_some, option_copied, refl, ap, sym, subst, ◌∙◌}
use Rattle.std.specs.List.{AllByRecursion, list_any}
use Rattle.std.specs.List.Sorted.{IsPermutation}
use Rattle.std.specs.Str.{bytes_eq}
use Rattle.ctl_store.specs.declared.stanza_key.StanzaKey.{StanzaKey}
use Rattle.ctl_store.specs.Keys.{AreHeld}
use Rattle.ctl_store.specs.Store.{keyed_of, state_of}
use Rattle.ctl_policy.specs.Chosen.{choice_in}
use Rattle.ctl_policy.specs.Priority.{world_of}
use Rattle.ctl_policy.specs.Rows.{rows_named, newest_first, keys_of_row}
use Rattle.ctl_index.specs.HeldCache.{HeldCache, standing}
use Rattle.ctl_index.specs.Names.{known_names, namers_named, kept_namers_named}
use Rattle.ctl_index.specs.Inside.NameView.{name_standing}
use Rattle.ctl_index.specs.Inside.TablesByName.{at_name, offers_under, rows_under}
use Rattle.ctl_index.specs.Inside.TablesViews.{offering, offer_found}
use Rattle.ctl_index.specs.Offers.{offers_named}
use Rattle.ctl_relation.specs.Parts.{OfferParts}
use Rattle.ctl_index.specs.Inside.TablesPending.{AreSeen, in_store}
use Rattle.ctl_index.specs.Work.{stanzas_of_state}
use Rattle.ctl_index.proofs.KeptNamerLemmas.{kept_permuted}
use Rattle.ctl_index.proofs.LawLemmas.{contents_of_state}
use Rattle.ctl_index.proofs.NameViewLemmas.{rows_of_entry, found_offering}
use Rattle.ctl_index.proofs.NamesLemmas.{known_there}
use Rattle.ctl_index.proofs.StoreLemmas.{rising_apart, store_seen}
use Rattle.ctl_index.proofs.ViewLemmas.{namers_permuted, offers_permuted}
use Rattle.std.proofs.lemmas.List.Sorted.{IsPermutation-map}
use Rattle.ctl_index.proofs.cache.Cache.name_view.Goals as goal

pub returns-clause-known : goal.returns-clause-known
returns-clause-known c =
    let h = c.self.inside.store in
    let name = c.args.name.now in
    let fresh = ap (λ w. w.stale) c.self.view_is ∙ c.requires in
    let was = (c.self.invariant fresh).0 in
    ap (λ o. is_some o) c.get.ensures.entry ∙ known_there name (standing h) c.self.inside.tables was c.get.ensures.used ((c.self.invariant fresh).2 name)
    ∙ ap (λ xs. list_any (bytes_eq name) (known_names xs)) (contents_of_state (keyed_of h).lists)
    ∙ ap (λ (w : HeldCache). list_any (bytes_eq name) (known_names (stanzas_of_state (state_of w.store)))) c.self.view_is

pub returns-clause-rows : goal.returns-clause-rows
returns-clause-rows c =
    let h = c.self.inside.store in
    let lists = (keyed_of h).lists in
    let m = c.self.inside.tables.names.map in
    let name = c.args.name.now in
    let fresh = ap (λ w. w.stale) c.self.view_is ∙ c.requires in
    let are = c.rows_are_defined.ensures h m c.counts-counts.ensures.order (c.self.invariant fresh).0.rows name in
    ap (λ o. (name_standing o).rows) c.get.ensures.entry
    ∙ rows_of_entry c.rows_are_shown.ensures.none (at_name m name)
    ∙ ap (map keys_of_row) (c.rows_are_shown.ensures.alike (rows_under m name) name lists are)
    ∙ ap (λ (w : HeldCache). map keys_of_row (newest_first (rows_named name (keyed_of w.store).lists))) c.self.view_is

pub returns-clause-held : goal.returns-clause-held
returns-clause-held c =
    let lists = (keyed_of c.args.self.now.store).lists in
    let name = c.args.name.now in
    subst (λ (rows : List (List StanzaKey)). AllByRecursion (λ row. AreHeld row lists) rows) (sym (returns-clause-rows c))
    (c.rows_are_held.ensures.rows (rows_named name lists) name lists (λ version. refl))

pub returns-clause-namers : goal.returns-clause-namers
returns-clause-namers c =
    let h = c.self.inside.store in
    let name = c.args.name.now in
    let fresh = ap (λ w. w.stale) c.self.view_is ∙ c.requires in
    let was = (c.self.invariant fresh).0 in
    let sees : AreSeen (in_store h) (standing h) = store_seen h (rising_apart (keyed_of h).lists c.counts-counts.ensures.order) in
    subst (λ (w : HeldCache). IsPermutation (namers_named name (standing w.store)) (name_standing (option_copied c.get.result)).namers) c.self.view_is
    (subst (λ o. IsPermutation (namers_named name (standing h)) (name_standing o).namers) (sym c.get.ensures.entry) (namers_permuted h (standing h) c.self.inside.tables was sees name))

pub returns-clause-kept : goal.returns-clause-kept
returns-clause-kept c =
    let h = c.self.inside.store in
    let name = c.args.name.now in
    let fresh = ap (λ w. w.stale) c.self.view_is ∙ c.requires in
    let was = (c.self.invariant fresh).0 in
    subst (λ (w : HeldCache). IsPermutation (kept_namers_named name (standing w.store)) (name_standing (option_copied c.get.result)).kept_namers) c.self.view_is
    (subst (λ o. IsPermutation (kept_namers_named name (standing h)) (name_standing o).kept_namers) (sym c.get.ensures.entry) (kept_permuted (standing h) c.self.inside.tables was name))

pub returns-clause-offering : goal.returns-clause-offering
returns-clause-offering c =
    let h = c.self.inside.store in
    let t = c.self.inside.tables in
    let name = c.args.name.now in
    let fresh = ap (λ w. w.stale) c.self.view_is ∙ c.requires in
    let was = (c.self.invariant fresh).0 in
    let sees : AreSeen (in_store h) (standing h) = store_seen h (rising_apart (keyed_of h).lists c.counts-counts.ensures.order) in
    let keys : List (StanzaKey × OfferParts) → List StanzaKey = map (λ (offer : StanzaKey × OfferParts). offer.0) in
    let listed = offers_under t.names.map name in
    let found : IsPermutation (keys (offers_named name (standing h))) (offering listed) =
    subst (IsPermutation (keys (offers_named name (standing h)))) (found_offering h listed)
    (IsPermutation-map (λ (offer : StanzaKey × OfferParts). offer.0) (offers_named name (standing h)) (map (offer_found h) listed) (offers_permuted h (standing h) t was sees name)) in
    subst (λ (w : HeldCache). IsPermutation (keys (offers_named name (standing w.store))) (name_standing (option_copied c.get.result)).offering) c.self.view_is
    (subst (λ o. IsPermutation (keys (offers_named name (standing h))) (name_standing o).offering) (sym c.get.ensures.entry) found)

pub returns-clause-chosen : goal.returns-clause-chosen
returns-clause-chosen c =
    let name = c.args.name.now in
    let fresh = ap (λ w. w.stale) c.self.view_is ∙ c.requires in
    ap (λ o. (name_standing o).chosen) c.get.ensures.entry ∙ (c.self.invariant fresh).1 name ∙ ap (λ (h : HeldCache). choice_in name (world_of h.store)) c.self.view_is
