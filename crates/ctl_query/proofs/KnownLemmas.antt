-- A name with a row is known.
use Rattle.std.proofs.Common.{◌≡◌, ◌∙◌, ℕ, Bool, true, false, cond, ◌||◌, List, [], ◌∷◌, flat_map, None, IfSome, refl, ap, sym}
use Rattle.std.specs.List.{AllByRecursion}
use Rattle.std.specs.Str.{bytes_eq}
use Rattle.std.proofs.lemmas.List.Folds.{list_any-append}
use Rattle.ctl_stanza.specs.Content.{Content, package_of, is_live}
use Rattle.ctl_store.specs.declared.stanza_key.StanzaKey.{StanzaKey}
use Rattle.ctl_store.specs.Entries.{Entry, entries_of}
use Rattle.ctl_index.specs.Names.{names_told, in_order, known_names}
use Rattle.ctl_index.specs.Offers.{contents}
use Rattle.ctl_policy.specs.Keys.{some_keys}
use Rattle.ctl_policy.specs.Rows.{Row, is_of_version, is_in_row, keys_with, rows_named, newest_first, is_any_row}
use Rattle.ctl_policy.specs.Priority.{World}
use Rattle.ctl_query.specs.NameSet.{is_among}
use Rattle.ctl_query.specs.Packages.{has_row, stanzas_of, names_known, is_known}
use Rattle.ctl_query.proofs.ClassLemmas.{AreClasses, each_class}
use Rattle.ctl_query.proofs.EntryLemmas.{contents_are}
use Rattle.ctl_query.proofs.OrderLemmas.{among_in_order}
use Rattle.ctl_query.proofs.SilentLemmas.{of_name}

pub left_false : (a b : Bool) → (a || b) ≡ false → a ≡ false
left_false true b h = h
left_false false b h = refl

pub right_false : (a b : Bool) → (a || b) ≡ false → b ≡ false
right_false true b h = absurd (let z : ⊥ = cc in z)
right_false false b h = h

true_first : (a b : Bool) → a ≡ true → (a || b) ≡ true
true_first true b e = refl
true_first false b e = absurd (let z : ⊥ = cc in z)

-- a stanza of a row of a name offers this name
offered : (name version : List ℕ) (x : Content) → is_in_row name version x ≡ true → is_among (names_told x) name ≡ true
offered name version x h = by (is_live x) refl
  where
    none : (b : Bool) → is_of_version version (cond b None None) ≡ true → ⊥
    none true e = cc
    none false e = cc

    by : (b : Bool) → is_live x ≡ b → is_among (names_told x) name ≡ true
    by true live = rw live (true_first _ _ (of_name name version x h))
    by false live = absurd (none (bytes_eq (package_of x) name) (rw live at h))

no_keys : (name version : List ℕ) (es : List Entry) → is_among (flat_map names_told (contents es)) name ≡ false → keys_with (is_in_row name version) es ≡ []
no_keys name version [] out = refl
no_keys name version (e ∷ es) out =
    let parts = sym (list_any-append (bytes_eq name) (names_told e.1) (flat_map names_told (contents es))) ∙ out in
    by (is_in_row name version e.1) refl (left_false _ _ parts) (no_keys name version es (right_false _ _ parts))
  where
    by : (b : Bool) → is_in_row name version e.1 ≡ b → is_among (names_told e.1) name ≡ false → keys_with (is_in_row name version) es ≡ [] →
        cond b (e.0 ∷ keys_with (is_in_row name version) es) (keys_with (is_in_row name version) es) ≡ []
    by true is out rest = absurd (let z : true ≡ false = sym (offered name version e.1 is) ∙ out in let w : ⊥ = cc in w)
    by false is out rest = rest

pub none_some : (keys : List StanzaKey) → keys ≡ [] → IfSome (some_keys keys) (λ keys. ⊥)
none_some [] h = tt
none_some (key ∷ keys) h = cc

pub no_row : (rows : List Row) → AllByRecursion (λ (row : Row). ⊥) rows → is_any_row rows ≡ false
no_row [] h = refl
no_row (row ∷ rows) h = absurd h.0

known_are : (world : World) → names_known world ≡ in_order (flat_map names_told (stanzas_of world))
unfolding known_names
known_are world = refl

pub row_known : AreClasses → (world : World) (name : List ℕ) → has_row world name ≡ true → is_among (names_known world) name ≡ true
row_known classes world name row = by (is_among (names_known world) name) refl
  where
    by : (b : Bool) → is_among (names_known world) name ≡ b → is_among (names_known world) name ≡ true
    by true e = e
    by false e =
        let out : is_among (flat_map names_told (contents (entries_of world.lists))) name ≡ false =
        ap (λ xs. is_among (flat_map names_told xs) name) (contents_are world.lists) ∙ sym (among_in_order name (flat_map names_told (stanzas_of world))) ∙ ap (λ xs. is_among xs name) (sym (known_are world)) ∙ e in
        let none = no_row (newest_first (rows_named name world.lists)) (each_class classes (λ keys. ⊥) name world.lists (λ version. none_some _ (no_keys name version (entries_of world.lists) out))) in
        absurd (let z : true ≡ false = sym row ∙ none in let w : ⊥ = cc in w)

pub row_is_known : AreClasses → (world : World) (name : List ℕ) → has_row world name ≡ true → is_known world name ≡ true
unfolding is_known
row_is_known classes world name row = row_known classes world name row
