-- A package of whose stanzas there is nothing to tell has no text.
use Rattle.std.proofs.Common.{◌≡◌, ◌∙◌, ℕ, Bool, true, false, cond, List, [], ◌∷◌, ◌++◌, flat_map, map, None, IfSome, refl, ap, sym}
use Rattle.std.specs.List.{AllByRecursion}
use Rattle.std.specs.Str.{bytes_eq}
use Rattle.std.proofs.lemmas.Slice.Eq.{bytes_eq-Decides}
use Rattle.ctl_stanza.specs.Content.{Content, package_of, version_of}
use Rattle.ctl_store.specs.declared.stanza_key.StanzaKey.{StanzaKey}
use Rattle.ctl_store.specs.Entries.{Entry, entries_of, AreAt}
use Rattle.ctl_policy.specs.Keys.{some_keys}
use Rattle.ctl_policy.specs.Rows.{Row, is_of_version, is_in_row, keys_with, keys_of_row, rows_named, newest_first, is_any_row}
use Rattle.ctl_policy.specs.Priority.{World}
use Rattle.ctl_query.specs.Packages.{rows_of, has_row, told, told_of_row, of_rows}
use Rattle.ctl_query.proofs.ClassLemmas.{AreClasses, each_class}

pub swapped : (a b : List ℕ) → bytes_eq a b ≡ bytes_eq b a
swapped a b = by (bytes_eq a b) (bytes_eq b a) refl refl
  where
    by : (x y : Bool) → bytes_eq a b ≡ x → bytes_eq b a ≡ y → x ≡ y
    by true true e f = refl
    by false false e f = refl
    by true false e f = sym ((bytes_eq-Decides b a).1 (sym ((bytes_eq-Decides a b).0 e))) ∙ f
    by false true e f = sym e ∙ (bytes_eq-Decides a b).1 (sym ((bytes_eq-Decides b a).0 f))

-- nothing is told of the stanzas of this package
abbrev pub IsSilent : {A : Type 0} → (Content → List A) → List ℕ → List Entry → Type 0
IsSilent text name es = AllByRecursion (λ (e : Entry). bytes_eq name (package_of e.1) ≡ true → text e.1 ≡ []) es

-- a stanza of a row of a name is a live one of this package
pub of_name : (name version : List ℕ) (x : Content) → is_in_row name version x ≡ true → bytes_eq name (package_of x) ≡ true
of_name name version x h = by (bytes_eq (package_of x) name) refl h
  where
    by : (b : Bool) → bytes_eq (package_of x) name ≡ b → is_of_version version (cond b (version_of x) None) ≡ true → bytes_eq name (package_of x) ≡ true
    by true e g = swapped name (package_of x) ∙ e
    by false e g = absurd (let z : ⊥ = cc in z)

module _ {A : Type 0} (world : World) (text : Content → List A) (name : List ℕ) where
  of_keys : (version : List ℕ) (es : List Entry) → AreAt es world.lists → IsSilent text name es → told_of_row world text (keys_with (is_in_row name version) es) ≡ []
  of_keys version [] at silent = refl
  of_keys version (e ∷ es) at silent = by (is_in_row name version e.1) refl (of_keys version es at.1 silent.1)
    where
      by : (b : Bool) → is_in_row name version e.1 ≡ b → told_of_row world text (keys_with (is_in_row name version) es) ≡ [] → told_of_row world text (cond b (e.0 ∷ keys_with (is_in_row name version) es) (keys_with (is_in_row name version) es)) ≡ []
      by true is rest = ap (told text) at.0 ∙ silent.0 (of_name name version e.1 is)
      by false is rest = rest

  if_some : (keys : List StanzaKey) → told_of_row world text keys ≡ [] → IfSome (some_keys keys) (λ keys. told_of_row world text keys ≡ [])
  if_some [] h = tt
  if_some (key ∷ keys) h = h

  of_all : (rows : List Row) → AllByRecursion (λ (row : Row). told_of_row world text row.1 ≡ []) rows → flat_map (told_of_row world text) (map keys_of_row rows) ≡ []
  of_all [] h = refl
  of_all (row ∷ rows) h = ap (λ xs. xs ++ flat_map (told_of_row world text) (map keys_of_row rows)) h.0 ∙ of_all rows h.1

  pub silent_rows : AreClasses → AreAt (entries_of world.lists) world.lists → IsSilent text name (entries_of world.lists) → of_rows world text name ≡ []
  unfolding rows_of
  silent_rows classes at silent =
      of_all (newest_first (rows_named name world.lists))
      (each_class classes (λ keys. told_of_row world text keys ≡ []) name world.lists
      (λ version. if_some (keys_with (is_in_row name version) (entries_of world.lists)) (of_keys version (entries_of world.lists) at silent)))

  none_of : (rows : List Row) → is_any_row rows ≡ false → flat_map (told_of_row world text) (map keys_of_row rows) ≡ []
  none_of [] h = refl
  none_of (row ∷ rows) h = absurd (let z : ⊥ = cc in z)

  -- a name without a row has no text
  pub no_rows : has_row world name ≡ false → of_rows world text name ≡ []
  unfolding rows_of
  no_rows h = none_of (newest_first (rows_named name world.lists)) h
