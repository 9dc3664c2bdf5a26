-- The packages that have a specific pin are enough for the rows whose priority comes from one.
use Rattle.std.proofs.Common.{◌≡◌, ◌∙◌, ℕ, ℤ, Bool, true, false, ◌&&◌, List, [], ◌∷◌, map, flat_map, Option, None, Some, refl, sym, ap}
use Rattle.std.specs.Cmp.Lexicographic.{slice_cmp, nat_list_eq_equiv}
use Rattle.std.specs.List.Sorted.{IsStrictlySortedBy}
use Rattle.std.specs.Option.{option_map_or}
use Rattle.std.specs.Ordering.{nat_cmp}
use Rattle.std.specs.Str.{bytes_eq}
use Rattle.ctl_store.specs.declared.selector.Selector.{Selector}
use Rattle.ctl_store.specs.declared.selector.Selector.TheVariants.{Version, Release}
use Rattle.ctl_store.specs.declared.stanza_key.StanzaKey.{StanzaKey}
use Rattle.ctl_store.specs.Pins.{is_of}
use Rattle.ctl_policy.specs.Rows.{Row, rows_named, newest_first, keys_of_row, is_any_row}
use Rattle.ctl_policy.specs.Priority.{World, matches_row, specific_pin}
use Rattle.ctl_query.specs.Interest.{is_pinned}
use Rattle.ctl_query.specs.NameSet.{is_among}
use Rattle.ctl_query.specs.Packages.{has_row, packages_of, rows_of}
use Rattle.ctl_query.specs.Policy.{row_version, pinned_line, line_if_pinned, pinned_lines}
use Rattle.ctl_query.proofs.ClassLemmas.{AreClasses}
use Rattle.ctl_query.proofs.InterestLemmas.{of_two, no_package}
use Rattle.ctl_query.proofs.KnownLemmas.{left_false, right_false, row_known}
use Rattle.ctl_query.proofs.PackageLemmas.{packages_sorted}

pub same_either_way : (a b : List ℕ) → bytes_eq a b ≡ bytes_eq b a
same_either_way a b = nat_list_eq_equiv.symm a b

-- ---- a package without a specific pin

and_first : (a b : Bool) → a ≡ false → (a && b) ≡ false
and_first true b h = absurd (let z : ⊥ = cc in z)
and_first false b h = refl

-- a pin of other packages matches no row of a package
unmatched : (world : World) (name : List ℕ) (row : List StanzaKey) (selector : Selector) → is_of name selector ≡ false → matches_row name world.lists row selector ≡ false
unmatched world name row (Version own version) h = and_first _ _ h
unmatched world name row (Release None list) h = refl
unmatched world name row (Release (Some own) list) h = and_first _ _ h

no_pin : (world : World) (name : List ℕ) (row : List StanzaKey) (pins : List (Selector × ℤ)) → is_pinned pins name ≡ false → specific_pin name world.lists row pins ≡ None
no_pin world name row [] h = refl
no_pin world name row (s ∷ pins) h = rw (unmatched world name row s.0 (left_false _ _ h)) (no_pin world name row pins (right_false _ _ h))

no_line_each : {X : Type 0} (f : X → List ℕ) (xs : List X) → ((x : X) → f x ≡ []) → flat_map f xs ≡ []
no_line_each f [] none = refl
no_line_each f (x ∷ xs) none = rw (none x) (no_line_each f xs none)

no_lines : (world : World) (name : List ℕ) → is_pinned world.pins name ≡ false → pinned_lines world name ≡ []
unfolding pinned_lines
no_lines world name h =
    no_line_each (line_if_pinned world name) (rows_of world name)
    (λ row. ap (λ (priority : Option ℤ). option_map_or (pinned_line name (row_version world row)) priority []) (no_pin world name row world.pins h))

-- ---- what is no package

none_of_rows : (rows : List Row) → is_any_row rows ≡ false → map keys_of_row rows ≡ []
none_of_rows [] h = refl
none_of_rows (row ∷ rows) h = absurd (let z : ⊥ = cc in z)

no_rows : (world : World) (name : List ℕ) → has_row world name ≡ false → pinned_lines world name ≡ []
unfolding pinned_lines rows_of
no_rows world name h = ap (flat_map (line_if_pinned world name)) (none_of_rows (newest_first (rows_named name world.lists)) h)

pub pinned_are_enough : AreClasses → (world : World) (names : List (List ℕ)) → IsStrictlySortedBy (slice_cmp nat_cmp) names → ((name : List ℕ) → is_among names name ≡ is_pinned world.pins name) →
    flat_map (pinned_lines world) names ≡ flat_map (pinned_lines world) (packages_of world)
pinned_are_enough classes world names sorted members =
    of_two (pinned_lines world) (packages_of world) names (packages_sorted world) sorted
    (λ name out. no_rows world name (no_package world (row_known classes world) name out))
    (λ name out. no_lines world name (sym (members name) ∙ out))
