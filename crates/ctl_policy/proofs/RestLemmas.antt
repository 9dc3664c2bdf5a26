-- On what the choice of a name rests, and which marks, pins and targets leave it.
use Rattle.std.proofs.Common.{◌≡◌, ◌⊎◌, inl, inr, ℕ, ℤ, pos, Bool, true, false, cond, ◌||◌, List, [], ◌∷◌, Option, None, Some, option_map, unwrap_or, refl, ap, sym, subst, ◌∙◌}
use Rattle.std.specs.Str.{bytes_eq}
use Rattle.std.specs.Ordering.{is_eq, nat_cmp}
use Rattle.std.specs.Option.{option_map_or}
use Rattle.std.specs.List.{AllByRecursion}
use Rattle.std.specs.Map.{lookup, remove_entry}
use Rattle.std.specs.FinMap as fin
use Rattle.std.specs.Cmp.Lexicographic.{slice_cmp, nat_list_cmp_total, nat_list_eq_equiv}
use Rattle.std.proofs.lemmas.Bool.{false≢true}
use Rattle.std.proofs.lemmas.Map.Text.{is_eq-slice_cmp}
use Rattle.std.proofs.lemmas.Slice.Eq.{bytes_eq-Decides}
use Rattle.indexmap.specs.IndexMap.{insert_entry}
use Rattle.ctl_relation.specs.Version.{Triple}
use Rattle.ctl_stanza.specs.declared.list_kind.ListKind.{ListKind}
use Rattle.ctl_stanza.specs.declared.list_kind.ListKind.TheVariants.{Packages, Status}
use Rattle.ctl_store.specs.declared.selector.Selector.{Selector}
use Rattle.ctl_store.specs.declared.selector.Selector.TheVariants.{Version, Release}
use Rattle.ctl_store.specs.declared.stanza_key.StanzaKey.{StanzaKey}
use Rattle.ctl_store.specs.Pins.{selector_eq, is_general_on, general_pin, is_of, own_settings}
use Rattle.ctl_store.specs.SelectorLaws.{selector_eq-Decides}
use Rattle.ctl_store.specs.Named.{at_name}
use Rattle.ctl_store.specs.State.{Marks, StanzaList}
use Rattle.ctl_store.specs.Edits.{Edit}
use Rattle.ctl_store.specs.Step.{after}
use Rattle.ctl_store.specs.Keys.{stanza_lists, holder_of, keyed_after}
use Rattle.ctl_store.specs.Store.{Held, keyed_of, state_of}
use Rattle.ctl_policy.specs.declared.chosen.Chosen.{Chosen}
use Rattle.ctl_policy.specs.Rows.{Row, rows_named, lead_of, lead_at, is_called, is_source}
use Rattle.ctl_policy.specs.Priority.{Settings, World, world_in, world_of, is_target, own_priority, priority_of_list, list_priority, specific_pin, priority_found, source_priorities, greatest, row_priority}
use Rattle.ctl_policy.specs.Candidate.{Choice, status_version, wanted_version, version_if_row, may_be_taken, better, best_of, choice_of, installed_of, lead_of_choice}
use Rattle.ctl_policy.specs.Chosen.{if_rows, choice_in, kept_of}
use Rattle.ctl_policy.specs.Laws.{rows_in, with_marks, with_pins, with_target, Stays, IsOfName, IsNoSource, IsNoTarget, AreRankedAlike, world_after}
use Rattle.ctl_policy.proofs.OwnLemmas.{own_pins}

same_name : (name q : List ℕ) → bytes_eq name q ≡ true → name ≡ q
same_name name q e = (bytes_eq-Decides name q).0 e

-- ---- the choice rests on the rows, their priorities and what is installed

best_of-same : (f g : List StanzaKey → ℤ) (installed : Option Triple) (rows : List Row) → AllByRecursion (λ (row : Row). f row.1 ≡ g row.1) rows → best_of f installed rows ≡ best_of g installed rows
best_of-same f g installed [] h = refl
best_of-same f g installed (row ∷ rows) h = λ i. cond (may_be_taken (h.0 i) row.0 installed) (better (h.0 i, lead_of row.1) (best_of-same f g installed rows h.1 i)) (best_of-same f g installed rows h.1 i)

abbrev chosen_by : Option StanzaKey → Choice → Chosen
chosen_by installed choice = record { installed = installed; candidate = lead_of_choice choice }

module _ (q : List ℕ) (w u : World) (rows : rows_in q u ≡ rows_in q w) (priorities : AllByRecursion (λ (row : Row). row_priority q u row.1 ≡ row_priority q w row.1) (rows_in q w)) (installed : installed_of q u ≡ installed_of q w)
    (there : version_if_row (rows_named q u.lists) (wanted_version q u) ≡ version_if_row (rows_named q w.lists) (wanted_version q w)) where
  best_same : choice_of q u ≡ choice_of q w
  best_same = (λ i. best_of (row_priority q u) (there i) (rows i)) ∙ best_of-same (row_priority q u) (row_priority q w) (version_if_row (rows_named q w.lists) (wanted_version q w)) (rows_in q w) priorities

  choice_same : choice_in q u ≡ choice_in q w
  choice_same = λ i. chosen_by (installed i) (best_same i)

  kept_same : kept_of q u ≡ kept_of q w
  kept_same = λ i. if_rows (rows i) (choice_same i)

  pub stays : Stays q w u
  stays = record { rows = rows; priorities = priorities; choice = choice_same; kept = kept_same }

-- ---- the priority of a list

ranked : (name : List ℕ) (w u : World) → at_name name (stanza_lists u.lists) ≡ at_name name (stanza_lists w.lists) → ((kind : ListKind) → is_target u.target name kind ≡ is_target w.target name kind)
    → general_pin name u.pins ≡ general_pin name w.pins → list_priority name u ≡ list_priority name w
ranked name w u l t g = ap (option_map (priority_of_list name u)) l ∙ by (at_name name (stanza_lists w.lists))
  where
    by : (o : Option StanzaList) → option_map (priority_of_list name u) o ≡ option_map (priority_of_list name w) o
    by None = refl
    by (Some x) = λ i. Some (cond (t x.kind i) (pos 990) (unwrap_or (g i) (own_priority x.kind x.class)))

-- ---- worlds with the same lists

pub or_first : (a b : Bool) → (a || b) ≡ false → a ≡ false
or_first true b e = cc
or_first false b e = refl

pub or_second : (a b : Bool) → (a || b) ≡ false → b ≡ false
or_second true b e = cc
or_second false b e = e

module _ (w : World) (marks : Marks) (pins : Settings) (target : Option (List ℕ)) (q : List ℕ) where
  abbrev u : World
  u = record { lists = w.lists; marks = marks; pins = pins; target = target }

  abbrev IsRanked : List StanzaKey → Type 0
  IsRanked keys = (list : List ℕ) → (list_priority list u ≡ list_priority list w) ⊎ (is_source list w.lists keys ≡ false)

  sources_same : (keys : List StanzaKey) → IsRanked keys → source_priorities u keys ≡ source_priorities w keys
  sources_same [] h = refl
  sources_same (k ∷ keys) h = λ i. at (holder_of k w.lists) refl i ∷ sources_same keys (λ list. tail list (h list)) i
    where
      tail : (list : List ℕ) → (list_priority list u ≡ list_priority list w) ⊎ (is_source list w.lists (k ∷ keys) ≡ false) → (list_priority list u ≡ list_priority list w) ⊎ (is_source list w.lists keys ≡ false)
      tail list (inl e) = inl e
      tail list (inr e) = inr (or_second (is_called list (holder_of k w.lists)) _ e)

      by : (list : List ℕ) → holder_of k w.lists ≡ Some list → (list_priority list u ≡ list_priority list w) ⊎ (is_source list w.lists (k ∷ keys) ≡ false) → priority_found u (Some list) ≡ priority_found w (Some list)
      by list e (inl p) = ap (λ r. unwrap_or r (pos 0)) p
      by list e (inr n) = absurd (false≢true (sym (or_first (is_called list (holder_of k w.lists)) _ n) ∙ ap (is_called list) e ∙ (bytes_eq-Decides list list).1 refl))

      at : (o : Option (List ℕ)) → holder_of k w.lists ≡ o → priority_found u o ≡ priority_found w o
      at None e = refl
      at (Some list) e = by list e (h list)

  priorities_same : own_settings q pins ≡ own_settings q w.pins → (rows : List Row) → ((list : List ℕ) → (list_priority list u ≡ list_priority list w) ⊎ AllByRecursion (λ (row : Row). is_source list w.lists row.1 ≡ false) rows)
      → AllByRecursion (λ (row : Row). row_priority q u row.1 ≡ row_priority q w row.1) rows
  priorities_same own [] h = tt
  priorities_same own (row ∷ rows) h = (
    λ i. unwrap_or ((sym (own_pins q w.lists row.1 pins) ∙ ap (specific_pin q w.lists row.1) own ∙ own_pins q w.lists row.1 w.pins) i) (greatest (sources_same row.1 (λ list. head list (h list)) i)),
    priorities_same own rows (λ list. tail list (h list)),
  )
    where
      head : (list : List ℕ) → (list_priority list u ≡ list_priority list w) ⊎ AllByRecursion (λ (row : Row). is_source list w.lists row.1 ≡ false) (row ∷ rows) → (list_priority list u ≡ list_priority list w) ⊎ (is_source list w.lists row.1 ≡ false)
      head list (inl e) = inl e
      head list (inr a) = inr a.0

      tail : (list : List ℕ) → (list_priority list u ≡ list_priority list w) ⊎ AllByRecursion (λ (row : Row). is_source list w.lists row.1 ≡ false) (row ∷ rows) → (list_priority list u ≡ list_priority list w) ⊎ AllByRecursion (λ (row : Row). is_source list w.lists row.1 ≡ false) rows
      tail list (inl e) = inl e
      tail list (inr a) = inr a.1

  others : own_settings q pins ≡ own_settings q w.pins → AreRankedAlike q w u → fin.get marks q ≡ fin.get w.marks q → Stays q w u
  others own alike mark = stays q w u refl (priorities_same own (rows_in q w) alike)
      (ap (λ m. option_map_or (lead_at (rows_named q w.lists)) (unwrap_or m (status_version q w.lists)) None) mark)
      (ap (λ m. version_if_row (rows_named q w.lists) (unwrap_or m (status_version q w.lists))) mark)

pub stays_itself : (q : List ℕ) (w : World) → Stays q w w
stays_itself q w = others w w.marks w.pins w.target q refl (λ list. inl refl) refl

-- ---- marks

-- a mark that is set again
pub same_mark : (w : World) (name : List ℕ) (mark : Option (List ℕ)) → fin.get w.marks name ≡ Some mark → (q : List ℕ) → Stays q w (with_marks (fin.insert w.marks name mark) w)
same_mark w name mark there q = others w (fin.insert w.marks name mark) w.pins w.target q refl (λ list. inl refl) (fin.get-insert nat_list_cmp_total w.marks name mark q ∙ by (is_eq (slice_cmp nat_cmp q name)) refl)
  where
    by : (b : Bool) → is_eq (slice_cmp nat_cmp q name) ≡ b → cond b (Some mark) (fin.get w.marks q) ≡ fin.get w.marks q
    by true is = sym there ∙ ap (fin.get w.marks) (sym (same_name q name (sym (is_eq-slice_cmp q name) ∙ is)))
    by false is = refl

other_name : (name q : List ℕ) → bytes_eq name q ≡ false → is_eq (slice_cmp nat_cmp q name) ≡ false
other_name name q e = is_eq-slice_cmp q name ∙ nat_list_eq_equiv.symm q name ∙ e

pub mark_others : (w : World) (name : List ℕ) (mark : Option (List ℕ)) → IsOfName name w (with_marks (fin.insert w.marks name mark) w)
mark_others w name mark q e =
    others w (fin.insert w.marks name mark) w.pins w.target q refl (λ list. inl (ranked list w (with_marks (fin.insert w.marks name mark) w) refl (λ kind. refl) refl))
    (fin.get-insert nat_list_cmp_total w.marks name mark q ∙ ap (λ b. cond b (Some mark) (fin.get w.marks q)) (other_name name q e))

pub unmark_others : (w : World) (name : List ℕ) → IsOfName name w (with_marks (fin.remove w.marks name) w)
unmark_others w name q e =
    others w (fin.remove w.marks name) w.pins w.target q refl (λ list. inl (ranked list w (with_marks (fin.remove w.marks name) w) refl (λ kind. refl) refl))
    (fin.get-remove nat_list_cmp_total w.marks name q ∙ ap (λ b. cond b None (fin.get w.marks q)) (other_name name q e))

-- ---- settings

pub pins_others : (w : World) (pins : Settings) (q : List ℕ) → own_settings q pins ≡ own_settings q w.pins → AreRankedAlike q w (with_pins pins w) → Stays q w (with_pins pins w)
pins_others w pins q own alike = others w w.marks pins w.target q own alike refl

same_selector : (s t : Selector) → selector_eq s t ≡ true → s ≡ t
same_selector s t e = (selector_eq-Decides s t).0 e

lookup-insert : (test : Selector → Bool) (s : Selector) (p : ℤ) (settings : Settings) → test s ≡ false → lookup test (insert_entry selector_eq settings s p) ≡ lookup test settings
lookup-insert test s p [] e = ap (λ b. cond b (Some p) None) e
lookup-insert test s p (x ∷ settings) e = by (selector_eq s x.0) refl (lookup-insert test s p settings e)
  where
    by : (b : Bool) → selector_eq s x.0 ≡ b → lookup test (insert_entry selector_eq settings s p) ≡ lookup test settings
        → lookup test (cond {A = Settings} b ((x.0, p) ∷ settings) (x ∷ insert_entry selector_eq settings s p)) ≡ cond (test x.0) (Some x.1) (lookup test settings)
    by true is h = let passed = ap test (sym (same_selector s x.0 is)) ∙ e in ap (λ b. cond b (Some p) (lookup test settings)) passed ∙ sym (ap (λ b. cond b (Some x.1) (lookup test settings)) passed)
    by false is h = ap (cond (test x.0) (Some x.1)) h

lookup-remove : (test : Selector → Bool) (s : Selector) (settings : Settings) → test s ≡ false → lookup test (remove_entry (selector_eq s) settings) ≡ lookup test settings
lookup-remove test s [] e = refl
lookup-remove test s (x ∷ settings) e = by (selector_eq s x.0) refl (lookup-remove test s settings e)
  where
    by : (b : Bool) → selector_eq s x.0 ≡ b → lookup test (remove_entry (selector_eq s) settings) ≡ lookup test settings
        → lookup test (cond {A = Settings} b settings (x ∷ remove_entry (selector_eq s) settings)) ≡ cond (test x.0) (Some x.1) (lookup test settings)
    by true is h = sym (ap (λ b. cond b (Some x.1) (lookup test settings)) (ap test (sym (same_selector s x.0 is)) ∙ e))
    by false is h = ap (cond (test x.0) (Some x.1)) h

-- a pin of another package
of_other : (name q : List ℕ) (s : Selector) → is_of name s ≡ true → bytes_eq name q ≡ false → is_of q s ≡ false
of_other name q (Version p v) is e = ap (λ l. bytes_eq l q) (same_name p name is) ∙ e
of_other name q (Release None l) is e = refl
of_other name q (Release (Some p) l) is e = ap (λ l. bytes_eq l q) (same_name p name is) ∙ e

not_general : (name : List ℕ) (s : Selector) → is_of name s ≡ true → (list : List ℕ) → is_general_on list s ≡ false
not_general name (Version p v) is list = refl
not_general name (Release None l) is list = cc
not_general name (Release (Some p) l) is list = refl

-- what a pin that is set or taken out makes of the settings of one package, as the store's law says
abbrev pub Sets : Type 0
Sets = (q : List ℕ) → (s : Selector) → (p : ℤ) → (pins : Settings) → own_settings q (insert_entry selector_eq pins s p) ≡ cond (is_of q s) (insert_entry selector_eq (own_settings q pins) s p) (own_settings q pins)

abbrev pub Takes : Type 0
Takes = (q : List ℕ) → (s : Selector) → (pins : Settings) → own_settings q (remove_entry (selector_eq s) pins) ≡ cond (is_of q s) (remove_entry (selector_eq s) (own_settings q pins)) (own_settings q pins)

own_set : Sets → (q : List ℕ) (s : Selector) (p : ℤ) (pins : Settings) → is_of q s ≡ false → own_settings q (insert_entry selector_eq pins s p) ≡ own_settings q pins
own_set sets q s p pins e = sets q s p pins ∙ ap (λ b. cond b (insert_entry selector_eq (own_settings q pins) s p) (own_settings q pins)) e

own_taken : Takes → (q : List ℕ) (s : Selector) (pins : Settings) → is_of q s ≡ false → own_settings q (remove_entry (selector_eq s) pins) ≡ own_settings q pins
own_taken takes q s pins e = takes q s pins ∙ ap (λ b. cond b (remove_entry (selector_eq s) (own_settings q pins)) (own_settings q pins)) e

pub pin_others : Sets → (w : World) (name : List ℕ) (s : Selector) (p : ℤ) → is_of name s ≡ true → IsOfName name w (with_pins (insert_entry selector_eq w.pins s p) w)
pin_others sets w name s p is q e =
    pins_others w (insert_entry selector_eq w.pins s p) q (own_set sets q s p w.pins (of_other name q s is e))
    (λ list. inl (ranked list w (with_pins (insert_entry selector_eq w.pins s p) w) refl (λ kind. refl) (lookup-insert (is_general_on list) s p w.pins (not_general name s is list))))

pub unpin_others : Takes → (w : World) (name : List ℕ) (s : Selector) → is_of name s ≡ true → IsOfName name w (with_pins (remove_entry (selector_eq s) w.pins) w)
unpin_others takes w name s is q e =
    pins_others w (remove_entry (selector_eq s) w.pins) q (own_taken takes q s w.pins (of_other name q s is e))
    (λ list. inl (ranked list w (with_pins (remove_entry (selector_eq s) w.pins) w) refl (λ kind. refl) (lookup-remove (is_general_on list) s w.pins (not_general name s is list))))

pub general_pin_others : Sets → (w : World) (list : List ℕ) (p : ℤ) (q : List ℕ) → IsNoSource list q w → Stays q w (with_pins (insert_entry selector_eq w.pins (Release None list) p) w)
general_pin_others sets w list p q none = pins_others w pins q (own_set sets q (Release None list) p w.pins refl) (λ l. by l (bytes_eq list l) refl)
  where
    pins : Settings
    pins = insert_entry selector_eq w.pins (Release None list) p

    by : (l : List ℕ) (b : Bool) → bytes_eq list l ≡ b → (list_priority l (with_pins pins w) ≡ list_priority l w) ⊎ IsNoSource l q w
    by l true e = inr (subst (λ z. IsNoSource z q w) (same_name list l e) none)
    by l false e = inl (ranked l w (with_pins pins w) refl (λ kind. refl) (lookup-insert (is_general_on l) (Release None list) p w.pins e))

pub general_unpin_others : Takes → (w : World) (list : List ℕ) (q : List ℕ) → IsNoSource list q w → Stays q w (with_pins (remove_entry (selector_eq (Release None list)) w.pins) w)
general_unpin_others takes w list q none = pins_others w pins q (own_taken takes q (Release None list) w.pins refl) (λ l. by l (bytes_eq list l) refl)
  where
    pins : Settings
    pins = remove_entry (selector_eq (Release None list)) w.pins

    by : (l : List ℕ) (b : Bool) → bytes_eq list l ≡ b → (list_priority l (with_pins pins w) ≡ list_priority l w) ⊎ IsNoSource l q w
    by l true e = inr (subst (λ z. IsNoSource z q w) (same_name list l e) none)
    by l false e = inl (ranked l w (with_pins pins w) refl (λ kind. refl) (lookup-remove (is_general_on l) (Release None list) w.pins e))

-- ---- the target

not_target : (w : World) (q : List ℕ) (target : Option (List ℕ)) → IsNoTarget target q w → (l : List ℕ) → ((kind : ListKind) → is_target target l kind ≡ false) ⊎ IsNoSource l q w
not_target w q None none l = inl (λ kind. refl)
not_target w q (Some t) none l = by (bytes_eq t l) refl
  where
    no : bytes_eq t l ≡ false → (kind : ListKind) → is_target (Some t) l kind ≡ false
    no e Packages = e
    no e Status = refl

    by : (b : Bool) → bytes_eq t l ≡ b → ((kind : ListKind) → is_target (Some t) l kind ≡ false) ⊎ IsNoSource l q w
    by true e = inr (subst (λ z. IsNoSource z q w) (same_name t l e) none)
    by false e = inl (no e)

pub target_others : (w : World) (other : Option (List ℕ)) (q : List ℕ) → IsNoTarget w.target q w → IsNoTarget other q w → Stays q w (with_target other w)
target_others w other q old new = others w w.marks w.pins other q refl (λ l. by l (not_target w q w.target old l) (not_target w q other new l)) refl
  where
    by : (l : List ℕ) → ((kind : ListKind) → is_target w.target l kind ≡ false) ⊎ IsNoSource l q w → ((kind : ListKind) → is_target other l kind ≡ false) ⊎ IsNoSource l q w → (list_priority l (with_target other w) ≡ list_priority l w) ⊎ IsNoSource l q w
    by l (inr n) m = inr n
    by l (inl h) (inr n) = inr n
    by l (inl h) (inl k) = inl (ranked l w (with_target other w) refl (λ kind. k kind ∙ sym (h kind)) refl)

-- ---- the store

pub world_moves : (old new : Held) (edit : Edit) → keyed_of new ≡ keyed_after (keyed_of old) edit → state_of new ≡ after (state_of old) edit → world_of new ≡ world_after old edit
world_moves old new edit k s = λ i. world_in (k i) (s i)
