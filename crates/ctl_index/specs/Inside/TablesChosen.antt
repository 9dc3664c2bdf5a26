-- How what is chosen of each name follows an edit.
use Rattle.std.specs.Prelude.{◌≡◌, ℕ, Bool, true, List, Option, None, Some, if◌then◌else◌}
use Rattle.std.specs.Str.{bytes_eq}
use Rattle.std.specs.List.{IsDistinct}
use Rattle.std.specs.Map.{keys_of as names_of}
use Rattle.ctl_store.specs.Step.{after}
use Rattle.ctl_store.specs.Keys.{all_keys, AreRising, AreCome, keyed_after}
use Rattle.ctl_store.specs.Entries.{IsChange}
use Rattle.ctl_store.specs.Store.{Held, keyed_of, state_of}
use Rattle.ctl_store.specs.Plans.{Planned, IsReady}
use Rattle.ctl_policy.specs.declared.chosen.Chosen.{Chosen}
use Rattle.ctl_policy.specs.Priority.{World, world_of}
use Rattle.ctl_policy.specs.Rows.{Rows, has_list}
use Rattle.ctl_policy.specs.Chosen.{choice_in}
use Rattle.ctl_index.specs.Inside.TablesByName.{NameMap, offers_under, namers_under, rows_under}
use Rattle.ctl_index.specs.declared.named.Named.{Named}

-- a store made the edit of a plan
pub record HasMade (h : Held) (plan : Planned) (new : Held) : Type 0 where
  pub ready : IsReady h plan
  pub rising : AreRising (all_keys (keyed_of h).lists)
  pub distinct : IsDistinct bytes_eq (names_of (state_of h).lists)
  pub change : IsChange (keyed_of h).lists (keyed_after (keyed_of h) plan.edit).lists plan.removed plan.added plan.edit
  pub come : AreCome plan.added plan.edit (keyed_of new).lists
  pub keyed : keyed_of new ≡ keyed_after (keyed_of h) plan.edit
  pub state : state_of new ≡ after (state_of h) plan.edit

-- the names that pass a test were chosen anew, and of others is chosen what was
abbrev pub AreRenewed : (List ℕ → Bool) → World → (List ℕ → Chosen) → (List ℕ → Chosen) → Type 0
AreRenewed touches w old new = (q : List ℕ) → new q ≡ (if touches q then choice_in q w else old q)

-- whether a name with these rows is asked for: one with a stanza of a list, or any
abbrev pub are_asked : Option ℕ → Rows → Bool
are_asked None rows = true
are_asked (Some list) rows = has_list list rows

-- what stands under a name, once it was chosen anew for a store, if it is asked for
abbrev pub chosen_anew : Held → Option ℕ → List ℕ → Named → Named
chosen_anew h list name v =
    if are_asked list v.own.rows then record { offers = v.offers; namers = v.namers; own = record { rows = v.own.rows; chosen = choice_in name (world_of h) } } else v

-- under each name stands what stood there, but for what is chosen of its rows
pub record HasSameRows (old new : NameMap) : Type 0 where
  pub offers : offers_under new ≡ offers_under old
  pub namers : namers_under new ≡ namers_under old
  pub rows : rows_under new ≡ rows_under old
