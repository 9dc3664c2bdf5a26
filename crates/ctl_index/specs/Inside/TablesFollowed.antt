-- Of the tables alone: what an accepted plan makes of the stanzas under keys.
use Rattle.std.specs.Prelude.{◌≡◌, ◌<◌, ℕ, ◌+◌, ◌-◌, ◌^◌, true, false, List, length}
use Rattle.std.specs.List.{AllByRecursion}
use Rattle.ctl_store.specs.Keys.{keyed_after}
use Rattle.ctl_store.specs.Entries.{Entry, entries_of, entries_by, without_keys}
use Rattle.ctl_store.specs.Store.{Held, keyed_of}
use Rattle.ctl_store.specs.Plans.{Planned}
use Rattle.ctl_store.specs.Followed.{AreApart}
use Rattle.ctl_index.specs.HeldCache.{standing}
use Rattle.ctl_index.specs.Offers.{contents}
use Rattle.ctl_index.specs.Inside.TablesParts.{IsJoined}
use Rattle.ctl_index.specs.Inside.TablesPending.{seen, AreSeen, in_store, with_plan}
use Rattle.ctl_index.specs.Inside.TablesOrder.{is_within, span_of}
use Rattle.ctl_index.specs.Work.{pairs}

-- the stanzas that a plan leaves, and those after it
abbrev pub staying : Held → Planned → List Entry
staying h plan = without_keys plan.removed (standing h)

abbrev pub standing_after : Held → Planned → List Entry
standing_after h plan = entries_of (keyed_after (keyed_of h) plan.edit).lists

-- those that go and those that come
abbrev pub going : Held → Planned → List Entry
going h plan = entries_by (seen (in_store h)) plan.removed

abbrev pub entries_added : Held → Planned → List Entry
entries_added h plan = entries_by (seen (with_plan h plan)) plan.added

pub record IsFollowed (h : Held) (plan : Planned) : Type 0 where
  pub taken : IsJoined (standing h) (staying h plan) (going h plan)
  pub put : IsJoined (standing_after h plan) (staying h plan) (entries_added h plan)
  pub outside : AllByRecursion (λ (e : Entry). is_within (span_of plan.removed) e.0 ≡ false) (staying h plan)
  pub inside : AllByRecursion (λ (e : Entry). is_within (span_of plan.removed) e.0 ≡ true) (going h plan)
  pub apart : AreApart (staying h plan)
  pub apart_going : AreApart (going h plan)
  pub apart_coming : AreApart (entries_added h plan)
  pub apart_after : AreApart (standing_after h plan)
  pub few : length (standing_after h plan) < 2 ^ 32
  pub seen_standing : AreSeen (in_store h) (standing h)
  pub seen_staying : AreSeen (in_store h) (staying h plan)
  pub seen_still : AreSeen (with_plan h plan) (staying h plan)
  pub seen_after : AreSeen (with_plan h plan) (standing_after h plan)

-- how many pairs go, and how many come
abbrev pub pairs_gone : Held → Planned → ℕ
pairs_gone h plan = pairs (contents (standing h)) - pairs (contents (staying h plan))

abbrev pub pairs_come : Held → Planned → ℕ
pairs_come h plan = pairs (contents (standing_after h plan)) - pairs (contents (staying h plan))

abbrev pub pairs_followed : Held → Planned → ℕ
pairs_followed h plan = pairs_gone h plan + pairs_come h plan
