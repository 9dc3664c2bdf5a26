-- Leads that are lent, and where each stands by its key.
use Rattle.std.specs.Prelude.{◌≡◌, ◌⊎◌, ◌+◌, ◌-◌, ◌*◌, ◌%◌, ◌^◌, ℕ, List, map, flat_map, length, Option, Some, bit_and, slice_get, unwrap_or}
use Rattle.std.specs.Borrow.{Bor}
use Rattle.std.specs.BTreeMap.{is_at}
use Rattle.std.specs.Cmp.Lexicographic.{slice_cmp}
use Rattle.std.specs.List.{enumerate_from}
use Rattle.std.specs.List.Sorted.{IsStrictlySortedBy}
use Rattle.std.specs.Map.{keys_of, lookup}
use Rattle.std.specs.Ordering.{nat_cmp}
use Rattle.ctl_stanza.specs.Content.{Content}
use Rattle.ctl_store.specs.declared.stanza_key.StanzaKey.{StanzaKey}
use Rattle.ctl_store.specs.Entries.{Entry}
use Rattle.ctl_store.specs.Store.{Held}
use Rattle.ctl_store.specs.Keys.{key_cmp}
use Rattle.ctl_policy.specs.Priority.{world_of}
use Rattle.ctl_query.specs.Interest.{names_it}
use Rattle.ctl_query.specs.Leads.{key_at, leads_named, lent_lead}
use Rattle.ctl_query.specs.NameSet.{is_among}
use Rattle.ctl_query.specs.Packages.{packages_of}

-- leads that are lent
abbrev pub lent_leads : List (StanzaKey × Bor Content) → List Entry
lent_leads leads = map lent_lead leads

-- the place that stands beside a key
abbrev pub place_under : StanzaKey → List (StanzaKey × ℕ) → Option ℕ
place_under key places = lookup (is_at (key_cmp key)) places

-- the keys are each below those after it
abbrev pub AreInKeyOrder : List (StanzaKey × ℕ) → Type 0
AreInKeyOrder places = IsStrictlySortedBy key_cmp (keys_of places)

-- the key of each lead with its place, counted from n
abbrev pub numbered_from : ℕ → List Entry → List (StanzaKey × ℕ)
numbered_from n leads = map (λ (p : ℕ × Entry). (p.1.0, p.0)) (enumerate_from n leads)

-- beside the key of each lead stands its place, and beside no other key does one
pub record ArePlaces (leads : List Entry) (places : List (StanzaKey × ℕ)) : Type 0 where
  pub rising : AreInKeyOrder places
  pub there : (i : ℕ) (k : StanzaKey) → key_at leads i ≡ Some k → place_under k places ≡ Some i
  pub no_other : (i : ℕ) (k : StanzaKey) → place_under k places ≡ Some i → key_at leads i ≡ Some k

-- ---- where a lead is looked for first

-- the slot of a key among so many, a power of two: stanzas of one list that follow one another have slots that do
abbrev pub slot_of : StanzaKey → ℕ → ℕ
slot_of key slots = bit_and ((key.stanza + key.list * 2_654_435_761 % 2 ^ 64) % 2 ^ 64) (slots - 1)

-- the place that stands at the slot of a key
abbrev pub likely_place : StanzaKey → List ℕ → ℕ
likely_place key likely = unwrap_or (slice_get likely (slot_of key (length likely))) 0

-- the place of each lead stands at the slot of its key
abbrev pub AreLikely : List Entry → List ℕ → Type 0
AreLikely leads likely = (i : ℕ) (k : StanzaKey) → key_at leads i ≡ Some k → likely_place k likely ≡ i

-- ---- of which packages

-- all packages, or those that name a name, in order
abbrev pub AreAskers : Held → List ℕ → List (List ℕ) → Type 0
AreAskers store name askers = (askers ≡ packages_of (world_of store))
    ⊎ (IsStrictlySortedBy (slice_cmp nat_cmp) askers × ((asker : List ℕ) → is_among askers asker ≡ names_it store name asker))

-- the leads of enough packages for the answers on who names a name
abbrev pub AreEnough : Held → List ℕ → List Entry → Type 0
AreEnough store name leads =
    (askers : List (List ℕ)) × (leads ≡ flat_map (leads_named (world_of store)) askers) × AreAskers store name askers
