-- What an ordered map ends as, once a `&mut` into it has ended.
use Rattle.std.specs.Prelude.{◌≡◌, Bool, Option, OnSome}
use Rattle.std.specs.Borrow.{Fml, RattleType, MutBor, LendsSo}
use Rattle.std.specs.BTreeMap.Lent.{OrdMembers}
use Rattle.std.specs.Map.{set_value}
use Rattle.ctl_ordered.specs.Ordered.{OrderedEntries, entries, set_filled}
use Rattle.ctl_ordered.specs.contracts.ordered.Ordered.{the_row}

module _ (K V : RattleType) (key : OrdMembers K.Denot) where
  abbrev map_row : RattleType
  map_row = the_row K V (record { cmp = key.cmp }) (record { eq = key.eq }) (record { partial_cmp = key.partial_cmp })

  -- the value of the key that passes is another, and what else is held stays
  pub record HasValue (test : K.Denot → Bool) (old new : OrderedEntries K.Denot V.Denot) (w : V.Denot) : Type 0 where
    pub entries : entries new ≡ set_value test (entries old) w
    pub filled : new.filled ≡ set_filled test old.filled w
    pub next : new.next ≡ old.next
    pub room : new.room ≡ old.room

  -- the value of the key that passes has the last value written through r, and at `None` the map stays as it is
  abbrev pub LendsValue : MutBor (OrderedEntries K.Denot V.Denot) → (K.Denot → Bool) → Option (MutBor V.Denot) → Fml
  LendsValue o test r = LendsSo map_row V o r (λ n w. OnSome r (HasValue test o.now n w)) (λ n. n ≡ o.now)
