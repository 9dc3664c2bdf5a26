-- What a slot ends as, once a `&mut` into it has ended.
use Rattle.std.specs.Prelude.{◌≡◌, Option, OnSome}
use Rattle.std.specs.Borrow.{Fml, RattleType, MutBor, LendsSo}
use Rattle.ctl_ordered.specs.contracts.slot.Slot.{the_row}
use Rattle.ctl_ordered.specs.declared.slot.Slot.{Slot}
use Rattle.ctl_ordered.specs.Slots.{with_value}

module _ (K V : RattleType) where
  -- the entry has the last value written through r, and a hole stays one
  abbrev pub LendsEntry : MutBor (Slot K.Denot V.Denot) → Option (MutBor V.Denot) → Fml
  LendsEntry o r = LendsSo (the_row K V) V o r (λ n w. OnSome r (n ≡ with_value o.now w)) (λ n. n ≡ o.now)
