use Rattle.std.proofs.Common.{◌∙◌, ap, refl, sym, subst, nat_eq, ◌-◌}
use Rattle.std.specs.Map.{lookup, set_value}
use Rattle.std.specs.VecDeque.{deque_capacity, deque_len}
use Rattle.ctl_ordered.specs.Slots.{entries_of, filled_of}
use Rattle.ctl_ordered.specs.Ordered.{entries, room_of, set_filled, IsOrdered}
use Rattle.ctl_ordered.proofs.SlotLemmas.{to_lent}
use Rattle.std.proofs.lemmas.Map.Steps.{set_value_same}
use Rattle.ctl_ordered.proofs.OrderLemmas.{key_order, ordered_set, ordered_value, ordered_gap, ordered_no_value}
use Rattle.ctl_ordered.proofs.ordered.Ordered.get_mut.Goals as goal

pub invariant_of-self-lent : goal.invariant_of-self-lent
invariant_of-self-lent g c r =
    let o = c.self.inside in
    let order = key_order g.met.K.Eq.laws g.met.K.Ord.total g.met.K.Ord.matches_eq in
    let k = g.Q.Wanted.wanted c.args.wanted in
    let s = c.in_default-Some.serial in
    let slot = c.in-Some.slot.now in
    let i = sym c.in_default-Some.is-1 ∙ c.look_up.ensures.serial in
    let at = c.in-Some.ensures.value in
    let here = c.value_mut.follows in
    let there = c.get_mut.follows in (
      (λ w.
          let set = ordered_set order o.slots.entries o.order.items o.next c.self.invariant k w s slot (here.lender w) c.value_mut.result i at c.value_mut.ensures.value (here.holds w) in
          subst (λ slots. IsOrdered g.K.PartialEq.eq g.K.Ord.cmp slots o.order.items o.next) (sym (there.holds (here.lender w)).0) set.0),
      let same = (there.holds here.lender-at-none).0 ∙ ap (λ x. set_value (nat_eq s) o.slots.entries x) here.holds-at-none ∙ set_value_same (nat_eq s) o.slots.entries slot (sym at) in
          subst (λ slots. IsOrdered g.K.PartialEq.eq g.K.Ord.cmp slots o.order.items o.next) (sym same) c.self.invariant,
    )

pub returns-in-Some : goal.returns-in-Some
returns-in-Some g c =
    let o = c.self.inside in
    let order = key_order g.met.K.Eq.laws g.met.K.Ord.total g.met.K.Ord.matches_eq in
    let eq = g.K.PartialEq.eq in
    let k = g.Q.Wanted.wanted c.args.wanted in
    let s = c.in_default-Some.serial in
    let slot = c.in-Some.slot.now in
    let i = sym c.in_default-Some.is-1 ∙ c.look_up.ensures.serial in
    let at = c.in-Some.ensures.value in
    let here = c.value_mut.follows in
    let there = c.get_mut.follows in
    let free = deque_capacity o.order - deque_len o.order in (
      (
        refl,
        (λ w.
            let wrote = there.holds (here.lender w) in
            let set = ordered_set order o.slots.entries o.order.items o.next c.self.invariant k w s slot (here.lender w) c.value_mut.result i at c.value_mut.ensures.value (here.holds w) in
            to_lent c.value_mut.result (record {
              entries = ap entries_of wrote.0 ∙ set.1 ∙ ap (λ v. set_value (eq k) (entries v) w) c.self.view_is;
              filled = ap filled_of wrote.0 ∙ set.2 ∙ ap (λ v. set_filled (eq k) v.filled w) c.self.view_is;
              next = ap (λ v. v.next) c.self.view_is;
              room = ap (λ n. room_of n free o.next) wrote.6 ∙ ap (λ v. v.room) c.self.view_is;
            })),
        let wrote = there.holds here.lender-at-none in
            let same = wrote.0 ∙ ap (λ x. set_value (nat_eq s) o.slots.entries x) here.holds-at-none ∙ set_value_same (nat_eq s) o.slots.entries slot (sym at) in
            (λ j. record { filled = filled_of (same j); next = o.next; room = room_of (wrote.6 j) free o.next }) ∙ c.self.view_is,
      ),
      record {
        writes_back = tt;
        value = c.value_mut.ensures.value ∙ ordered_value order o.slots.entries o.order.items o.next c.self.invariant k s slot i at ∙ ap (λ v. lookup (eq k) (entries v)) c.self.view_is;
      },
    )

pub returns-in-None : goal.returns-in-None
returns-in-None g c =
    let o = c.self.inside in
    let order = key_order g.met.K.Eq.laws g.met.K.Ord.total g.met.K.Ord.matches_eq in
    let i = sym c.in_default-Some.is-1 ∙ c.look_up.ensures.serial in
    absurd (ordered_gap order o.slots.entries o.order.items o.next c.self.invariant (g.Q.Wanted.wanted c.args.wanted) c.in_default-Some.serial i c.in-None.ensures.value)

pub returns-in_default-None : goal.returns-in_default-None
returns-in_default-None g c =
    let o = c.self.inside in
    let order = key_order g.met.K.Eq.laws g.met.K.Ord.total g.met.K.Ord.matches_eq in
    let k = g.Q.Wanted.wanted c.args.wanted in (
      (refl, (λ w. tt), c.self.view_is),
      record {
        writes_back = tt;
        value =
            (ordered_no_value order o.slots.entries o.order.items o.next c.self.invariant k (sym c.in_default-None.is-1 ∙ c.look_up.ensures.serial)).0
            ∙ ap (λ v. lookup (g.K.PartialEq.eq k) (entries v)) c.self.view_is;
      },
    )
