use Rattle.std.proofs.Common.{◌≡◌, ◌∙◌, arith, length, ap, sym, subst, to_z, of_z, w16}
use Rattle.std.specs.List.{insert}
use Rattle.std.specs.Map.{lookup}
use Rattle.ctl_ordered.specs.Ordered.{entries, filled_put, next_put}
use Rattle.ctl_store.specs.Pins.{selector_eq}
use Rattle.ctl_store.specs.Inside.HeldPins.{own_below, IsRanked}
use Rattle.ctl_store.proofs.OwnLemmas.{own_set, own_push}
use Rattle.ctl_store.proofs.SoundLemmas.{next_most, put_fresh}
use Rattle.ctl_store.proofs.pin_table.PinTable.put.Goals.{in-Some, in-None+in-Ok}
use Rattle.ctl_store.proofs.pin_table.PinTable.put.Goals as goal
use Rattle.ctl_ordered.proofs.SlotLemmas.{filled_found, no_value}

pub invariant_of-self : goal.invariant_of-self
invariant_of-self c =
    let s = c.self.inside in
    let k = c.args.setting.selector in
    let v = to_z w16 (of_z w16 c.args.setting.priority) in
    let i = c.match-serial_of.self-inside in
    let put = c.put in
    let kept : IsRanked (filled_put (lookup (selector_eq k) (entries i.settings)) (selector_eq k) i.settings k v) (next_put (lookup (selector_eq k) (entries i.settings)) i.settings) i.packages.items = elim c.match-serial_of.branch [
      | in-Some w ↦
          let there = filled_found (selector_eq k) 0 s.settings.filled s.settings.next w.in-Some._serial c.self.invariant.rises (sym w.in-Some.ensures) in
          subst (λ x. IsRanked (filled_put (lookup (selector_eq k) (entries x.settings)) (selector_eq k) x.settings k v) (next_put (lookup (selector_eq k) (entries x.settings)) x.settings) x.packages.items) (sym w.self-inside-is)
          (subst (λ o. IsRanked (filled_put o (selector_eq k) s.settings k v) (next_put o s.settings) s.packages.items) (sym there.1.value)
          (own_set s.settings.filled s.settings.next s.packages.items c.self.invariant (selector_eq k) v))
      | in-None+in-Ok w ↦
          let none = no_value (selector_eq k) s.settings.filled (sym w.in-None.ensures) in
          let next = w.next_serial-serial.ensures in
          let at = w.place_of-at.ensures.place ∙ (λ j. own_below (w.package.ensures j, next j) s.settings.filled) in
          subst (λ x. IsRanked (filled_put (lookup (selector_eq k) (entries x.settings)) (selector_eq k) x.settings k v) (next_put (lookup (selector_eq k) (entries x.settings)) x.settings) x.packages.items) (sym w.self-inside-is)
          (subst (λ l. IsRanked (filled_put (lookup (selector_eq k) (entries s.settings)) (selector_eq k) s.settings k v) (next_put (lookup (selector_eq k) (entries s.settings)) s.settings) l) (sym (w.in-Ok.ensures.items ∙ ap (insert s.packages.items w.place_of-at.result) next))
          (subst (λ o. IsRanked (filled_put o (selector_eq k) s.settings k v) (next_put o s.settings) (insert s.packages.items w.place_of-at.result s.settings.next)) (sym none)
          (own_push s.settings.filled s.settings.next s.packages.items c.self.invariant (k, v) w.place_of-at.result at)))
    ] in
    subst (λ r. IsRanked r put.new.self.next i.packages.items) (sym put.ensures.filled)
    (subst (λ n. IsRanked (filled_put (lookup (selector_eq k) (entries i.settings)) (selector_eq k) i.settings k v) n i.packages.items) (sym put.ensures.next) kept)

same : (c : goal.After-put) → c.match-serial_of.self-inside.settings ≡ c.self.inside.settings
same c = elim c.match-serial_of.branch [
  | in-Some w ↦ ap (λ x. x.settings) w.self-inside-is
  | in-None+in-Ok w ↦ ap (λ x. x.settings) w.self-inside-is
]

pub returns-clause-next : goal.returns-clause-next
returns-clause-next c =
    let i = c.match-serial_of.self-inside in
    omega (arith, c.put.ensures.next, next_most (lookup (selector_eq c.args.setting.selector) (entries i.settings)) i.settings, ap (λ o. o.next) (same c), ap (λ v. v.next) c.self.view_is)

pub returns-clause-fresh : goal.returns-clause-fresh
returns-clause-fresh c = λ fresh.
    let i = c.match-serial_of.self-inside in
    let k = c.args.setting.selector in
    let v = to_z w16 (of_z w16 c.args.setting.priority) in
    let many = ap (λ v. v.next) c.self.view_is ∙ fresh ∙ ap (λ v. length v.pins) (sym c.self.view_is) in
    c.put.ensures.next ∙ put_fresh selector_eq k v i.settings (ap (λ o. o.next) (same c) ∙ many ∙ ap (λ o. length (entries o)) (sym (same c))) ∙ ap (λ es. length es) (sym c.put.ensures.entries)
