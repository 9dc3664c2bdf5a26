use Rattle.std.proofs.Common.{◌≡◌, ◌∙◌, ap, sym, subst, arith}
use Rattle.ctl_ordered.specs.Ordered.{cut_filled}
use Rattle.ctl_ordered.proofs.QueueLemmas.{taken}
use Rattle.ctl_store.specs.Pins.{selector_eq}
use Rattle.ctl_store.specs.Inside.HeldPins.{own_below, IsRanked}
use Rattle.ctl_store.proofs.OwnLemmas.{own_within, own_cut, own_none}
use Rattle.ctl_store.proofs.pin_table.PinTable.remove.Goals.{in-Some, in-None}
use Rattle.ctl_store.proofs.pin_table.PinTable.remove.Goals as goal

pub invariant_of-self : goal.invariant_of-self
invariant_of-self c =
    let s = c.self.inside in
    let k = c.args.selector.now in
    let i = c.match-serial_of.self-inside in
    let cut = c.remove-2 in
    let kept : IsRanked (cut_filled (selector_eq k) i.settings.filled) i.settings.next i.packages.items = elim c.match-serial_of.branch [
      | in-Some w ↦
          let at = w.place_of-at.ensures.place ∙ ap (λ p. own_below (p, w.in-Some.serial) s.settings.filled) w.package.ensures in
          subst (λ x. IsRanked (cut_filled (selector_eq k) x.settings.filled) x.settings.next x.packages.items) (sym w.self-inside-is)
          (subst (λ l. IsRanked (cut_filled (selector_eq k) s.settings.filled) s.settings.next l) (sym (taken s.packages w.place_of-at.result w.remove.new.self w.remove.result (omega (arith, at, own_within s.settings.filled s.settings.next s.packages.items c.self.invariant k w.in-Some.serial (sym w.in-Some.ensures))) w.remove.ensures.variant w.remove.ensures.items))
          (own_cut s.settings.filled s.settings.next s.packages.items c.self.invariant k w.in-Some.serial (sym w.in-Some.ensures) w.place_of-at.result at))
      | in-None w ↦
          subst (λ x. IsRanked (cut_filled (selector_eq k) x.settings.filled) x.settings.next x.packages.items) (sym w.self-inside-is)
          (own_none s.settings.filled s.settings.next s.packages.items c.self.invariant k (sym w.in-None.ensures))
    ] in
    subst (λ r. IsRanked r cut.new.self.next i.packages.items) (sym cut.ensures.filled)
    (subst (λ n. IsRanked (cut_filled (selector_eq k) i.settings.filled) n i.packages.items) (sym cut.ensures.next) kept)

pub returns-clause-next : goal.returns-clause-next
returns-clause-next c =
    let s = c.self.inside in
    let i = c.match-serial_of.self-inside in
    let same : i.settings ≡ s.settings = elim c.match-serial_of.branch [
      | in-Some w ↦ ap (λ x. x.settings) w.self-inside-is
      | in-None w ↦ ap (λ x. x.settings) w.self-inside-is
    ] in
    c.remove-2.ensures.next ∙ ap (λ o. o.next) same ∙ ap (λ v. v.next) c.self.view_is
