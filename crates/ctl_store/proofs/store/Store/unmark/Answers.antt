use Rattle.std.proofs.Common.{◌∙◌, ap, ◌+◌, arith}
use Rattle.ctl_ordered.specs.Ordered as ordered
use Rattle.ctl_store.specs.Named.{at_name}
use Rattle.ctl_store.specs.Edits.{Unmark}
use Rattle.ctl_store.specs.Step.{after}
use Rattle.ctl_store.specs.Keys.{stanza_lists}
use Rattle.ctl_store.specs.Store.{lists_of, state_of, keyed_of}
use Rattle.ctl_store.proofs.ListedLemmas.{from_entries-removed, at_name-without_name}
use Rattle.ctl_store.proofs.SoundLemmas.{sound_more}
use Rattle.ctl_store.proofs.store.Store.unmark.Goals as goal

pub invariant_of-self : goal.invariant_of-self
invariant_of-self c =
    let s = c.self.inside in
    sound_more c.self.invariant c.remove.new.self.next s.pins.next (omega (arith, c.remove.ensures.next, c.self.invariant.few_marks)) (omega (arith, c.self.invariant.few_pins))

pub returns : goal.returns
returns c =
    let s = c.self.inside in
    record {
      state =
          (λ j. record { lists = stanza_lists (lists_of (ordered.entries s.lists)); marks = (from_entries-removed c.args.name (ordered.entries s.marks) (ordered.entries c.remove.new.self) (λ q. ap (at_name q) c.remove.ensures.entries ∙ at_name-without_name c.args.name q (ordered.entries s.marks) c.remove.ensures.each_once)) j; pins = s.pins.pins; target = s.target; edits = s.edits + 1 })
          ∙ ap (λ h. after (state_of h) (Unmark c.args.name)) c.self.view_is;
      keyed = ap keyed_of c.self.view_is;
      limits = ap (λ h. h.limits) c.self.view_is;
    }
