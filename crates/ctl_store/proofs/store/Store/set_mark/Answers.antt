use Rattle.std.proofs.Common.{◌∙◌, ap, ◌+◌, arith}
use Rattle.std.specs.Map.{lookup}
use Rattle.std.specs.Str.{bytes_eq}
use Rattle.std.specs.FinMap as fin
use Rattle.ctl_ordered.specs.Ordered as ordered
use Rattle.ctl_store.specs.Edits.{Mark}
use Rattle.ctl_store.specs.Step.{after}
use Rattle.ctl_store.specs.Keys.{stanza_lists}
use Rattle.ctl_store.specs.Store.{lists_of, state_of, keyed_of}
use Rattle.ctl_store.proofs.ListedLemmas.{from_entries-put_named}
use Rattle.ctl_store.proofs.SoundLemmas.{next_most, sound_more}
use Rattle.ctl_store.proofs.store.Store.set_mark.Goals as goal

pub invariant_of-self : goal.invariant_of-self
invariant_of-self c =
    let s = c.self.inside in
    let most = next_most (lookup (bytes_eq c.args.name) (ordered.entries s.marks)) s.marks in
    sound_more c.self.invariant c.put.new.self.next s.pins.next (omega (arith, c.put.ensures.next, most, c.self.invariant.few_marks)) (omega (arith, c.self.invariant.few_pins))

pub returns : goal.returns
returns c =
    let s = c.self.inside in
    record {
      state =
          (λ j. record { lists = stanza_lists (lists_of (ordered.entries s.lists)); marks = (ap fin.from_entries c.put.ensures.entries ∙ from_entries-put_named c.args.name c.args.version (ordered.entries s.marks)) j; pins = s.pins.pins; target = s.target; edits = s.edits + 1 })
          ∙ ap (λ h. after (state_of h) (Mark c.args.name c.args.version)) c.self.view_is;
      keyed = ap keyed_of c.self.view_is;
      limits = ap (λ h. h.limits) c.self.view_is;
    }
