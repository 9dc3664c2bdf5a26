use Rattle.std.proofs.Common.{rules, ◌≡◌, ◌+◌, subst, sym}
use Rattle.ctl_store.specs.Edits.{edit_of}
use Rattle.ctl_store.specs.Keys.{keyed_after, AreComing, AreHeld, AreNew, removed_of, added_of}
use Rattle.ctl_store.specs.Entries.{IsChange}
use Rattle.ctl_store.proofs.EntryLemmas.{change_law, entries_found}
use Rattle.ctl_store.proofs.ChangeLemmas.{removed_held, new_law, moved}
use Rattle.ctl_store.specs.Followed.{coming_under, IsFollowed}
use Rattle.ctl_store.specs.Given.{IsGivenOnce}
use Rattle.ctl_store.specs.Store.{keyed_of, lists_of}
use Rattle.ctl_store.specs.Inside.Sound.{coming_among, InOrder}
use Rattle.ctl_store.proofs.KeyLemmas.{keys_rise}
use Rattle.ctl_store.proofs.FollowedLemmas.{comes_among, followed_law, given_law, added_come}
use Rattle.ctl_store.proofs.store.Store.prepare.Goals as goal

pub invariant_of-result : goal.invariant_of-result
invariant_of-result c = record {
  coming = subst (λ ks. AreComing ks (edit_of c.args.edit)) (sym c.in-Ok.ensures.added) (added_come (keyed_of c.args.self.now) (edit_of c.args.edit));
  among = λ k. subst (λ ks. coming_among (edit_of c.args.edit) ks k ≡ coming_under ks (edit_of c.args.edit) k) (sym c.in-Ok.ensures.added) (comes_among k (keyed_of c.args.self.now) (edit_of c.args.edit));
}

pub returns-in-Ok-clause-ready : goal.returns-in-Ok-clause-ready
returns-in-Ok-clause-ready c =
    let k = keyed_of c.args.self.now in
    let e = edit_of c.args.edit in
    let n = c.self.inside.limits.stanzas + c.self.inside.edits in
    let order = subst (λ h. InOrder 0 (lists_of h.lists) h.next_list n) c.self.view_is c.self.invariant.order in
    record {
      accepted = search rules;
      room = search rules;
      removed = search rules;
      added = search rules;
      goes = moved (λ t removed _. AreHeld removed t.lists) c.take_memory.ensures.keyed c.in-Ok.ensures.removed c.in-Ok.ensures.added (removed_held k e);
      comes = moved (λ t removed added. AreNew added removed t.lists) c.take_memory.ensures.keyed c.in-Ok.ensures.removed c.in-Ok.ensures.added (new_law k n order e);
    }

pub returns-in-Ok-clause-change : goal.returns-in-Ok-clause-change
returns-in-Ok-clause-change c =
    let e = edit_of c.args.edit in
    let n = c.self.inside.limits.stanzas + c.self.inside.edits in
    let order = subst (λ h. InOrder 0 (lists_of h.lists) h.next_list n) c.self.view_is c.self.invariant.order in
    moved (λ t removed added. IsChange t.lists (keyed_after t e).lists removed added e) c.take_memory.ensures.keyed c.in-Ok.ensures.removed c.in-Ok.ensures.added
    (change_law (keyed_of c.args.self.now) n order e)

pub returns-in-Ok-clause-followed : goal.returns-in-Ok-clause-followed
returns-in-Ok-clause-followed c =
    let k = keyed_of c.args.self.now in
    let e = edit_of c.args.edit in
    let n = c.self.inside.limits.stanzas + c.self.inside.edits in
    let order = subst (λ h. InOrder 0 (lists_of h.lists) h.next_list n) c.self.view_is c.self.invariant.order in
    moved (λ t removed added. IsFollowed t.lists (keyed_after t e).lists removed added e) c.take_memory.ensures.keyed c.in-Ok.ensures.removed c.in-Ok.ensures.added
    (followed_law k.lists (keyed_after k e).lists (removed_of k e) (added_of k e) e (keys_rise 0 k.lists k.next_list n order) (entries_found 0 k.lists k.next_list n order) (change_law k n order e))

pub returns-in-Ok-clause-given : goal.returns-in-Ok-clause-given
returns-in-Ok-clause-given c =
    let e = edit_of c.args.edit in
    let n = c.self.inside.limits.stanzas + c.self.inside.edits in
    let order = subst (λ h. InOrder 0 (lists_of h.lists) h.next_list n) c.self.view_is c.self.invariant.order in
    moved (λ t. IsGivenOnce t (keyed_after t e)) c.take_memory.ensures.keyed c.in-Ok.ensures.removed c.in-Ok.ensures.added (given_law (keyed_of c.args.self.now) n order e)
