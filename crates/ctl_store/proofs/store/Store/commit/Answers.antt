use Rattle.std.proofs.Common.{◌≡◌, ◌+◌, ap, subst, ◌∙◌}
use Rattle.ctl_store.specs.Keys.{Keyed, keyed_after, IsNotAmong, stanza_at, AreCome, AreGone}
use Rattle.ctl_store.specs.Entries.{IsChange}
use Rattle.ctl_store.specs.Given.{IsGivenOnce}
use Rattle.ctl_store.specs.Store.{keyed_of, lists_of}
use Rattle.ctl_store.specs.Inside.Sound.{InOrder}
use Rattle.ctl_store.proofs.ListedLemmas.{stays_law}
use Rattle.ctl_store.proofs.ChangeLemmas.{come_law, gone_law, not_added, moved}
use Rattle.ctl_store.proofs.EntryLemmas.{change_law}
use Rattle.ctl_store.proofs.FollowedLemmas.{given_law}
use Rattle.ctl_store.proofs.store.Store.commit.Goals as goal

-- the serials stood in order
order : (c : goal.After-drop-plan-inside) → InOrder 0 (keyed_of c.args.self.now).lists (keyed_of c.args.self.now).next_list (c.self.inside.limits.stanzas + c.self.inside.edits)
order c = subst (λ h. InOrder 0 (lists_of h.lists) h.next_list (c.self.inside.limits.stanzas + c.self.inside.edits)) c.self.view_is c.self.invariant.order

planned : (c : goal.After-drop-plan-inside) → keyed_of c.make.new.self ≡ keyed_after (keyed_of c.args.self.now) c.args.plan.edit
planned c = c.make.ensures.keyed ∙ ap (λ p. keyed_after (keyed_of c.args.self.now) p.edit) c.plan.view_is

pub returns-clause-stays : goal.returns-clause-stays
returns-clause-stays c = λ k held h.
    ap (λ (s : Keyed). stanza_at k s.lists) (planned c)
    ∙ stays_law k (keyed_of c.args.self.now) c.args.plan.edit (subst (IsNotAmong k) c.requires.removed h) (subst (IsNotAmong k) c.requires.added (not_added k c.args.plan.added c.args.plan.removed (keyed_of c.args.self.now).lists c.requires.comes held h))

pub returns-clause-comes : goal.returns-clause-comes
returns-clause-comes c = moved (λ t _ added. AreCome added c.args.plan.edit t.lists) (planned c) c.requires.removed c.requires.added (come_law (keyed_of c.args.self.now) _ (order c) c.args.plan.edit)

pub returns-clause-goes : goal.returns-clause-goes
returns-clause-goes c = moved (λ t removed added. AreGone removed added t.lists) (planned c) c.requires.removed c.requires.added (gone_law (keyed_of c.args.self.now) _ (order c) c.args.plan.edit)

pub returns-clause-change : goal.returns-clause-change
returns-clause-change c =
    let k = keyed_of c.args.self.now in
    moved (λ t removed added. IsChange k.lists t.lists removed added c.args.plan.edit) (planned c) c.requires.removed c.requires.added (change_law k _ (order c) c.args.plan.edit)

pub returns-clause-given : goal.returns-clause-given
returns-clause-given c = moved (IsGivenOnce (keyed_of c.args.self.now)) (planned c) c.requires.removed c.requires.added (given_law (keyed_of c.args.self.now) _ (order c) c.args.plan.edit)
