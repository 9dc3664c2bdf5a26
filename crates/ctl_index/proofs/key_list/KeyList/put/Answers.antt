use Rattle.std.proofs.Common.{◌≡◌, ◌≤◌, true, false, List, length, ap, sym, subst, ◌∙◌}
use Rattle.std.specs.Prelude.{insert}
use Rattle.std.specs.List.Sorted.{IsPartitionPoint}
use Rattle.ctl_store.specs.declared.stanza_key.StanzaKey.{StanzaKey}
use Rattle.ctl_index.specs.Inside.TablesOrder.{InOrder, is_through, put_in_order}
use Rattle.ctl_index.proofs.ListLemmas.{put_at, order_put}
use Rattle.ctl_index.proofs.key_list.KeyList.put.Given as given
use Rattle.ctl_index.proofs.key_list.KeyList.put.Goals as goal

placed : (g : given.Over) (c : goal.In_ok-insert_exactly g) → insert c.self.inside.keys.items c.end_through-at.result c.args.key ≡ put_in_order g.K.OfStanza.stanza c.args.key c.self.inside.keys.items
placed g c =
    let at = c.end_through-at.result in
    put_at g.K.OfStanza.stanza c.args.key c.self.inside.keys.items at (subst (λ (ks : List g.row.K.Denot). at ≤ length ks) c.deref.ensures.value c.end_through-at.ensures.bound)
    (subst (λ (ks : List g.row.K.Denot). IsPartitionPoint (λ x. is_through g.K.OfStanza.stanza (g.K.OfStanza.stanza c.args.key) x ≡ true) (λ x. is_through g.K.OfStanza.stanza (g.K.OfStanza.stanza c.args.key) x ≡ false) ks at) c.deref.ensures.value (subst (λ (s : StanzaKey). IsPartitionPoint (λ x. is_through g.K.OfStanza.stanza s x ≡ true) (λ x. is_through g.K.OfStanza.stanza s x ≡ false) c.deref.result.now at) c.stanza.ensures c.end_through-at.ensures.point))

pub invariant_of-self-2 : goal.invariant_of-self-2
invariant_of-self-2 g c = subst (InOrder g.K.OfStanza.stanza) (sym (c.in_ok-insert_exactly.ensures.items ∙ placed g c)) (order_put g.K.OfStanza.stanza c.args.key c.self.inside.keys.items c.self.invariant)

pub returns-clause-ok : goal.returns-clause-ok
returns-clause-ok g c = c.in_ok-insert_exactly.ensures.items ∙ placed g c ∙ ap (put_in_order g.K.OfStanza.stanza c.args.key) c.self.view_is
