use Rattle.std.proofs.Common.{◌≡◌, ◌≤◌, true, false, List, not, length, ap, sym, subst, ◌∙◌, arith}
use Rattle.std.specs.List.Sorted.{IsPartitionPoint}
use Rattle.ctl_index.specs.Inside.TablesOrder.{InOrder, is_within, is_before, is_through, others}
use Rattle.ctl_index.proofs.ListLemmas.{cut_is, none_cut, order_left}
use Rattle.ctl_index.proofs.key_list.KeyList.take.Given as given
use Rattle.ctl_index.proofs.key_list.KeyList.take.Goals as goal

cut : (g : given.Over) (c : goal.After-drop-drain g) → c.drop-drain.new.self.0.items ≡ others g.K.OfStanza.stanza c.args.span c.self.inside.keys.items
cut g c =
    let xs = c.self.inside.keys.items in
    let i = c.end_before-start.result in
    let j = c.end_through-end.result in
    let starts = subst (λ (ks : List g.row.K.Denot). IsPartitionPoint (λ x. is_before g.K.OfStanza.stanza c.args.span.first x ≡ true) (λ x. is_before g.K.OfStanza.stanza c.args.span.first x ≡ false) ks i) c.deref.ensures.value c.end_before-start.ensures.point in
    let ends = subst (λ (ks : List g.row.K.Denot). IsPartitionPoint (λ x. is_through g.K.OfStanza.stanza c.args.span.last x ≡ true) (λ x. is_through g.K.OfStanza.stanza c.args.span.last x ≡ false) ks j) c.deref-2.ensures.value c.end_through-end.ensures.point in
    let within : j ≤ length xs = subst (λ (ks : List g.row.K.Denot). j ≤ length ks) c.deref-2.ensures.value c.end_through-end.ensures.bound in
    c.drop-drain.ensures.items ∙ c.drain.ensures.kept ∙ cut_is g.K.OfStanza.stanza c.args.span xs i j (omega arith) within starts ends

pub invariant_of-self : goal.invariant_of-self
invariant_of-self g c = subst (InOrder g.K.OfStanza.stanza) (sym (cut g c)) (order_left g.K.OfStanza.stanza (λ x. not (is_within c.args.span (g.K.OfStanza.stanza x))) c.self.inside.keys.items c.self.invariant)

pub returns-then-start-end : goal.returns-then-start-end
returns-then-start-end g c = cut g c ∙ ap (others g.K.OfStanza.stanza c.args.span) c.self.view_is

pub returns-else-start-end : goal.returns-else-start-end
returns-else-start-end g c =
    let xs = c.self.inside.keys.items in
    let i = c.end_before-start.result in
    let j = c.end_through-end.result in
    let starts = subst (λ (ks : List g.row.K.Denot). IsPartitionPoint (λ x. is_before g.K.OfStanza.stanza c.args.span.first x ≡ true) (λ x. is_before g.K.OfStanza.stanza c.args.span.first x ≡ false) ks i) c.deref.ensures.value c.end_before-start.ensures.point in
    let ends = subst (λ (ks : List g.row.K.Denot). IsPartitionPoint (λ x. is_through g.K.OfStanza.stanza c.args.span.last x ≡ true) (λ x. is_through g.K.OfStanza.stanza c.args.span.last x ≡ false) ks j) c.deref-2.ensures.value c.end_through-end.ensures.point in
    let within : i ≤ length xs = subst (λ (ks : List g.row.K.Denot). i ≤ length ks) c.deref.ensures.value c.end_before-start.ensures.bound in
    sym c.self.view_is ∙ none_cut g.K.OfStanza.stanza c.args.span xs i j c.if-start-end.false within starts ends ∙ ap (others g.K.OfStanza.stanza c.args.span) c.self.view_is
