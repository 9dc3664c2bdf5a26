use Rattle.std.proofs.Common.{◌∙◌, ap, sym, subst, IfSome}
use Rattle.std.specs.Str.{bytes_eq}
use Rattle.ctl_ordered.specs.Ordered.{entries}
use Rattle.ctl_ordered.proofs.SlotLemmas.{from_lent}
use Rattle.ctl_store.specs.Named.{at_name}
use Rattle.ctl_store.specs.Keys.{KeyedList}
use Rattle.ctl_store.specs.Store.{lists_of}
use Rattle.ctl_store.specs.Plans.{HasRoomInList}
use Rattle.ctl_store.specs.Inside.Sound.{AreNumbered}
use Rattle.ctl_store.proofs.ListedLemmas.{at_name-set_named, set_named-same, on_ok_map, numbered_set}
use Rattle.ctl_store.proofs.lists.reserve_in.Goals as goal

pub returns-in-Some : goal.returns-in-Some
returns-in-Some c =
    let at = c.in-Some.ensures.value in
    let old = c.args.lists.now in
    let list = c.args.list.now in
    let v = c.in-Some.listed.now in
    let w = c.reserve_one.new.self in
    let has = from_lent c.get_mut.result v (c.get_mut.ensures.value ∙ sym at) (c.get_mut.follows.holds w) in
    let found = ap (at_name list) has.entries ∙ at_name-set_named list v w (entries old) at in
    record {
      lists = ap lists_of has.entries ∙ set_named-same list (entries old) v w at c.reserve_one.ensures.same;
      ok = on_ok_map c.reserve_one.result (λ room. subst (λ o. IfSome o HasRoomInList) (sym found) room) c.reserve_one.ensures.ok;
      numbered = λ h. subst AreNumbered (sym has.filled) (numbered_set (bytes_eq list) old.filled v w at (ap (λ (l : KeyedList). l.serial) c.reserve_one.ensures.same) h);
      next = has.next;
    }

pub returns-in-None : goal.returns-in-None
returns-in-None c =
    let none = c.get_mut.follows.holds-at-none in
    record {
      lists = ap (λ l. lists_of (entries l)) none;
      ok = subst (λ o. IfSome o HasRoomInList) (c.in-None.ensures.value ∙ ap (λ l. at_name c.args.list.now (entries l)) (sym none)) tt;
      numbered = λ h. subst (λ l. AreNumbered l.filled) (sym none) h;
      next = ap (λ l. l.next) none;
    }
