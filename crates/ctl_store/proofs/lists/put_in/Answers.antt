use Rattle.std.proofs.Common.{◌∙◌, ap, sym, subst, IfSome, ◌<◌, ◌+◌}
use Rattle.std.specs.Str.{bytes_eq}
use Rattle.ctl_ordered.specs.Ordered.{entries}
use Rattle.ctl_ordered.proofs.SlotLemmas.{from_lent}
use Rattle.ctl_store.specs.Keys.{put_keyed}
use Rattle.ctl_store.specs.Store.{HeldList, lists_of}
use Rattle.ctl_store.specs.Plans.{HasRoomInList}
use Rattle.ctl_store.specs.Inside.Sound.{AreNumbered}
use Rattle.ctl_store.proofs.ListedLemmas.{set_named-change, change_named-none, numbered_set}
use Rattle.ctl_store.proofs.lists.put_in.Goals as goal

pub put-requires : goal.put-requires
put-requires c =
    let at = sym c.in-Some.ensures.value in
    record {
      room = subst (λ o. IfSome o HasRoomInList) at c.requires.room;
      below = subst (λ o. IfSome o (λ (s : HeldList). s.next + 1 < 18446744073709551616)) at c.requires.below;
    }

pub returns-in-Some : goal.returns-in-Some
returns-in-Some c =
    let at = c.in-Some.ensures.value in
    let old = c.args.lists.now in
    let list = c.args.list.now in
    let v = c.in-Some.listed.now in
    let w = c.put.new.self in
    let has = from_lent c.get_mut.result v (c.get_mut.ensures.value ∙ sym at) (c.get_mut.follows.holds w) in
    record {
      lists =
          ap lists_of has.entries
          ∙ set_named-change list (put_keyed c.args.stanza.value) (entries old) v w at
          (λ j. record { serial = c.put.ensures.serial j; kind = c.put.ensures.kind j; class = c.put.ensures.class j; next = c.put.ensures.next j; slots = c.put.ensures.slots j });
      numbered = λ h. subst AreNumbered (sym has.filled) (numbered_set (bytes_eq list) old.filled v w at c.put.ensures.serial h);
      next = has.next;
    }

pub returns-in-None : goal.returns-in-None
returns-in-None c =
    let none = c.get_mut.follows.holds-at-none in
    record {
      lists = ap (λ l. lists_of (entries l)) none ∙ change_named-none c.args.list.now (put_keyed c.args.stanza.value) (entries c.args.lists.now) c.in-None.ensures.value;
      numbered = λ h. subst (λ l. AreNumbered l.filled) (sym none) h;
      next = ap (λ l. l.next) none;
    }
