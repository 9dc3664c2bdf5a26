use Rattle.std.proofs.Common.{◌∙◌, ap, sym, subst, Some}
use Rattle.std.specs.Str.{bytes_eq}
use Rattle.ctl_ordered.specs.Ordered.{entries}
use Rattle.ctl_ordered.proofs.SlotLemmas.{from_lent}
use Rattle.ctl_store.specs.Keys.{remove_keyed}
use Rattle.ctl_store.specs.Store.{lists_of}
use Rattle.ctl_store.specs.Inside.Sound.{AreNumbered}
use Rattle.ctl_store.proofs.ListedLemmas.{set_named-change, change_named-none, numbered_set}
use Rattle.ctl_store.proofs.lists.remove_in.Goals as goal

pub returns-in-Some : goal.returns-in-Some
returns-in-Some c =
    let at = c.in-Some.ensures.value in
    let old = c.args.lists.now in
    let list = c.args.list.now in
    let v = c.in-Some.listed.now in
    let w = c.remove.new.self in
    let has = from_lent c.get_mut.result v (c.get_mut.ensures.value ∙ sym at) (c.get_mut.follows.holds w) in
    record {
      lists =
          ap lists_of has.entries
          ∙ set_named-change list (remove_keyed c.args.name.now (Some c.args.version.now)) (entries old) v w at
          (λ j. record { serial = c.remove.ensures.serial j; kind = c.remove.ensures.kind j; class = c.remove.ensures.class j; next = c.remove.ensures.next j; slots = c.remove.ensures.slots j });
      numbered = λ h. subst AreNumbered (sym has.filled) (numbered_set (bytes_eq list) old.filled v w at c.remove.ensures.serial h);
      next = has.next;
    }

pub returns-in-None : goal.returns-in-None
returns-in-None c =
    let none = c.get_mut.follows.holds-at-none in
    record {
      lists = ap (λ l. lists_of (entries l)) none ∙ change_named-none c.args.list.now (remove_keyed c.args.name.now (Some c.args.version.now)) (entries c.args.lists.now) c.in-None.ensures.value;
      numbered = λ h. subst (λ l. AreNumbered l.filled) (sym none) h;
      next = ap (λ l. l.next) none;
    }
