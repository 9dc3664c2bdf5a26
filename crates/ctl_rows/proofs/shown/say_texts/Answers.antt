use Rattle.std.proofs.Common.{◌∷◌, sym, subst}
use Rattle.ctl_store.specs.Keys.{AreHeld}
use Rattle.ctl_store.specs.Store.{keyed_of}
use Rattle.ctl_rows.proofs.shown.say_texts.Goals as goal

pub loop-key-init : goal.loop-key-init
loop-key-init c = subst (λ ks. AreHeld ks (keyed_of c.args.store.now).lists) (sym c.into_iter-key-iterator.ensures.into_iter_gives) c.stanzas-key-items.ensures.held

pub stanza-requires : goal.stanza-requires
stanza-requires c =
    let held : AreHeld (c.in-Some.key ∷ c.next.new.self) (keyed_of c.args.store.now).lists = subst (λ ks. AreHeld ks (keyed_of c.args.store.now).lists) c.in-Some.ensures.steps c.loop-key.invariant in
    held.0

pub loop-key-preserved : goal.loop-key-preserved
loop-key-preserved c =
    let held : AreHeld (c.in-Some.key ∷ c.next.new.self) (keyed_of c.args.store.now).lists = subst (λ ks. AreHeld ks (keyed_of c.args.store.now).lists) c.in-Some.ensures.steps c.loop-key.invariant in
    held.1
