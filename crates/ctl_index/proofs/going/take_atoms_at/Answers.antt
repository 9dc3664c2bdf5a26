use Rattle.std.proofs.Common.{◌&&◌, true, false, cond, None, is_some, ap, refl, ◌∙◌, ◌≡◌, Bool}
use Rattle.ctl_store.specs.Keys.{key_is}
use Rattle.ctl_index.specs.Inside.TablesHeld.{number_in}
use Rattle.ctl_index.proofs.going.take_atoms_at.Goals as goal

and_true : (b : Bool) → b ≡ b && true
and_true true = refl
and_true false = refl

pub returns-in-Some-clause-counts : goal.returns-in-Some-clause-counts
returns-in-Some-clause-counts c = λ k.
    let key = c.args.key in
    let old = number_in c.args.tables.now k in
    c.remove.ensures k ∙ (λ i. cond (key_is k.stanza key) None (c.take_fields.ensures.counts i k)) ∙ ap (λ b. cond b None old) (and_true (key_is k.stanza key))
    ∙ ap (λ o. cond (key_is k.stanza key && is_some o) None old) c.in-Some.ensures
