use Rattle.std.proofs.Common.{rules, of_calls, ℕ}
use Rattle.std.proofs.lemmas.Fn.{always_returns_same}
use Rattle.ctl_store.specs.Keys.{key_cmp}
use Rattle.ctl_store.specs.declared.stanza_key.StanzaKey.{StanzaKey}
use Rattle.ctl_query.proofs.LeadTableLemmas.{found, not_found}
use Rattle.ctl_query.proofs.lead_table.place_under.Goals as goal

pub returns-in-Ok : goal.returns-in-Ok
returns-in-Ok c = found c.args.places.now c.requires c.args.key c.in-Ok.at _ c.in-Ok.ensures.bound (c.in-Ok.ensures.position (λ (p : StanzaKey × ℕ). key_cmp p.0 c.args.key) (always_returns_same _ _ _ (λ a r f k. search (rules, of_calls))))

pub returns-in-Err : goal.returns-in-Err
returns-in-Err c = not_found c.args.places.now c.requires c.args.key c.in-Err.field-0 (c.in-Err.ensures.position (λ (p : StanzaKey × ℕ). key_cmp p.0 c.args.key) (always_returns_same _ _ _ (λ a r f k. search (rules, of_calls))))
