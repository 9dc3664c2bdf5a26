use Rattle.std.proofs.Common.{rules, of_calls, ℕ}
use Rattle.std.proofs.lemmas.Fn.{always_returns_same}
use Rattle.ctl_index.specs.declared.stanza_numbers.ClausePlace.{ClausePlace}
use Rattle.ctl_index.specs.Inside.ClauseNumbers.{place_cmp}
use Rattle.ctl_relation.specs.declared.field_kind.FieldKind.TheVariants.{PreDepends}
use Rattle.ctl_index.proofs.PlaceLemmas.{found, not_found}
use Rattle.ctl_index.proofs.stanza_numbers.find.Goals as goal

pub returns-in-Ok-clause-some : goal.returns-in-Ok-clause-some
returns-in-Ok-clause-some c = found c.args.clauses.now c.requires c.args.place c.in-Ok.at (record { field = PreDepends; group = 0 }, 0) c.in-Ok.ensures.bound (c.in-Ok.ensures.position (λ (p : ClausePlace × ℕ). place_cmp p.0 c.args.place) (always_returns_same _ _ _ (λ a r f k. search (rules, of_calls))))

pub returns-in-Err-clause-none : goal.returns-in-Err-clause-none
returns-in-Err-clause-none c = not_found c.args.clauses.now c.requires c.args.place c.in-Err.field-0 (c.in-Err.ensures.position (λ (p : ClausePlace × ℕ). place_cmp p.0 c.args.place) (always_returns_same _ _ _ (λ a r f k. search (rules, of_calls))))
