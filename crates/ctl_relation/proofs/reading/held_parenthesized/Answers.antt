use Rattle.std.proofs.Common.{◌≡◌, ℕ, List, Result, Ok, Err, IfOk, ap, sym, subst, ◌∙◌}
use Rattle.ctl_relation.specs.declared.field_kind.FieldKind.{FieldKind}
use Rattle.ctl_relation.specs.declared.operator.Operator.{Operator}
use Rattle.ctl_relation.specs.declared.relation_fault.RelationFault.{RelationFault}
use Rattle.ctl_relation.specs.FieldBytes.{is_whitespace}
use Rattle.ctl_relation.specs.Runs.{rest}
use Rattle.ctl_relation.specs.Reading.{◌>>=◌, operator_at, version_at, close_at, parenthesized_at}
use Rattle.ctl_relation.proofs.AtomAgain.{step}
use Rattle.ctl_relation.proofs.reading.held_parenthesized.Goals as goal

-- an operator and a version, and what follows them
abbrev Parenthesized : Type 0
Parenthesized = (Operator × List ℕ) × List ℕ

-- what was read, where nothing is at fault, is of this operator and version
abbrev IsOf : Operator → List ℕ → Result Parenthesized RelationFault → Type 0
IsOf o v read = IfOk read (λ x. x.0 ≡ (o, v))

-- what follows the version has no part in it
closed : (o : Operator) (x v : List ℕ) (after : Result (List ℕ) RelationFault) → x ≡ v → IsOf o v (after >>= λ after. Ok ((o, x), after))
closed o x v (Err e) h = tt
closed o x v (Ok after) h = ap (λ w. (o, w)) h

with_version : (o : Operator) (v : List ℕ) (version : Result (List ℕ × List ℕ) RelationFault) → IfOk version (λ x. x.0 ≡ v) → IsOf o v (version >>= λ version. (close_at (rest is_whitespace version.1) >>= λ after. Ok ((o, version.0), after)))
with_version o v (Err e) h = tt
with_version o v (Ok x) h = closed o x.0 v (close_at (rest is_whitespace x.1)) h

with_operator : (kind : FieldKind) (text : List ℕ) (o : Operator) (after v : List ℕ) → operator_at kind (rest is_whitespace text) ≡ Ok (o, after) → IfOk (version_at (rest is_whitespace after)) (λ x. x.0 ≡ v) → IsOf o v (parenthesized_at kind text)
unfolding parenthesized_at
with_operator kind text o after v e h =
    subst (IsOf o v) (sym (step (operator_at kind (rest is_whitespace text)) (λ op. version_at (rest is_whitespace op.1) >>= λ version. close_at (rest is_whitespace version.1) >>= λ after. Ok ((op.0, version.0), after)) (o, after) e))
    (with_version o v (version_at (rest is_whitespace after)) h)

pub returns-clause-gives : goal.returns-clause-gives
returns-clause-gives c =
    let P : List ℕ → Type 0 = λ text. IfOk (version_at text) (λ x. x.0 ≡ c.held_version.result.now) in
    with_operator c.args.kind c.args.text.now c.in-Ok.operator c.in-Ok.after.now c.held_version.result.now
    (ap (operator_at c.args.kind) (sym c.without_whitespace.ensures.rest) ∙ c.in-Ok.ensures.gives)
    (subst P c.without_whitespace-in-Ok.ensures.rest c.held_version.ensures.gives)
