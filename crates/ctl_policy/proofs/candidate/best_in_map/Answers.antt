use Rattle.std.proofs.Common.{◌≡◌, ℕ, List, [], ◌∷◌, map, reverse, option_map, option_copied, sym, subst, ◌∙◌, Vec, Global, arith}
use Rattle.std.proofs.lemmas.Int.{to_z-of_z}
use Rattle.ctl_relation.specs.Version.{triple_of}
use Rattle.ctl_store.specs.declared.stanza_key.StanzaKey.{StanzaKey}
use Rattle.ctl_store.specs.Keys.{AreHeld}
use Rattle.ctl_store.specs.Store.{keyed_of}
use Rattle.ctl_policy.specs.Priority.{world_of, row_priority}
use Rattle.ctl_policy.specs.Inside.HeldRows.{shown_row}
use Rattle.ctl_policy.specs.Inside.HeldWalk.{AreHeldIn, considered_row}
use Rattle.ctl_policy.proofs.ChosenLemmas.{all_before, best_carried, considered_last, settled}
use Rattle.ctl_policy.proofs.BoundLemmas.{rows_within}
use Rattle.ctl_policy.proofs.candidate.best_in_map.Goals as goal

pub rows-preserved : goal.rows-preserved
rows-preserved c =
    let lists = (keyed_of c.args.store.now).lists in
    let priority = row_priority c.args.name.now (world_of c.args.store.now) in
    let installed = option_map triple_of (option_copied c.args.installed) in
    let left = c.next_back.new.self in
    let e : List ℕ × Vec StanzaKey Global = (c.in-Some.version.now, c.in-Some.keys.now) in
    let held : List (List ℕ × Vec StanzaKey Global) → Type 0 = AreHeldIn lists in
    let steps = c.in-Some.ensures.steps in
    let row : c.considered-choice.result ≡ considered_row priority installed c.rows.choice (shown_row e)
    = grind (arith, to_z-of_z, c.considered-choice.ensures, c.copied.ensures, c.first.ensures.value, c.deref.ensures.value, c.deref-in-Some.ensures.value, c.priority_where-priority.ensures.priority) in
    record {
      held = all_before (λ (e : List ℕ × Vec StanzaKey Global). AreHeld e.1.items lists) left (e ∷ []) (subst held steps c.rows.invariant.held);
      known = c.priority_where-priority.ensures.known;
      same = considered_last priority installed c.rows.choice c.considered-choice.result c.rows.left left e row steps ∙ c.rows.invariant.same;
    }

-- no older row may win, so the choice is that of all
pub returns-then-not-may_win : goal.returns-then-not-may_win
returns-then-not-may_win c =
    let priority = row_priority c.args.name.now (world_of c.args.store.now) in
    let installed = option_map triple_of (option_copied c.args.installed) in
    let left = c.next_back.new.self in
    let e : List ℕ × Vec StanzaKey Global = (c.in-Some.version.now, c.in-Some.keys.now) in
    let bound = c.bound_of_rows-bound in
    let choice = c.considered-choice.result in
    let row : choice ≡ considered_row priority installed c.rows.choice (shown_row e)
    = grind (arith, to_z-of_z, c.considered-choice.ensures, c.copied.ensures, c.first.ensures.value, c.deref.ensures.value, c.deref-in-Some.ensures.value, c.priority_where-priority.ensures.priority) in
    sym (settled priority installed bound.result choice (reverse (map shown_row left))
    (rows_within c.args.store.now c.args.name.now c.is_pinned-pinned.result bound.result c.is_pinned-pinned.ensures bound.ensures.pinned bound.ensures.bound)
    (sym c.may_win.ensures ∙ c.if-not-may_win.true))
    ∙ considered_last priority installed c.rows.choice choice c.rows.left left e row c.in-Some.ensures.steps
    ∙ c.rows.invariant.same
    ∙ best_carried priority installed (reverse (map shown_row c.args.rows.now.entries))
