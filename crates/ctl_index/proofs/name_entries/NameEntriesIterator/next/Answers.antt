use Rattle.std.proofs.Common.{rules, ◌≡◌, ◌∙◌, ℕ, [], ◌∷◌, map, Bor, Vec, Global, length, ap, sym}
use Rattle.std.proofs.lemmas.Bool.{true≢false}
use Rattle.ctl_index.specs.Inside.NameMap.{merged, left_short, left_long, long_entry}
use Rattle.ctl_index.specs.declared.named.Named.{Named}
use Rattle.ctl_index.proofs.MergedLemmas.{left_behind, takes_short, takes_long, takes_only_long, none_merged}
use Rattle.ctl_index.proofs.name_entries.NameEntriesIterator.next.Goals as goal
use Rattle.ctl_index.proofs.name_entries.NameEntriesIterator.next.Goals.{in_default-via-in-Some+else-is_before, in_default-via-in_default}

pub returns-in-Some-clause-steps : goal.returns-in-Some-clause-steps
returns-in-Some-clause-steps c =
    let inside = c.self.inside in
    sym c.self.view_is ∙ ap (λ n. merged (left_short n inside.short) (left_long inside.next_long inside.long)) c.in-Some.is
    ∙ takes_short (c.in-Some.short, c.in-Some.boxed) inside.short inside.next_long inside.long c.is_before.result c.is_before.ensures c.if-is_before.true
    ∙ (λ i. (sym c.as_slice.ensures.bytes i, sym c.get.ensures i) ∷ merged (sym c.next_of-self-inside.ensures i) (left_long inside.next_long inside.long))

pub returns-in-Some-clause-goes : goal.returns-in-Some-clause-goes
returns-in-Some-clause-goes c = let shorter = ap length (returns-in-Some-clause-steps c) in search rules

pub returns-in_ok-long-in_default-clause-steps : goal.returns-in_ok-long-in_default-clause-steps
returns-in_ok-long-in_default-clause-steps c =
    let inside = c.self.inside in
    let long : Bor (Vec ℕ Global) × Bor Named = (c.in_ok-long-in_default.long, c.in_ok-long-in_default.boxed) in
    let behind = left_behind c.next-self-inside.result inside.long c.next-self-inside.new.self c.next-self-inside.ensures.steps in
    let taken : merged (left_short inside.next_short inside.short) (left_long inside.next_long inside.long)
    ≡ (long.0.now.items, long.1.now) ∷ merged (left_short inside.next_short inside.short) (map long_entry inside.long) =
    elim c.in_default.branch [
      | in_default-via-in-Some+else-is_before w ↦
          let told = rw c.in_ok-long-in_default.was at w.is_before.ensures in
          rw (c.in_ok-long-in_default.was, w.in-Some.is)
          (takes_long (w.in-Some.short, w.in-Some.boxed) inside.short long inside.long w.is_before.result told w.if-is_before.false)
      | in_default-via-in_default w ↦ rw (c.in_ok-long-in_default.was, w.in_default.is) (takes_only_long inside.short long inside.long)
    ] in
    sym c.self.view_is ∙ taken
    ∙ (λ i. (sym c.as_slice-in_default.ensures.value i, sym c.get-in_default.ensures i) ∷ merged (left_short inside.next_short inside.short) (sym behind i))

pub returns-in_ok-long-in_default-clause-goes : goal.returns-in_ok-long-in_default-clause-goes
returns-in_ok-long-in_default-clause-goes c = let shorter = ap length (returns-in_ok-long-in_default-clause-steps c) in search rules

-- where no long name is left, the short one would have come first
pub returns-in_err-long-in_default-clause-steps : goal.returns-in_err-long-in_default-clause-steps
returns-in_err-long-in_default-clause-steps c =
    let inside = c.self.inside in
    let none : merged (left_short inside.next_short inside.short) (left_long inside.next_long inside.long) ≡ [] =
    elim c.in_default.branch [
      | in_default-via-in-Some+else-is_before w ↦ absurd (true≢false (sym (rw c.in_err-long-in_default.was at w.is_before.ensures) ∙ w.if-is_before.false))
      | in_default-via-in_default w ↦ rw (c.in_err-long-in_default.was, w.in_default.is) (none_merged [])
    ] in
    rw c.from_residual.ensures (sym c.self.view_is ∙ none, sym c.self.view_is ∙ none)
