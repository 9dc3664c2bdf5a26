use Rattle.std.proofs.Common.{◌≡◌, ◌<◌, ◌≤◌, ◌-◌, ◌∙◌, ◌||◌, ℕ, ap, sym, nat_lt, nat_le, true, false, arith}
use Rattle.std.proofs.lemmas.Bool.Decides.{nat_tests}
use Rattle.ctl_store.specs.State.{stanza_count}
use Rattle.ctl_store.specs.Edits.{edit_of}
use Rattle.ctl_store.specs.Step.{count_coming}
use Rattle.ctl_store.specs.Store.{state_of}
use Rattle.ctl_store.proofs.AcceptLemmas.{past_is}
use Rattle.ctl_store.proofs.store.Store.is_past.Goals as goal

below_is : (a b : ℕ) → a < b → nat_lt a b ≡ true
below_is a b l = grind (arith, nat_tests)

above_is : (a b : ℕ) → b ≤ a → nat_lt a b ≡ false
above_is a b l = grind (arith, nat_tests)

pub returns-then-count_coming-self : goal.returns-then-count_coming-self
returns-then-count_coming-self c =
    let s = c.self.inside in
    let h = c.args.self.now in
    let e = edit_of c.args.edit.now in
    let held = ap (λ h. stanza_count (state_of h).lists) c.self.view_is in
    let most = ap (λ h. h.limits.stanzas) c.self.view_is in
    let room : h.limits.stanzas - stanza_count (state_of h).lists < count_coming (state_of h) e = omega (arith, c.if-count_coming-self.true, c.count_coming.ensures, c.self.invariant.counted, held, most) in
    let first = below_is (h.limits.stanzas - stanza_count (state_of h).lists) (count_coming (state_of h) e) room in
    below_is (s.limits.stanzas - s.stanzas) c.count_coming.result c.if-count_coming-self.true
    ∙ sym (past_is h.limits (state_of h) e c.requires.fits (omega (arith, c.self.invariant.within, c.self.invariant.counted, held, most)) ∙ ap (λ b. b || nat_le h.limits.edits h.edits) first)

pub returns-else-count_coming-self : goal.returns-else-count_coming-self
returns-else-count_coming-self c =
    let s = c.self.inside in
    let h = c.args.self.now in
    let e = edit_of c.args.edit.now in
    let held = ap (λ h. stanza_count (state_of h).lists) c.self.view_is in
    let most = ap (λ h. h.limits.stanzas) c.self.view_is in
    let room : count_coming (state_of h) e ≤ h.limits.stanzas - stanza_count (state_of h).lists = omega (arith, c.if-count_coming-self.false, c.count_coming.ensures, c.self.invariant.counted, held, most) in
    let first = above_is (h.limits.stanzas - stanza_count (state_of h).lists) (count_coming (state_of h) e) room in
    ap (λ h. nat_le h.limits.edits h.edits) c.self.view_is
    ∙ sym (past_is h.limits (state_of h) e c.requires.fits (omega (arith, c.self.invariant.within, c.self.invariant.counted, held, most)) ∙ ap (λ b. b || nat_le h.limits.edits h.edits) first)
