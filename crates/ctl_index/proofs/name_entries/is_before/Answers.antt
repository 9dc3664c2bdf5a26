use Rattle.std.proofs.Common.{◌≡◌, ◌∙◌, refl, ap}
use Rattle.std.specs.Cmp.Lexicographic.{slice_cmp, lists_agrees}
use Rattle.std.specs.Ordering.{nat_cmp, is_lt, is_some_and}
use Rattle.ctl_index.proofs.name_entries.is_before.Goals as goal

pub returns-in-Some : goal.returns-in-Some
returns-in-Some c =
    let compared : c.lt.result ≡ is_lt (slice_cmp nat_cmp c.args.short.now c.in-Some.long.now.items) =
    c.lt.ensures ∙ ap (is_some_and is_lt) (lists_agrees (λ x y. refl) c.as_slice.result.now c.as_slice-in-Some.result.now)
    ∙ (λ i. is_lt (slice_cmp nat_cmp (c.as_slice.ensures.bytes i) (c.as_slice-in-Some.ensures.value i))) in
    rw c.in-Some.is compared
