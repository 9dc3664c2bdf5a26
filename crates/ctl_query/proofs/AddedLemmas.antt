-- Lists that are added one after another, and numbers that are 0.
use Rattle.std.proofs.Common.{◌≡◌, ◌∙◌, ℕ, suc, ◌+◌, true, nat_eq, List, [], ◌∷◌, ◌++◌, fold, sym, ap, arith, append-nil, append_assoc}
use Rattle.std.proofs.lemmas.Bool.Decides.{nat_tests}
use Rattle.ctl_store.specs.Keys.{Keyed, list_of_stanzas}
use Rattle.ctl_store.specs.State.{StanzaList}
use Rattle.ctl_query.specs.Anew.{lists_anew, added}

pub zero_is : (n : ℕ) → nat_eq n 0 ≡ true → n ≡ 0
zero_is n h = grind (arith, nat_tests)

pub is_zero : (n : ℕ) → n ≡ 0 → nat_eq n 0 ≡ true
is_zero n h = grind (arith, nat_tests)

next : (n : ℕ) → n + 1 ≡ suc n
next n = omega arith

-- behind the lists that are there
pub added_behind : (keyed : Keyed) (lists : List (List ℕ × StanzaList)) → (fold added keyed lists).lists ≡ keyed.lists ++ lists_anew keyed.next_list lists
added_behind keyed [] = sym (append-nil keyed.lists)
added_behind keyed (l ∷ ls) =
    added_behind (added keyed l) ls
    ∙ ap (λ n. (keyed.lists ++ (l.0, list_of_stanzas keyed.next_list l.1.kind l.1.class l.1.stanzas) ∷ []) ++ lists_anew n ls) (next keyed.next_list)
    ∙ append_assoc keyed.lists ((l.0, list_of_stanzas keyed.next_list l.1.kind l.1.class l.1.stanzas) ∷ []) (lists_anew (suc keyed.next_list) ls)
