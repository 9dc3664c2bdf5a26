-- One more of the names that were looked up, and of the atoms that are listed.
use Rattle.std.proofs.Common.{◌≡◌, ◌∙◌, ℕ, ◌+◌, ◌<◌, List, [], ◌∷◌, ◌++◌, length, get_or, take, flat_map, ap, sym, append-nil}
use Rattle.std.specs.List.{All}
use Rattle.std.proofs.lemmas.List.{map-append, take_more}
use Rattle.std.proofs.lemmas.List.Elements.{All-append, All-from_recursion}
use Rattle.std.proofs.lemmas.Grind.{flat_map-append}
use Rattle.ctl_store.specs.Store.{Held}
use Rattle.ctl_policy.specs.Priority.{World}
use Rattle.ctl_query.specs.declared.asking.AskedName.{AskedName}
use Rattle.ctl_query.specs.Inside.AskedNames.{IsLookedUp, names_asked}
use Rattle.ctl_query.specs.ShowPackage.{show_package_one, show_package_text}
use Rattle.ctl_query.specs.Texts.{if_known}

-- what is written of one more
pub written_more : {A : Type 0} (f : A → List ℕ) (xs : List A) (i : ℕ) (x : A) → i < length xs → x ≡ get_or xs i x → flat_map f (take (i + 1) xs) ≡ flat_map f (take i xs) ++ f x
written_more f xs i x l is =
    ap (flat_map f) (take_more xs i x l)
    ∙ flat_map-append f (take i xs) (get_or xs i x ∷ [])
    ∙ ap (λ t. flat_map f (take i xs) ++ t) (append-nil (f (get_or xs i x)) ∙ ap f (sym is))

-- the answer on one name more
pub answers_more : (world : World) (asked : List AskedName) (i : ℕ) (one : AskedName) → i < length asked → one ≡ get_or asked i one →
    show_package_text world (names_asked (take (i + 1) asked)) ≡ show_package_text world (names_asked (take i asked)) ++ if_known world (show_package_one world) one.name.now
answers_more world asked i one l is =
    ap (λ xs. show_package_text world (names_asked xs)) (take_more asked i one l ∙ ap (λ (x : AskedName). take i asked ++ x ∷ []) (sym is))
    ∙ ap (show_package_text world) (map-append (λ (x : AskedName). x.name.now) (take i asked) (one ∷ []))
    ∙ flat_map-append (if_known world (show_package_one world)) (names_asked (take i asked)) (one.name.now ∷ [])
    ∙ ap (λ t. show_package_text world (names_asked (take i asked)) ++ t) (append-nil (if_known world (show_package_one world) one.name.now))

-- the name of one more
pub names_more : (asked : List AskedName) (one : AskedName) → names_asked (asked ++ one ∷ []) ≡ names_asked asked ++ one.name.now ∷ []
names_more asked one = map-append (λ (x : AskedName). x.name.now) asked (one ∷ [])

-- and it was looked up as the others
pub looked_up_more : (store : Held) (asked : List AskedName) (one : AskedName) → All (IsLookedUp store) asked → IsLookedUp store one → All (IsLookedUp store) (asked ++ one ∷ [])
looked_up_more store asked one all is = All-append (IsLookedUp store) asked (one ∷ []) all (All-from_recursion (IsLookedUp store) (one ∷ []) (is, tt))
