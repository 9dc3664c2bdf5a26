-- What stands under a name once it was chosen anew.
use Rattle.std.proofs.Common.{◌≡◌, ◌∷◌, ℕ, Bool, true, false, cond, not, nat_eq, ◌&&◌, length, List, [], Option, None, Some, option_map, is_some, ◌||◌, map, refl, ap, sym, ◌∙◌}
use Rattle.std.specs.FinMap as fin
use Rattle.std.specs.List.{list_any}
use Rattle.std.specs.Option.{option_map_or}
use Rattle.std.proofs.lemmas.Bool.{true≢false}
use Rattle.ctl_store.specs.Store.{Held}
use Rattle.ctl_policy.specs.Chosen.{choice_in, no_choice}
use Rattle.ctl_policy.specs.Priority.{world_of}
use Rattle.ctl_policy.specs.Rows.{Row, Rows, has_list, is_any_row, is_of_list, keys_of_row, newest_first}
use Rattle.ctl_index.specs.Inside.TablesByName.{NameMap, AreUsed, at_name, chosen_under, is_bare, is_used, named_namers, named_offers, named_own, no_rows, rows_under}
use Rattle.ctl_index.specs.Inside.TablesChosen.{AreRenewed, HasSameRows, are_asked, chosen_anew}
use Rattle.ctl_index.specs.declared.named.Named.{Named}
use Rattle.ctl_index.proofs.NameLemmas.{bare_rows, chosen_of, rows_of_own}
use Rattle.ctl_index.proofs.RowLemmas.{any_row}

module _ (h : Held) (list : Option ℕ) (q : List ℕ) where
  same_offers : (o : Option Named) → option_map_or named_offers (option_map (chosen_anew h list q) o) [] ≡ option_map_or named_offers o []
  same_offers None = refl
  same_offers (Some v) = by (are_asked list v.own.rows)
    where
      by : (b : Bool) → named_offers (cond b (record { offers = v.offers; namers = v.namers; own = record { rows = v.own.rows; chosen = choice_in q (world_of h) } }) v) ≡ v.offers
      by true = refl
      by false = refl

  same_namers : (o : Option Named) → option_map_or named_namers (option_map (chosen_anew h list q) o) [] ≡ option_map_or named_namers o []
  same_namers None = refl
  same_namers (Some v) = by (are_asked list v.own.rows)
    where
      by : (b : Bool) → named_namers (cond b (record { offers = v.offers; namers = v.namers; own = record { rows = v.own.rows; chosen = choice_in q (world_of h) } }) v) ≡ v.namers
      by true = refl
      by false = refl

  same_own_rows : (o : Option Named) → rows_of_own (option_map_or named_own (option_map (chosen_anew h list q) o) no_rows) ≡ rows_of_own (option_map_or named_own o no_rows)
  same_own_rows None = refl
  same_own_rows (Some v) = by (are_asked list v.own.rows)
    where
      by : (b : Bool) → rows_of_own (named_own (cond b (record { offers = v.offers; namers = v.namers; own = record { rows = v.own.rows; chosen = choice_in q (world_of h) } }) v)) ≡ v.own.rows
      by true = refl
      by false = refl

  -- of a name that isn't there nothing is chosen, nor by the policy
  anew : (o : Option Named) → (o ≡ None → choice_in q (world_of h) ≡ no_choice)
      → chosen_of (option_map_or named_own (option_map (chosen_anew h list q) o) no_rows) ≡ cond (are_asked list (rows_of_own (option_map_or named_own o no_rows))) (choice_in q (world_of h)) (chosen_of (option_map_or named_own o no_rows))
  anew None none = by (are_asked list fin.empty)
    where
      by : (b : Bool) → no_choice ≡ cond b (choice_in q (world_of h)) no_choice
      by true = sym (none refl)
      by false = refl
  anew (Some v) none = by (are_asked list v.own.rows)
    where
      by : (b : Bool) → chosen_of (named_own (cond b (record { offers = v.offers; namers = v.namers; own = record { rows = v.own.rows; chosen = choice_in q (world_of h) } }) v)) ≡ cond b (choice_in q (world_of h)) v.own.chosen
      by true = refl
      by false = refl

  -- rows with a stanza of a list are some
  listed : (serial : ℕ) (r : Rows) → has_list serial r ≡ true → nat_eq (fin.len r) 0 ≡ false
  listed serial r has = by (newest_first r) refl (nat_eq (fin.len r) 0) refl
    where
      by : (rows : List Row) → newest_first r ≡ rows → (b : Bool) → nat_eq (fin.len r) 0 ≡ b → b ≡ false
      by [] e b is = absurd (true≢false (sym has ∙ ap (λ (rows : List Row). list_any (λ keys. list_any (is_of_list serial) keys) (map keys_of_row rows)) e))
      by (row ∷ rows) e true is = sym (sym (ap not is) ∙ any_row r ∙ ap is_any_row e)
      by (row ∷ rows) e false is = refl

  -- what is used still is
  used_anew : (v : Named) → is_used v ≡ true → (list ≡ None → v.own.chosen ≡ no_choice) → is_used (chosen_anew h list q v) ≡ true
  used_anew v used none = by (are_asked list v.own.rows) refl
    where
      w : Named
      w = record { offers = v.offers; namers = v.namers; own = record { rows = v.own.rows; chosen = choice_in q (world_of h) } }

      beside : Bool
      beside = nat_eq (length (named_offers v)) 0 && nat_eq (length (named_namers v)) 0

      never : (b : Bool) → not (b && false) ≡ true
      never true = refl
      never false = refl

      some : nat_eq (fin.len v.own.rows) 0 ≡ false → is_used w ≡ true
      some len = ap (λ z. not (beside && z)) (bare_rows (named_own w) len) ∙ never beside

      all : (b z : Bool) → not (b && z) ≡ true → (z ≡ true → is_used w ≡ not (b && true)) → z ≡ true → is_used w ≡ true
      all b true e same is = same refl ∙ e
      all b false e same is = absurd (true≢false (sym is))

      by : (b : Bool) → are_asked list v.own.rows ≡ b → is_used (cond b w v) ≡ true
      by false asked = used
      by true asked = of list refl asked
        where
          of : (l : Option ℕ) → list ≡ l → are_asked l v.own.rows ≡ true → is_used w ≡ true
          of (Some serial) is has = some (listed serial v.own.rows has)
          of None is any = len (nat_eq (fin.len v.own.rows) 0) refl
            where
              bare : is_bare (named_own v) ≡ nat_eq (fin.len v.own.rows) 0
              bare = ap (λ c. nat_eq (fin.len v.own.rows) 0 && not (is_some c.installed || is_some c.candidate)) (none is) ∙ and_true (nat_eq (fin.len v.own.rows) 0)
                where
                  and_true : (b : Bool) → (b && true) ≡ b
                  and_true true = refl
                  and_true false = refl

              len : (b : Bool) → nat_eq (fin.len v.own.rows) 0 ≡ b → is_used w ≡ true
              len false e = some e
              len true e = beside_used beside refl (sym used ∙ ap (λ z. not (beside && z)) (bare ∙ e))
                where
                  beside_used : (b : Bool) → beside ≡ b → true ≡ not (beside && true) → is_used w ≡ true
                  beside_used true is' u = absurd (true≢false (u ∙ ap (λ b. not (b && true)) is'))
                  beside_used false is' u = ap (λ b. not (b && is_bare (named_own w))) is'

module _ (h : Held) (list : Option ℕ) (m n : NameMap) (are : (q : List ℕ) → at_name n q ≡ option_map (chosen_anew h list q) (at_name m q)) where
  pub same_but_chosen : HasSameRows m n
  same_but_chosen = record {
    offers = λ i q. (ap (λ o. option_map_or named_offers o []) (are q) ∙ same_offers h list q (at_name m q)) i;
    namers = λ i q. (ap (λ o. option_map_or named_namers o []) (are q) ∙ same_namers h list q (at_name m q)) i;
    rows = λ i q. (ap (λ o. rows_of_own (option_map_or named_own o no_rows)) (are q) ∙ same_own_rows h list q (at_name m q)) i;
  }

  pub renewed : ((q : List ℕ) → at_name m q ≡ None → choice_in q (world_of h) ≡ no_choice) → AreRenewed (λ q. are_asked list (rows_under m q)) (world_of h) (chosen_under m) (chosen_under n)
  renewed none q = ap (λ o. chosen_of (option_map_or named_own o no_rows)) (are q) ∙ anew h list q (at_name m q) (none q)

  pub still_used : AreUsed m → (list ≡ None → (q : List ℕ) → chosen_under m q ≡ no_choice) → AreUsed n
  still_used used none q = ap (λ o. option_map_or is_used o true) (are q) ∙ by (at_name m q) refl
    where
      by : (o : Option Named) → at_name m q ≡ o → option_map_or is_used (option_map (chosen_anew h list q) o) true ≡ true
      by None e = refl
      by (Some v) e =
          used_anew h list q v (sym (ap (λ o. option_map_or is_used o true) e) ∙ used q) (λ is. sym (ap (λ o. chosen_of (option_map_or named_own o no_rows)) e) ∙ none is q)
