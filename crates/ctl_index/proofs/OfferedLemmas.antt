-- A name with rows has an offer: that of a live stanza of its package. Of a name without rows nothing is chosen.
use Rattle.std.proofs.Common.{◌≡◌, ℕ, suc, arith, Bool, true, false, not, cond, is_some, nat_eq, ◌&&◌, ◌||◌, length, List, [], ◌∷◌, Option, None, Some, refl, ap, sym, ◌∙◌, unwrap_or}
use Rattle.std.specs.List.{list_any}
use Rattle.std.specs.Option.{option_map_or}
use Rattle.std.specs.Str.{bytes_eq}
use Rattle.std.specs.Cmp.Lexicographic.{nat_list_eq_equiv}
use Rattle.std.specs.FinMap as fin
use Rattle.std.proofs.lemmas.Bool.{true≢false}
use Rattle.std.proofs.lemmas.Bool.Decides.{nat_tests}
use Rattle.ctl_stanza.specs.Content.{Content, package_of, is_live, body_of}
use Rattle.ctl_stanza.specs.Fields.{version_name}
use Rattle.ctl_store.specs.declared.stanza_key.StanzaKey.{StanzaKey}
use Rattle.ctl_store.specs.Keys.{key_is}
use Rattle.ctl_store.specs.Entries.{Entry}
use Rattle.ctl_store.specs.Followed.{under}
use Rattle.ctl_store.specs.Store.{Held, keyed_of}
use Rattle.ctl_policy.specs.Keys.{has_key, or_none, some_keys}
use Rattle.ctl_policy.specs.declared.chosen.Chosen.{Chosen}
use Rattle.ctl_policy.specs.Chosen.{AreChosen, choice_in, no_choice}
use Rattle.ctl_policy.specs.Priority.{World, world_of}
use Rattle.ctl_policy.specs.Rows.{Lists, Rows, AreRowsOf, is_of_version, is_in_row, newest_first, rows_named}
use Rattle.ctl_index.specs.declared.tables.Tables.{Tables}
use Rattle.ctl_index.specs.Offers.{contents}
use Rattle.ctl_index.specs.HeldCache.{standing}
use Rattle.ctl_index.specs.Inside.TablesByName.{AreOffered, offers_under, rows_under, chosen_under}
use Rattle.ctl_index.specs.Inside.TablesHeld.{chosen_in}
use Rattle.ctl_index.specs.Inside.TablesIndexed.{IsIndexed}
use Rattle.ctl_index.specs.Inside.TablesViews.{is_own}
use Rattle.ctl_index.proofs.PackageLemmas.{own_under}
use Rattle.ctl_index.proofs.NameLemmas.{none_is}
use Rattle.ctl_index.proofs.RowLemmas.{some_row}
use Rattle.ctl_index.proofs.StoreLemmas.{key_is-own}

or_left : (a b : Bool) → a ≡ true → (a || b) ≡ true
or_left true b e = refl
or_left false b e = cc

or_right : (a b : Bool) → b ≡ true → (a || b) ≡ true
or_right true b e = refl
or_right false b e = e

-- a stanza of a row of a name is a live one of its package
abbrev is_of : List ℕ → Content → Bool
is_of q x = is_live x && bytes_eq q (package_of x)

describes : (q v : List ℕ) (x : Content) → is_in_row q v x ≡ true → is_of q x ≡ true
describes q v x h = ap (λ b. is_live x && b) (nat_list_eq_equiv.symm q (package_of x)) ∙ by (bytes_eq (package_of x) q) (is_live x) (body_of x version_name) h
  where
    by : (a b : Bool) (o : Option (List ℕ)) → is_of_version v (cond a (cond b o None) None) ≡ true → (b && a) ≡ true
    by true true o h = refl
    by true false o h = cc
    by false b o h = cc

not_none : (n : ℕ) → nat_eq (suc n) 0 ≡ false
not_none n = grind (arith, nat_tests)

some_any : {X : Type 0} (p : X → Bool) (xs : List X) → list_any p xs ≡ true → nat_eq (length xs) 0 ≡ false
some_any p [] h = cc
some_any p (x ∷ xs) h = not_none (length xs)

under_any : (p : Content → Bool) (k : StanzaKey) (x : Content) (es : List Entry) → under k es ≡ Some x → p x ≡ true → list_any p (contents es) ≡ true
under_any p k x [] h t = cc
under_any p k x (e ∷ es) h t = by (key_is k e.0) h (λ g. under_any p k x es g t)
  where
    by : (b : Bool) → cond b (Some e.1) (under k es) ≡ Some x → (under k es ≡ Some x → list_any p (contents es) ≡ true) → (p e.1 || list_any p (contents es)) ≡ true
    by true h rest = or_left (p e.1) (list_any p (contents es)) (ap (λ o. p (unwrap_or o x)) h ∙ t)
    by false h rest = or_right (p e.1) (list_any p (contents es)) (rest h)

rows_offered : (es : List Entry) (t : Tables) → IsIndexed es t → (q : List ℕ) → nat_eq (fin.len (rows_under t.names.map q)) 0 ≡ false → nat_eq (length (offers_under t.names.map q)) 0 ≡ false
rows_offered es t was q h =
    let row = some_row (rows_under t.names.map q) h in
    some_any is_own (offers_under t.names.map q) (own_under q es t was ∙ by row.version row.keys row.there)
  where
    found : (v : List ℕ) (k : StanzaKey) (o : Option Content) → under k es ≡ o → option_map_or (is_in_row q v) o false ≡ true → list_any (is_of q) (contents es) ≡ true
    found v k None e h = cc
    found v k (Some x) e h = under_any (is_of q) k x es e (describes q v x h)

    by : (v : List ℕ) (ks : List StanzaKey) → fin.get (rows_under t.names.map q) v ≡ Some ks → list_any (is_of q) (contents es) ≡ true
    by v [] there =
        let none : ◌≡◌ {A = Option (List StanzaKey)} (Some []) None = sym there ∙ was.rows.some q v ∙ ap (λ o. some_keys (or_none o)) there in
        absurd (let z : ⊥ = cc in z)
    by v (k ∷ ks) there =
        found v k (under k es) refl (sym (was.rows.held q v k) ∙ ap (λ o. has_key k (or_none o)) there ∙ or_left (key_is k k) (has_key k ks) (key_is-own k))

-- what the laws of the policy say of names without rows
pub record NoneWithoutRows : Type 0 where
  pub alike : (rows : Rows) → (name : List ℕ) → (lists : Lists) → AreRowsOf rows name lists → newest_first rows ≡ newest_first (rows_named name lists)
  pub none : newest_first fin.empty ≡ []
  pub choice : (name : List ℕ) → (w : World) → newest_first (rows_named name w.lists) ≡ [] → choice_in name w ≡ no_choice

-- whether a row is installed, or there is a candidate
abbrev is_any : Chosen → Bool
is_any chosen = is_some chosen.installed || is_some chosen.candidate

module _ (law : NoneWithoutRows) (h : Held) (t : Tables) (rows : (q : List ℕ) → AreRowsOf (rows_under t.names.map q) q (keyed_of h).lists) (chosen : AreChosen (chosen_in t) (world_of h)) where
  unchosen : (q : List ℕ) → nat_eq (fin.len (rows_under t.names.map q)) 0 ≡ true → chosen_under t.names.map q ≡ no_choice
  unchosen q len =
      let empty : rows_under t.names.map q ≡ fin.empty = fin.empty_of_len (rows_under t.names.map q) (none_is (fin.len (rows_under t.names.map q)) len) in
      chosen q ∙ law.choice q (world_of h) (sym (law.alike (rows_under t.names.map q) q (keyed_of h).lists (rows q)) ∙ ap newest_first empty ∙ law.none)

  pub chosen_offered : IsIndexed (standing h) t → AreOffered t.names.map
  chosen_offered was q e = by (nat_eq (fin.len (rows_under t.names.map q)) 0) refl e
    where
      by : (b : Bool) → nat_eq (fin.len (rows_under t.names.map q)) 0 ≡ b → (b && not (is_any (chosen_under t.names.map q))) ≡ false → nat_eq (length (offers_under t.names.map q)) 0 ≡ false
      by true len bare = absurd (true≢false (sym (ap (λ c. not (is_any c)) (unchosen q len)) ∙ bare))
      by false len bare = rows_offered (standing h) t was q len
