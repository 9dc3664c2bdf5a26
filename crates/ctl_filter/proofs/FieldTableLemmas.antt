-- Fields that are put under their names in small letters.
use Rattle.std.proofs.Common.{◌≡◌, ◌∙◌, ℕ, Bool, true, false, cond, List, [], ◌∷◌, map, Option, None, Some, is_some, option_map, Bor, refl, ap, sym, subst}
use Rattle.std.specs.BTreeMap.{UpdatesBy}
use Rattle.std.specs.Cmp.{eq_by_cmp_equiv}
use Rattle.std.specs.Cmp.Lexicographic.{slice_cmp, nat_list_cmp_total, nat_list_eq_equiv}
use Rattle.std.specs.Map.{lookup, KeepsOthers, IsKeyTest, AreApart as ArePartedTests}
use Rattle.std.specs.Option.{option_or}
use Rattle.std.specs.Ordering.{is_eq, nat_cmp}
use Rattle.std.specs.Str.{bytes_eq, str_to_ascii_lowercase}
use Rattle.std.proofs.lemmas.Map.Text.{is_eq-slice_cmp}
use Rattle.std.proofs.lemmas.Slice.Eq.{bytes_eq-Decides}
use Rattle.ctl_stanza.specs.Content.{name_and_body}
use Rattle.ctl_stanza.specs.Fields.{FieldText, body_named, is_same_name}
use Rattle.ctl_filter.specs.Grep.{entry_among}
use Rattle.ctl_filter.specs.Inside.FieldTable.{Table, held_under, entry_under}
use Rattle.ctl_filter.specs.Inside.Values.{lent_entry}

-- the body of the first field of a name
pub body_among : (name : List ℕ) (fields : List FieldText) → option_map (λ (e : List ℕ × List ℕ). e.1) (entry_among name (map name_and_body fields)) ≡ body_named name fields
body_among name [] = refl
body_among name (field ∷ fields) = by (is_same_name field.name name) (body_among name fields)
  where
    by : (b : Bool) → option_map (λ (e : List ℕ × List ℕ). e.1) (entry_among name (map name_and_body fields)) ≡ body_named name fields
        → option_map (λ (e : List ℕ × List ℕ). e.1) (cond b (Some (field.name, field.body)) (entry_among name (map name_and_body fields))) ≡ cond b (Some field.body) (body_named name fields)
    by true rest = refl
    by false rest = rest

-- ---- one field more

parted : (bs cs ks : List ℕ) → bytes_eq bs cs ≡ false → is_eq (slice_cmp nat_cmp bs ks) ≡ true → is_eq (slice_cmp nat_cmp cs ks) ≡ false
parted bs cs ks n y = is_eq-slice_cmp cs ks ∙ nat_list_eq_equiv.symm cs ks ∙ sym (nat_list_eq_equiv.congr bs ks cs (sym (is_eq-slice_cmp bs ks) ∙ y)) ∙ n

module _ {K X : Type 0} (eq : K → K → Bool) (test : K → Bool) where
  others : (old new : List (K × X)) → KeepsOthers eq test old new → (other : K → Bool) → IsKeyTest eq other → ArePartedTests test other → lookup other new ≡ lookup other old
  unfolding KeepsOthers
  others old new h = h

-- under other bytes stands what stood there
updated : (bs : List ℕ) (old new : Table) (w : Option (Bor (List ℕ) × Bor (List ℕ))) → UpdatesBy (λ x y. slice_cmp nat_cmp x.items y.items) (λ k. slice_cmp nat_cmp bs k.items) old new w
    → (cs : List ℕ) → held_under cs new ≡ cond (bytes_eq bs cs) w (held_under cs old)
updated bs old new w h cs = by (bytes_eq bs cs) refl
  where
    by : (b : Bool) → bytes_eq bs cs ≡ b → held_under cs new ≡ cond b w (held_under cs old)
    by true e = subst (λ l. held_under l new ≡ w) ((bytes_eq-Decides bs cs).0 e) h.1
    by false e = others _ _ _ _ h.3 _ (λ x y. (eq_by_cmp_equiv nat_list_cmp_total).congr cs x.items y.items) (λ k. parted bs cs k.items e)

or_none : {X : Type 0} (o : Option X) → o ≡ option_or o None
or_none None = refl
or_none (Some x) = refl

none_of : {X : Type 0} (o : Option X) → is_some o ≡ false → o ≡ None
none_of None h = refl
none_of (Some x) h = absurd (let z : ⊥ = cc in z)

some_stays : {X Y : Type 0} (f : X → Y) (o : Option X) (y : Option Y) → is_some o ≡ true → option_map f o ≡ option_or (option_map f o) y
some_stays f None y h = absurd (let z : ⊥ = cc in z)
some_stays f (Some x) y h = refl

module _ (spelled body name : List ℕ) (old : Table) where
  abbrev one : Option (List ℕ × List ℕ)
  one = entry_among name ((spelled, body) ∷ [])

  -- where its name has a field it stays away
  pub field_stays : is_some (held_under (str_to_ascii_lowercase spelled) old) ≡ true → entry_under name old ≡ option_or (entry_under name old) one
  field_stays h = by (is_same_name spelled name) refl
    where
      by : (b : Bool) → is_same_name spelled name ≡ b → entry_under name old ≡ option_or (entry_under name old) (cond b (Some (spelled, body)) None)
      by true e =
          some_stays lent_entry (held_under (str_to_ascii_lowercase name) old) (Some (spelled, body))
          (ap (λ bytes. is_some (held_under bytes old)) (sym ((bytes_eq-Decides (str_to_ascii_lowercase spelled) (str_to_ascii_lowercase name)).0 e)) ∙ h)
      by false e = or_none (entry_under name old)

  put_there : (entry : Bor (List ℕ) × Bor (List ℕ)) (new : Table) → lent_entry entry ≡ (spelled, body) → is_some (held_under (str_to_ascii_lowercase spelled) old) ≡ false
      → UpdatesBy (λ x y. slice_cmp nat_cmp x.items y.items) (λ k. slice_cmp nat_cmp (str_to_ascii_lowercase spelled) k.items) old new (Some entry) → entry_under name new ≡ option_or (entry_under name old) one
  put_there entry new is h updates = ap (option_map lent_entry) (updated (str_to_ascii_lowercase spelled) old new (Some entry) updates (str_to_ascii_lowercase name)) ∙ by (is_same_name spelled name) refl
    where
      by : (b : Bool) → is_same_name spelled name ≡ b → option_map lent_entry (cond b (Some entry) (held_under (str_to_ascii_lowercase name) old)) ≡ option_or (entry_under name old) (cond b (Some (spelled, body)) None)
      by true e =
          ap (λ p. Some p) is
          ∙ ap (λ (o : Option (Bor (List ℕ) × Bor (List ℕ))). option_or (option_map lent_entry o) (Some (spelled, body)))
          (sym (ap (λ bytes. held_under bytes old) (sym ((bytes_eq-Decides (str_to_ascii_lowercase spelled) (str_to_ascii_lowercase name)).0 e)) ∙ none_of _ h))
      by false e = or_none (entry_under name old)

  -- where its name, in small letters, has none it is put under it
  pub field_put : (bytes : List ℕ) → bytes ≡ str_to_ascii_lowercase spelled → (entry : Bor (List ℕ) × Bor (List ℕ)) (new : Table) → lent_entry entry ≡ (spelled, body) → is_some (held_under bytes old) ≡ false
      → UpdatesBy (λ x y. slice_cmp nat_cmp x.items y.items) (λ k. slice_cmp nat_cmp bytes k.items) old new (Some entry) → entry_under name new ≡ option_or (entry_under name old) one
  field_put bytes small entry new is h updates =
      put_there entry new is (subst (λ b. is_some (held_under b old) ≡ false) small h)
      (subst (λ (b : List ℕ). UpdatesBy (λ x y. slice_cmp nat_cmp x.items y.items) (λ k. slice_cmp nat_cmp b k.items) old new (Some entry)) small updates)

-- ---- the fields that are left

one_more : {X : Type 0} (got : Option X) (b : Bool) (x : X) (rest : Option X) → option_or (option_or got (cond b (Some x) None)) rest ≡ option_or got (cond b (Some x) rest)
one_more None true x rest = refl
one_more None false x rest = refl
one_more (Some y) b x rest = refl

-- a field that was put and those that are left
pub field_more : (name : List ℕ) (got : Option (List ℕ × List ℕ)) (field : List ℕ × List ℕ) (rest : List (List ℕ × List ℕ)) →
    option_or (option_or got (entry_among name (field ∷ []))) (entry_among name rest) ≡ option_or got (entry_among name (field ∷ rest))
field_more name got field rest = one_more got (is_same_name field.0 name) field (entry_among name rest)

pub nothing_left : {X : Type 0} (o : Option X) → option_or o None ≡ o
nothing_left o = sym (or_none o)
