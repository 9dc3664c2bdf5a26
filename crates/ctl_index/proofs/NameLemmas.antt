-- The table of names: what a write under the name bs leaves under any name.
use Rattle.std.proofs.Common.{◌≡◌, ◌+◌, ℕ, Bool, true, false, cond, not, nat_eq, ◌&&◌, ◌||◌, is_some, length, List, [], ◌∷◌, Option, None, Some, Result, Ok, Err, OnOk, OnErr, OnSome, refl, ap, sym, subst, ◌∙◌, arith}
use Rattle.std.specs.List.{sum_by}
use Rattle.std.specs.Str.{bytes_eq}
use Rattle.std.specs.FinMap as fin
use Rattle.std.specs.Option.{option_map_or}
use Rattle.std.proofs.lemmas.Slice.Eq.{bytes_eq-Decides}
use Rattle.std.proofs.lemmas.Bool.Decides.{nat_tests}
use Rattle.std.proofs.lemmas.List.{nil_from_length}
use Rattle.std.proofs.lemmas.List.Sums.{sum_by-cons}
use Rattle.ctl_index.specs.declared.named.ChosenRows.{ChosenRows}
use Rattle.ctl_index.specs.declared.named.Named.{Named}
use Rattle.ctl_relation.specs.Version.{version_cmp}
use Rattle.ctl_store.specs.declared.stanza_key.StanzaKey.{StanzaKey}
use Rattle.ctl_index.specs.Inside.TablesOrder.{put_in_order, is_through}
use Rattle.ctl_policy.specs.Kept.{HasPut, HasSame, OthersStay}
use Rattle.ctl_policy.specs.declared.chosen.Chosen.{Chosen}
use Rattle.ctl_policy.specs.Chosen.{no_choice}
use Rattle.ctl_policy.specs.Rows.{Rows}
use Rattle.ctl_index.specs.Inside.TablesByName.{NameMap, at_name, IsSetAt, HasSameNames, named_offers, named_namers, named_own, no_rows, own_under, rows_under, chosen_under, part_under, is_bare, is_used, AreUsed}
use Rattle.ctl_index.specs.Inside.TablesChosen.{HasSameRows}
use Rattle.ctl_index.proofs.RowLemmas.{put_there, same_there}

module _ {T : Type 0} (part : Named → T) (none : T) (bs : List ℕ) (m n : NameMap) where
  -- a part under all names after a write of w, where f was made of what was there
  pub changed : (w : Named) (f : T → T) → IsSetAt bs m n (Some w) → part w ≡ f (part_under part none m bs)
      → (cs : List ℕ) → part_under part none n cs ≡ cond (bytes_eq bs cs) (f (part_under part none m cs)) (part_under part none m cs)
  changed w f h is cs = ap (λ o. option_map_or part o none) (h cs) ∙ by (bytes_eq bs cs) refl
    where
      by : (b : Bool) → bytes_eq bs cs ≡ b → option_map_or part (cond b (Some w) (at_name m cs)) none ≡ cond b (f (part_under part none m cs)) (part_under part none m cs)
      by true e = is ∙ ap (λ l. f (part_under part none m l)) ((bytes_eq-Decides bs cs).0 e)
      by false e = refl

  -- the same part
  pub unchanged : (w : Named) → IsSetAt bs m n (Some w) → part w ≡ part_under part none m bs → (cs : List ℕ) → part_under part none n cs ≡ part_under part none m cs
  unchanged w h is cs = changed w (λ l. l) h is cs ∙ by (bytes_eq bs cs)
    where
      by : (b : Bool) → cond b (part_under part none m cs) (part_under part none m cs) ≡ part_under part none m cs
      by true = refl
      by false = refl

-- a part at a key that was read
pub part-found : {T : Type 0} (part : Named → T) (none : T) (bs : List ℕ) (m : NameMap) (o : Option Named) → o ≡ at_name m bs → option_map_or part o none ≡ part_under part none m bs
part-found part none bs m o e = ap (λ o. option_map_or part o none) e

-- ---- names under which something stands

pub used_written : (bs : List ℕ) (m n : NameMap) (w : Named) → IsSetAt bs m n (Some w) → is_used w ≡ true → AreUsed m → AreUsed n
used_written bs m n w h used old q = ap (λ o. option_map_or is_used o true) (h q) ∙ by (bytes_eq bs q)
  where
    by : (b : Bool) → option_map_or is_used (cond b (Some w) (at_name m q)) true ≡ true
    by true = used
    by false = old q

-- after a write that may have been refused
pub used_either : {O E : Type 0} (r : Result O E) (bs : List ℕ) (m n : NameMap) (w : Named) → OnOk r (IsSetAt bs m n (Some w)) → OnErr r (HasSameNames m n) → is_used w ≡ true → AreUsed m → AreUsed n
used_either (Ok x) bs m n w h same used old = used_written bs m n w h used old
used_either (Err e) bs m n w h same used old = λ q. ap (λ o. option_map_or is_used o true) (same q) ∙ old q

-- after a write and a removal
pub used_replaced : (bs : List ℕ) (m n o : NameMap) (w : Named) → IsSetAt bs m n (Some w) → IsSetAt bs n o None → AreUsed m → AreUsed o
used_replaced bs m n o w h g old q =
    ap (λ z. option_map_or is_used z true) (g q ∙ ap (cond (bytes_eq bs q) None) (h q)) ∙ by (bytes_eq bs q)
  where
    by : (b : Bool) → option_map_or is_used (cond b None (cond b (Some w) (at_name m q))) true ≡ true
    by true = refl
    by false = old q

-- what stands under a name that was read
pub used_found : (m : NameMap) (bs : List ℕ) (v : Named) → Some v ≡ at_name m bs → AreUsed m → is_used v ≡ true
used_found m bs v at old = ap (λ o. option_map_or is_used o true) at ∙ old bs

longer : {T : Type 0} (g : T → StanzaKey) (x : T) (xs : List T) → length (put_in_order g x xs) ≡ length xs + 1
longer g x [] = refl
longer g x (y ∷ ys) = by (is_through g (g x) y) (longer g x ys)
  where
    by : (b : Bool) → length (put_in_order g x ys) ≡ length ys + 1 → length (cond b (y ∷ put_in_order g x ys) (x ∷ y ∷ ys)) ≡ length (y ∷ ys) + 1
    by true rest = omega (arith, rest)
    by false rest = omega arith

not_empty : {T : Type 0} (g : T → StanzaKey) (xs : List T) (x : T) → nat_eq (length (put_in_order g x xs)) 0 ≡ false
not_empty g xs x = let more : length (put_in_order g x xs) ≡ length xs + 1 = longer g x xs in grind (arith, nat_tests)

-- an entry more
pub used_more : {T : Type 0} (g : T → StanzaKey) (xs : List T) (x : T) (b d : Bool) → not ((nat_eq (length (put_in_order g x xs)) 0 && b) && d) ≡ true
used_more g xs x b d = ap (λ z. not ((z && b) && d)) (not_empty g xs x)

pub used_more_too : {T : Type 0} (g : T → StanzaKey) (xs : List T) (x : T) (b d : Bool) → not ((b && nat_eq (length (put_in_order g x xs)) 0) && d) ≡ true
used_more_too g xs x b d = ap (λ z. not ((b && z) && d)) (not_empty g xs x) ∙ by b
  where
    by : (b : Bool) → not ((b && false) && d) ≡ true
    by true = refl
    by false = refl

-- a row
pub bare_rows : (own : ChosenRows) → nat_eq (fin.len own.rows) 0 ≡ false → is_bare own ≡ false
bare_rows own h = ap (λ z. z && not (is_some own.chosen.installed || is_some own.chosen.candidate)) h

pub used_rows : (v : Named) → nat_eq (fin.len (named_own v).rows) 0 ≡ false → is_used v ≡ true
used_rows v h = ap (λ z. not ((nat_eq (length (named_offers v)) 0 && nat_eq (length (named_namers v)) 0) && z)) (bare_rows (named_own v) h) ∙ by (nat_eq (length (named_offers v)) 0 && nat_eq (length (named_namers v)) 0)
  where
    by : (b : Bool) → not (b && false) ≡ true
    by true = refl
    by false = refl

pub none_is : (n : ℕ) → nat_eq n 0 ≡ true → n ≡ 0
none_is n h = grind (arith, nat_tests)

abbrev pub own_by : Rows → Chosen → ChosenRows
own_by rows chosen = record { rows = rows; chosen = chosen }

abbrev choice_by : Option StanzaKey → Option StanzaKey → Chosen
choice_by installed candidate = record { installed = installed; candidate = candidate }

nothing_chosen : (installed candidate : Option StanzaKey) → not (is_some installed || is_some candidate) ≡ true → choice_by installed candidate ≡ no_choice
nothing_chosen None None h = refl
nothing_chosen None (Some key) h = absurd (let z : ⊥ = cc in z)
nothing_chosen (Some key) candidate h = absurd (let z : ⊥ = cc in z)

-- no rows are bare
pub none_bare : is_bare no_rows ≡ true
none_bare = ap (λ n. nat_eq n 0 && true) (fin.len-empty version_cmp (List StanzaKey))

-- no row, of which nothing is chosen
bare_own : (own : ChosenRows) → is_bare own ≡ true → own ≡ no_rows
bare_own own h = by (nat_eq (fin.len own.rows) 0) refl h
  where
    by : (b : Bool) → nat_eq (fin.len own.rows) 0 ≡ b → (b && not (is_some own.chosen.installed || is_some own.chosen.candidate)) ≡ true → own ≡ no_rows
    by true e h =
        let rows = fin.empty_of_len own.rows (none_is (fin.len own.rows) e) in
        let chosen = nothing_chosen own.chosen.installed own.chosen.candidate h in
        λ i. own_by (rows i) (chosen i)
    by false e h = absurd (let z : ⊥ = cc in z)

pub record NothingLeft (v : Named) : Type 0 where
  pub offers : named_offers v ≡ []
  pub namers : named_namers v ≡ []
  pub own : named_own v ≡ no_rows

-- nothing is left under a name that is not used
pub nothing_left : (v : Named) → is_used v ≡ false → NothingLeft v
nothing_left v h = by (nat_eq (length (named_offers v)) 0) (nat_eq (length (named_namers v)) 0) (is_bare (named_own v)) refl refl refl h
  where
    by : (a b d : Bool) → nat_eq (length (named_offers v)) 0 ≡ a → nat_eq (length (named_namers v)) 0 ≡ b → is_bare (named_own v) ≡ d → not ((a && b) && d) ≡ false → NothingLeft v
    by true true true e f g h = record {
      offers = nil_from_length (named_offers v) (none_is (length (named_offers v)) e);
      namers = nil_from_length (named_namers v) (none_is (length (named_namers v)) f);
      own = bare_own (named_own v) g;
    }
    by true true false e f g h = absurd (let z : ⊥ = cc in z)
    by true false d e f g h = absurd (let z : ⊥ = cc in z)
    by false b d e f g h = absurd (let z : ⊥ = cc in z)

-- a part after a write and a removal, where nothing of it was left
pub replaced : {T : Type 0} (part : Named → T) (none : T) (bs : List ℕ) (m n o : NameMap) (w : Named) (f : T → T) → IsSetAt bs m n (Some w) → IsSetAt bs n o None → f (part_under part none m bs) ≡ none
    → (cs : List ℕ) → part_under part none o cs ≡ cond (bytes_eq bs cs) (f (part_under part none m cs)) (part_under part none m cs)
replaced part none bs m n o w f h g gone cs =
    ap (λ z. option_map_or part z none) (g cs ∙ ap (cond (bytes_eq bs cs) None) (h cs)) ∙ by (bytes_eq bs cs) refl
  where
    by : (b : Bool) → bytes_eq bs cs ≡ b → option_map_or part (cond b None (cond b (Some w) (at_name m cs))) none ≡ cond b (f (part_under part none m cs)) (part_under part none m cs)
    by true e = sym (ap (λ l. f (part_under part none m l)) (sym ((bytes_eq-Decides bs cs).0 e)) ∙ gone)
    by false e = refl

pub same_either : {X : Type 0} (b : Bool) (x : X) → cond b x x ≡ x
same_either true x = refl
same_either false x = refl

pub on_ok : {X E : Type 0} (r : Result X E) {P : Type 0} → P → OnOk r P
on_ok (Ok x) p = p
on_ok (Err e) p = tt

-- ---- rows under names

-- a part of a name that isn't there
pub none_under : {T : Type 0} (part : Named → T) (none : T) (bs : List ℕ) (m : NameMap) → None ≡ at_name m bs → part_under part none m bs ≡ none
none_under part none bs m e = sym (ap (λ o. option_map_or part o none) e)

-- nothing more under a name that wasn't there changes nothing
pub none_more : {T : Type 0} (part : Named → T) (none : T) (bs : List ℕ) (m n : NameMap) (x : T) → x ≡ none → None ≡ at_name m bs → HasSameNames m n
    → (q : List ℕ) → cond (bytes_eq bs q) x (part_under part none n q) ≡ part_under part none m q
none_more part none bs m n x is e same q = by (bytes_eq bs q) refl
  where
    by : (b : Bool) → bytes_eq bs q ≡ b → cond b x (part_under part none n q) ≡ part_under part none m q
    by true t = is ∙ sym (none_under part none bs m e) ∙ ap (part_under part none m) ((bytes_eq-Decides bs q).0 t)
    by false t = ap (λ o. option_map_or part o none) (same q)

-- one under a name that wasn't there
pub first_there : {Y : Type 0} (part : Named → List Y) (bs : List ℕ) (m n : NameMap) (x : List Y) (y : Y) (f : Y → ℕ) → x ≡ y ∷ [] → None ≡ at_name m bs → HasSameNames m n
    → (q : List ℕ) → sum_by f (cond (bytes_eq bs q) x (part_under part [] n q)) ≡ sum_by f (part_under part [] m q) + cond (bytes_eq bs q) (f y) 0
first_there part bs m n x y f is e same q = by (bytes_eq bs q) refl
  where
    by : (b : Bool) → bytes_eq bs q ≡ b → sum_by f (cond b x (part_under part [] n q)) ≡ sum_by f (part_under part [] m q) + cond b (f y) 0
    by true t = omega (arith, ap (sum_by f) is, sum_by-cons f y [], ap (λ l. sum_by f (part_under part [] m l)) (sym ((bytes_eq-Decides bs q).0 t)), ap (sum_by f) (none_under part [] bs m e))
    by false t = omega (arith, ap (λ o. sum_by f (option_map_or part o [])) (same q))

abbrev pub rows_of_own : ChosenRows → Rows
rows_of_own own = own.rows

-- what stands under its own name
pub at_itself : {X : Type 0} (bs : List ℕ) (r o : X) → cond (bytes_eq bs bs) r o ≡ r
at_itself bs r o = ap (λ b. cond b r o) ((bytes_eq-Decides bs bs).1 refl)

-- other names keep their rows after a write
pub rows_others : (bs : List ℕ) (m n : NameMap) (w : Named) → IsSetAt bs m n (Some w) → OthersStay bs (rows_under m) (rows_under n)
rows_others bs m n w writes q h v =
    ap (λ (own : ChosenRows). fin.get own.rows v) (changed named_own no_rows bs m n w (λ _. named_own w) writes refl q ∙ ap (λ b. cond b (named_own w) (own_under m q)) h)

-- the rows that were written
pub rows_own : (bs : List ℕ) (m n : NameMap) (w : Named) → IsSetAt bs m n (Some w) → rows_under n bs ≡ (named_own w).rows
rows_own bs m n w writes = ap rows_of_own (changed named_own no_rows bs m n w (λ _. named_own w) writes refl bs ∙ at_itself bs (named_own w) (own_under m bs))

-- the same after a write and a removal of a name without rows
all_replaced : (bs : List ℕ) (m n o : NameMap) (w : Named) → IsSetAt bs m n (Some w) → IsSetAt bs n o None → named_own w ≡ no_rows → (q : List ℕ) → own_under o q ≡ cond (bytes_eq bs q) (named_own w) (own_under m q)
all_replaced bs m n o w writes removes none q = replaced named_own no_rows bs m n o w (λ _. named_own w) writes removes none q

pub others_replaced : (bs : List ℕ) (m n o : NameMap) (w : Named) → IsSetAt bs m n (Some w) → IsSetAt bs n o None → named_own w ≡ no_rows → OthersStay bs (rows_under m) (rows_under o)
others_replaced bs m n o w writes removes none q h v = ap (λ (own : ChosenRows). fin.get own.rows v) (all_replaced bs m n o w writes removes none q ∙ ap (λ b. cond b (named_own w) (own_under m q)) h)

pub rows_replaced : (bs : List ℕ) (m n o : NameMap) (w : Named) → IsSetAt bs m n (Some w) → IsSetAt bs n o None → named_own w ≡ no_rows → rows_under o bs ≡ (named_own w).rows
rows_replaced bs m n o w writes removes none = ap rows_of_own (all_replaced bs m n o w writes removes none bs ∙ at_itself bs (named_own w) (own_under m bs))

-- what is chosen
abbrev pub chosen_of : ChosenRows → Chosen
chosen_of own = own.chosen

-- the same of all names
abbrev pub all_chosen : (List ℕ → ChosenRows) → List ℕ → Chosen
all_chosen own q = (own q).chosen

stays_either : {T : Type 0} (f : ChosenRows → T) (b : Bool) (w o : ChosenRows) → (b ≡ true → f w ≡ f o) → f (cond b w o) ≡ f o
stays_either f true w o h = h refl
stays_either f false w o h = refl

found_part : {T : Type 0} (f : ChosenRows → T) (bs q : List ℕ) (m : NameMap) (w : Named) → f (named_own w) ≡ f (own_under m bs) → bytes_eq bs q ≡ true → f (named_own w) ≡ f (own_under m q)
found_part f bs q m w is e = is ∙ ap (λ name. f (own_under m name)) ((bytes_eq-Decides bs q).0 e)

module _ {T : Type 0} (f : ChosenRows → T) (bs : List ℕ) (m n : NameMap) (w : Named) (writes : IsSetAt bs m n (Some w)) (is : f (named_own w) ≡ f (own_under m bs)) where
  -- a part of the rows with what is chosen stays under each name after a write that leaves it
  pub part_written : (q : List ℕ) → f (own_under n q) ≡ f (own_under m q)
  part_written q = ap f (changed named_own no_rows bs m n w (λ _. named_own w) writes refl q) ∙ stays_either f (bytes_eq bs q) (named_own w) (own_under m q) (found_part f bs q m w is)

  -- the same after the removal of a name without rows, of which nothing is chosen
  pub part_replaced : (o : NameMap) → IsSetAt bs n o None → named_own w ≡ no_rows → (q : List ℕ) → f (own_under o q) ≡ f (own_under m q)
  part_replaced o removes none q =
      ap f (all_replaced bs m n o w writes removes none q) ∙ stays_either f (bytes_eq bs q) (named_own w) (own_under m q) (found_part f bs q m w is)

chosen_cond : (b : Bool) (w o : ChosenRows) (x : Chosen) → w.chosen ≡ x → chosen_of (cond b w o) ≡ cond b x o.chosen
chosen_cond true w o x h = h
chosen_cond false w o x h = refl

-- what is chosen of a name is written, and of others stays
module _ (bs : List ℕ) (m n : NameMap) (w : Named) (writes : IsSetAt bs m n (Some w)) (x : Chosen) (is : (named_own w).chosen ≡ x) where
  pub choice_written : (q : List ℕ) → chosen_under n q ≡ cond (bytes_eq bs q) x (chosen_under m q)
  choice_written q = ap chosen_of (changed named_own no_rows bs m n w (λ _. named_own w) writes refl q) ∙ chosen_cond (bytes_eq bs q) (named_own w) (own_under m q) x is

  pub choice_replaced : (o : NameMap) → IsSetAt bs n o None → named_own w ≡ no_rows → (q : List ℕ) → chosen_under o q ≡ cond (bytes_eq bs q) x (chosen_under m q)
  choice_replaced o removes none q = ap chosen_of (all_replaced bs m n o w writes removes none q) ∙ chosen_cond (bytes_eq bs q) (named_own w) (own_under m q) x is

-- of a name that isn't there nothing is chosen
pub choice_absent : (bs : List ℕ) (m n : NameMap) (x : Chosen) → x ≡ no_choice → None ≡ at_name m bs → HasSameNames m n → (q : List ℕ) → chosen_under n q ≡ cond (bytes_eq bs q) x (chosen_under m q)
choice_absent bs m n x is e same q = ap (λ o. chosen_of (option_map_or named_own o no_rows)) (same q) ∙ by (bytes_eq bs q) refl
  where
    by : (b : Bool) → bytes_eq bs q ≡ b → chosen_under m q ≡ cond b x (chosen_under m q)
    by true t = ap (chosen_under m) (sym ((bytes_eq-Decides bs q).0 t)) ∙ ap chosen_of (none_under named_own no_rows bs m e) ∙ sym is
    by false t = refl

-- all but what is chosen stays where the same stands under each name
pub same_rows : (m n : NameMap) → HasSameNames m n → HasSameRows m n
same_rows m n same = record {
  offers = λ i q. option_map_or named_offers (same q i) [];
  namers = λ i q. option_map_or named_namers (same q i) [];
  rows = λ i q. rows_of_own (option_map_or named_own (same q i) no_rows);
}

pub chosen_new : (bs : List ℕ) (m n : NameMap) (x : ChosenRows) → x.chosen ≡ no_choice → None ≡ at_name m bs → HasSameNames m n → (q : List ℕ) → chosen_of (cond (bytes_eq bs q) x (own_under n q)) ≡ chosen_under m q
chosen_new bs m n x is e same q = by (bytes_eq bs q) refl
  where
    by : (b : Bool) → bytes_eq bs q ≡ b → chosen_of (cond b x (own_under n q)) ≡ chosen_under m q
    by true t = is ∙ sym (ap chosen_of (none_under named_own no_rows bs m e)) ∙ ap (chosen_under m) ((bytes_eq-Decides bs q).0 t)
    by false t = ap (λ o. chosen_of (option_map_or named_own o no_rows)) (same q)

-- a name has rows, or what it had, once a key was put that may have been refused
pub put_used : {O E : Type 0} (r : Result O E) (version : List ℕ) (key : StanzaKey) (v : Named) (new : Rows) → OnOk r (HasPut version key (named_own v).rows new) → OnErr r (HasSame (named_own v).rows new) → is_used v ≡ true
    → is_used (record { offers = v.offers; namers = v.namers; own = own_by new v.own.chosen }) ≡ true
put_used (Ok x) version key v new put same used = used_rows (record { offers = v.offers; namers = v.namers; own = own_by new v.own.chosen }) (put_there version key (named_own v).rows new put)
put_used (Err e) version key v new put same used =
    ap (λ b. not ((nat_eq (length (named_offers v)) 0 && nat_eq (length (named_namers v)) 0) && (b && not (is_some v.own.chosen.installed || is_some v.own.chosen.candidate)))) (same_there (named_own v).rows new same) ∙ used

-- what holds where something was lent
pub on_some : {X P : Type 0} {r : Option X} {x : X} → r ≡ Some x → OnSome r P → P
on_some {P = P} is h = subst (λ o. OnSome o P) is h

pub on_ok_map : {X E : Type 0} (r : Result X E) {P Q : Type 0} → (P → Q) → OnOk r P → OnOk r Q
on_ok_map (Ok x) f p = f p
on_ok_map (Err e) f p = tt
