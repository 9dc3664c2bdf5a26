-- The rows of one name, after a change at a version.
use Rattle.std.proofs.Common.{◌≡◌, ℕ, Bool, true, false, cond, List, [], ◌∷◌, Option, None, Some, option_map, Vec, Global, refl, ap, sym, ◌∙◌, Result, Ok, Err, OnErr, IfSome, Ordering, Less, Equal, Greater, length, ◌<◌, arith}
use Rattle.std.specs.Ordering.{is_eq}
use Rattle.std.specs.Map.{lookup}
use Rattle.std.specs.BTreeMap.{get, UpdatesBy}
use Rattle.ctl_relation.specs.Version.{version_cmp}
use Rattle.ctl_relation.specs.Orders.Versions.{version_total}
use Rattle.ctl_store.specs.declared.stanza_key.StanzaKey.{StanzaKey}
use Rattle.ctl_policy.specs.Inside.HeldRows.{RowMap, row_in_map}
use Rattle.ctl_policy.specs.Keys.{or_none, some_keys}

pub if_cases : {A B : Type 0} (f : A → B) (b : Bool) (x y : A) → f (cond b x y) ≡ cond b (f x) (f y)
if_cases f true x y = refl
if_cases f false x y = refl

pub eq_is : (o : Ordering) → is_eq o ≡ true → o ≡ Equal
eq_is Less e = cc
eq_is Equal e = refl
eq_is Greater e = cc

abbrev pub items_of : Vec StanzaKey Global → List StanzaKey
items_of v = v.items

-- a change at a version: w is there then, and other versions have what they had
pub updates_row : (v : List ℕ) (m n : RowMap) (w : Option (Vec StanzaKey Global)) → UpdatesBy version_cmp (version_cmp v) m n w → (q : List ℕ) → row_in_map n q ≡ cond (is_eq (version_cmp v q)) (option_map items_of w) (row_in_map m q)
updates_row v m n w h q = ap (option_map items_of) (h.0 q) ∙ if_cases (option_map items_of) (is_eq (version_cmp v q)) w (get version_cmp m q)

-- equal versions have one row
pub row_in_map-equal : (v q : List ℕ) (m : RowMap) → version_cmp v q ≡ Equal → row_in_map m v ≡ row_in_map m q
row_in_map-equal v q m e = ap (option_map items_of) (λ i. lookup (λ k. is_eq (version_total.congr v q k e i)) m.entries)

-- a write of what is there
pub row_in_map-same : (v q : List ℕ) (m : RowMap) → cond (is_eq (version_cmp v q)) (row_in_map m v) (row_in_map m q) ≡ row_in_map m q
row_in_map-same v q m = by (is_eq (version_cmp v q)) refl
  where
    by : (b : Bool) → is_eq (version_cmp v q) ≡ b → cond b (row_in_map m v) (row_in_map m q) ≡ row_in_map m q
    by true e = row_in_map-equal v q m (eq_is _ e)
    by false e = refl

pub on_err : {X E : Type 0} (r : Result X E) {P : Type 0} → P → OnErr r P
on_err (Ok x) p = tt
on_err (Err e) p = p

pub some_of : (ks : List StanzaKey) → 0 < length ks → some_keys ks ≡ Some ks
some_of [] l = absurd (omega arith)
some_of (k ∷ ks) l = refl

-- a row without keys goes
pub row_gone : (f : List StanzaKey → List StanzaKey) (o : Option (List StanzaKey)) → option_map f o ≡ Some [] → None ≡ some_keys (f (or_none o))
row_gone f None e = cc
row_gone f (Some ks) e = let h : f ks ≡ [] = cc in ap some_keys (sym h)

-- a row with keys stays
pub row_stays : (f : List StanzaKey → List StanzaKey) (o : Option (List StanzaKey)) → f [] ≡ [] → IfSome (option_map f o) (λ keys. 0 < length keys) → option_map f o ≡ some_keys (f (or_none o))
row_stays f None z h = ap some_keys (sym z)
row_stays f (Some ks) z h = sym (some_of (f ks) h)

-- a change of a row that isn't there
pub row_absent : (f : List StanzaKey → List StanzaKey) (v q : List ℕ) (m : RowMap) → None ≡ row_in_map m v → row_in_map m q ≡ cond (is_eq (version_cmp v q)) (option_map f (row_in_map m v)) (row_in_map m q)
row_absent f v q m h = by (is_eq (version_cmp v q)) refl
  where
    by : (b : Bool) → is_eq (version_cmp v q) ≡ b → row_in_map m q ≡ cond b (option_map f (row_in_map m v)) (row_in_map m q)
    by true e = sym (row_in_map-equal v q m (eq_is _ e)) ∙ sym h ∙ ap (option_map f) h
    by false e = refl

pub cond_both : {X : Type 0} (b : Bool) (x y z : X) → cond b x (cond b y z) ≡ cond b x z
cond_both true x y z = refl
cond_both false x y z = refl
