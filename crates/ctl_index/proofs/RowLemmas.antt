-- The rows of one name: whether there is one, and what a key that comes or goes makes of them.
use Rattle.std.proofs.Common.{◌≡◌, ℕ, Bool, true, false, not, cond, nat_eq, length, List, [], ◌∷◌, map, Option, None, Some, refl, ap, sym, ◌∙◌, arith}
use Rattle.std.specs.Bool.{OnTrue, OnFalse}
use Rattle.std.specs.Ordering.{is_eq}
use Rattle.std.specs.FinMap as fin
use Rattle.std.proofs.lemmas.Bool.Decides.{nat_tests}
use Rattle.std.proofs.lemmas.Cmp.{tied_itself}
use Rattle.std.proofs.lemmas.List.{nil_from_length, length-map, length-reverse}
use Rattle.ctl_relation.specs.Version.{triple_of, version_cmp}
use Rattle.ctl_relation.specs.Orders.Versions.{version_total}
use Rattle.ctl_store.specs.declared.stanza_key.StanzaKey.{StanzaKey}
use Rattle.ctl_policy.specs.Keys.{with_key, without_key, or_none, some_keys}
use Rattle.ctl_policy.specs.Kept.{HasPut, HasTaken, HasSame}
use Rattle.ctl_policy.specs.Rows.{Row, Rows, is_any_row, keys_at, newest_first}

abbrev NamedRow : Type 0
NamedRow = List ℕ × List StanzaKey

-- rows of no version are none
pub none_there : (r : Rows) → ((v : List ℕ) → fin.get r v ≡ None) → r ≡ fin.empty
none_there r none = fin.empty_of_len r (by (fin.entries r) refl)
  where
    by : (es : List NamedRow) → fin.entries r ≡ es → fin.len r ≡ 0
    by [] e = fin.len-entries r ∙ ap length e
    by (x ∷ es) e =
        let there : fin.get r x.0 ≡ Some x.1 =
        fin.get-entries r x.0 ∙ ap (fin.find version_cmp x.0) e ∙ ap (λ o. cond (is_eq o) (Some x.1) (fin.find version_cmp x.0 es)) (tied_itself version_total x.0) in
        let gone : fin.get r x.0 ≡ None = none x.0 in
        absurd (let z : ⊥ = cc in z)

pub record HasRow (r : Rows) : Type 0 where
  pub version : List ℕ
  pub keys : List StanzaKey
  pub there : fin.get r version ≡ Some keys

-- some rows have a row
pub some_row : (r : Rows) → nat_eq (fin.len r) 0 ≡ false → HasRow r
some_row r h = by (fin.entries r) refl
  where
    by : (es : List NamedRow) → fin.entries r ≡ es → HasRow r
    by [] e =
        let none : nat_eq (fin.len r) 0 ≡ true = ap (λ n. nat_eq n 0) (fin.len-entries r ∙ ap length e) in
        absurd (let z : ⊥ = cc in z)
    by (x ∷ es) e = record {
      version = x.0;
      keys = x.1;
      there = fin.get-entries r x.0 ∙ ap (fin.find version_cmp x.0) e ∙ ap (λ o. cond (is_eq o) (Some x.1) (fin.find version_cmp x.0 es)) (tied_itself version_total x.0);
    }

-- rows of some version are some
pub some_there : (r : Rows) (v : List ℕ) (ks : List StanzaKey) → fin.get r v ≡ Some ks → nat_eq (fin.len r) 0 ≡ false
some_there r v ks h = by (nat_eq (fin.len r) 0) refl
  where
    by : (b : Bool) → nat_eq (fin.len r) 0 ≡ b → b ≡ false
    by true e =
        let bare : fin.len r ≡ 0 = grind (arith, nat_tests) in
        let gone : fin.get r v ≡ None = ap (λ m. fin.get m v) (fin.empty_of_len r bare) ∙ fin.get-empty version_cmp v in
        absurd (let z : ⊥ = cc in z)
    by false e = refl

pub put_there : (version : List ℕ) (key : StanzaKey) (old new : Rows) → HasPut version key old new → nat_eq (fin.len new) 0 ≡ false
put_there version key old new put =
    some_there new version (with_key key (keys_at old version)) (put version ∙ ap (λ o. cond (is_eq o) (Some (with_key key (keys_at old version))) (fin.get old version)) (tied_itself version_total version))

-- a test for no row
pub bare_is : (b : Bool) (r : Rows) → OnTrue b (newest_first r ≡ []) → OnFalse b (newest_first r ≡ [] → ⊥) → b ≡ nat_eq (fin.len r) 0
bare_is b r t f = by b t f
  where
    same : length (newest_first r) ≡ fin.len r
    same = length-reverse (map (λ (row : NamedRow). (triple_of row.0, row.1)) (fin.entries r)) ∙ length-map (fin.entries r) (λ (row : NamedRow). (triple_of row.0, row.1)) ∙ sym (fin.len-entries r)

    none : (c : Bool) → nat_eq (fin.len r) 0 ≡ c → (newest_first r ≡ [] → ⊥) → false ≡ c
    none true e f = absurd (f (nil_from_length (newest_first r) (let z : length (newest_first r) ≡ 0 = grind (arith, nat_tests, same) in z)))
    none false e f = refl

    by : (b : Bool) → OnTrue b (newest_first r ≡ []) → OnFalse b (newest_first r ≡ [] → ⊥) → b ≡ nat_eq (fin.len r) 0
    by true t f = let z : fin.len r ≡ 0 = sym same ∙ ap length t in sym (ap (λ n. nat_eq n 0) z)
    by false t f = none (nat_eq (fin.len r) 0) refl f

-- whether there is a row, by their number
pub any_row : (r : Rows) → not (nat_eq (fin.len r) 0) ≡ is_any_row (newest_first r)
any_row r = by (newest_first r) refl
  where
    by : (rows : List Row) → newest_first r ≡ rows → not (nat_eq (fin.len r) 0) ≡ is_any_row rows
    by [] e = ap not (sym (bare_is true r e tt))
    by (row ∷ rows) e = ap not (sym (bare_is false r tt (λ none. let both : ◌≡◌ {A = List Row} (row ∷ rows) [] = sym e ∙ none in let z : ⊥ = cc in z)))

-- the same by a test for no row
pub not_bare : (b : Bool) (rows : List Row) → OnTrue b (rows ≡ []) → OnFalse b (rows ≡ [] → ⊥) → not b ≡ is_any_row rows
not_bare true rows t f = sym (ap is_any_row t)
not_bare false [] t f = absurd (f refl)
not_bare false (row ∷ rows) t f = refl

-- rows that answer alike are some or none alike
pub same_there : (old new : Rows) → HasSame old new → nat_eq (fin.len new) 0 ≡ nat_eq (fin.len old) 0
same_there old new same = by (nat_eq (fin.len new) 0) (nat_eq (fin.len old) 0) refl refl
  where
    bare : (a b : Rows) → HasSame a b → nat_eq (fin.len a) 0 ≡ true → nat_eq (fin.len b) 0 ≡ true
    bare a b same e =
        let none : fin.len a ≡ 0 = grind (arith, nat_tests) in
        let gone : b ≡ fin.empty = none_there b (λ v. same v ∙ ap (λ m. fin.get m v) (fin.empty_of_len a none) ∙ fin.get-empty version_cmp v) in
        ap (λ (m : Rows). nat_eq (fin.len m) 0) gone ∙ ap (λ n. nat_eq n 0) (fin.len-empty version_cmp (List StanzaKey))

    by : (b d : Bool) → nat_eq (fin.len new) 0 ≡ b → nat_eq (fin.len old) 0 ≡ d → b ≡ d
    by true d e h = sym (sym h ∙ bare new old (λ v. sym (same v)) e)
    by false true e h = sym e ∙ bare old new same h
    by false false e h = refl

-- a key goes from no rows
pub none_taken : (version : List ℕ) (key : StanzaKey) (old new : Rows) → old ≡ fin.empty → new ≡ old → HasTaken version key old new
none_taken version key old new none same v =
    ap (λ m. fin.get m v) same ∙ gone v ∙ sym (ap (λ o. cond (is_eq (version_cmp version v)) (some_keys (without_key key (or_none o))) (fin.get old v)) (gone version) ∙ ap (λ o. cond {A = Option (List StanzaKey)} (is_eq (version_cmp version v)) None o) (gone v) ∙ by (is_eq (version_cmp version v)))
  where
    gone : (v : List ℕ) → fin.get old v ≡ None
    gone v = ap (λ m. fin.get m v) none ∙ fin.get-empty version_cmp v

    by : (b : Bool) → cond {A = Option (List StanzaKey)} b None None ≡ None
    by true = refl
    by false = refl
