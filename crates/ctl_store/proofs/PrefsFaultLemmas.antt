-- What is told of preferences is the least of their faults.
use Rattle.std.proofs.Common.{◌≡◌, ◌∙◌, ◌≤◌, ◌++◌, ◌||◌, ◌&&◌, not, ℕ, Bool, true, false, cond, List, [], ◌∷◌, drop, codes, nat_eq, Option, Some, None, refl, sym, ap, ap₂, subst, arith, inl, inr, ⊎_elim, ◌+◌, ◌<◌, ◌==◌, zero, suc, length, map, slice_index, unwrap_or, is_none, ◌-◌, ℤ, take, Ok, Err, ◌⊎◌}
use Rattle.std.proofs.lemmas.Bool.{and_parts, cond-true, cond-false, eqb-true, cases_lt}
use Rattle.std.proofs.lemmas.Bool.Decides.{Decides-eqb}
use Rattle.std.proofs.lemmas.List.{get_or-take, get_or-drop, get_or-map, length-map, nil_from_length}
use Rattle.std.proofs.lemmas.Option.{none-some}
use Rattle.std.proofs.lemmas.List.Elements.{All-head, All-tail}
use Rattle.std.proofs.lemmas.List.Kept.{AllPairs-from_increasing}
use Rattle.std.proofs.lemmas.Slice.Eq.{bytes_eq-Decides, starts_is}
use Rattle.std.specs.List.{starts_with, All, AllPairs, Contains}
use Rattle.std.specs.Str.{bytes_eq}
use Rattle.ctl_stanza.specs.declared.fault.Cause.{Cause}
use Rattle.ctl_stanza.specs.declared.fault.Cause.TheVariants as causes
use Rattle.ctl_stanza.specs.declared.fault.TextFault.{TextFault}
use Rattle.ctl_stanza.specs.Faults.{number_of, fault_or, or_else}
use Rattle.ctl_stanza.specs.Fields.{is_same_name, package_name, FieldText, fields_of_lines, body_named}
use Rattle.ctl_stanza.specs.Laws.{LacksBody}
use Rattle.ctl_stanza.specs.LineRuns.{IsStanzaAt, IsStanzaBefore, Run, AreStanzasBefore}
use Rattle.ctl_stanza.specs.Records.{parts_of_field, numbered_field, record_of, RecordText, records_before_fault}
use Rattle.ctl_stanza.specs.RecordLaws.{HasRecordFault, AreRecordsUpTo, lines_kept, numbers_kept, record_at}
use Rattle.ctl_stanza.specs.Text.{or_fault}
use Rattle.ctl_stanza.proofs.CauseLemmas.{or-cases, or-left, or-right}
use Rattle.ctl_stanza.proofs.RelationLemmas.{same-respects}
use Rattle.ctl_stanza.proofs.WholeLemmas.{Rise, rise-from, Below, below-from}
use Rattle.ctl_store.proofs.PlaceLemmas.{some_is}
use Rattle.ctl_store.specs.declared.selector.Selector.{Selector}
use Rattle.ctl_store.specs.PinVersions.{is_pin_version}
use Rattle.ctl_store.specs.Prefs.{words_of, pin_name, priority_name, is_general, are_names, asked, version_asked, list_asked, asked_cause, pin_cause, field_cause, body_in, first_wrong, is_missing, own_fault, first_own_fault, first_settings, all_settings, settings_or_fault, read_prefs_text}
use Rattle.ctl_store.specs.PrefsFaults.{AsksForVersion, IsWrongPin, IsWrongField, is_for_any, LacksPart, IsLacking, HasWrongField, HasOwnFault, HasOwnFaultAt, HasPrefsFault, IsGoodRecordAt, IsLeastPrefsFault, ReadsPrefsOrTells}
use Rattle.ctl_store.specs.Priority.{priority_of}
use Rattle.ctl_relation.specs.Names.{is_name}

not-both : {A : Type 0} (o : Option A) (x : A) → o ≡ None → o ≡ Some x → ⊥
not-both o x none some = none-some x (sym none ∙ some)

-- ---- what a pin asks for

asks : (form front : List ℕ) (words : List (List ℕ)) (x : List ℕ) → asked form front words ≡ Some x → words ≡ form ∷ (front ++ x) ∷ []
asks form front [] x e = absurd cc
asks form front (a ∷ []) x e = absurd cc
asks form front (a ∷ b ∷ c ∷ words) x e = absurd cc
asks form front (a ∷ b ∷ []) x e = by (bytes_eq a form) (starts_with nat_eq b front) refl refl e
  where
    by : (p q : Bool) → bytes_eq a form ≡ p → starts_with nat_eq b front ≡ q → cond (p && q) (Some (drop (length front) b)) None ≡ Some x → a ∷ b ∷ [] ≡ form ∷ (front ++ x) ∷ []
    by true true p q e = ap₂ (λ f s. f ∷ s ∷ []) ((bytes_eq-Decides a form).0 p) ((starts_is Decides-eqb b front true (sym q)).0 refl ∙ ap (λ l. front ++ l) (some_is e))
    by true false p q e = absurd cc
    by false q p r e = absurd cc

-- ---- what is told is wrong

wrong-as : (general : Bool) (body : List ℕ) (a b : Cause) → Some a ≡ Some b → IsWrongPin general body a → IsWrongPin general body b
wrong-as general body a b e wrong = subst (IsWrongPin general body) (some_is e) wrong

pin-sound : (general : Bool) (body : List ℕ) (version list : Option (List ℕ)) (cause : Cause) → version_asked (words_of body) ≡ version → list_asked (words_of body) ≡ list
    → asked_cause general version list ≡ Some cause → IsWrongPin general body cause
pin-sound general body (Some v) list cause is_version is_list e = by (is_pin_version v) general refl refl e
  where
    asked-v : AsksForVersion body v
    asked-v = asks (codes "version") [] (words_of body) v is_version

    by : (p g : Bool) → is_pin_version v ≡ p → general ≡ g → cond p (cond g (Some causes.Form) None) (Some causes.Version) ≡ Some cause → IsWrongPin general body cause
    by true true p g e = wrong-as general body causes.Form cause e (inl (v, asked-v, g))
    by true false p g e = absurd cc
    by false g p h e = wrong-as general body causes.Version cause e (v, asked-v, p)
pin-sound general body None (Some l) cause is_version is_list e = by (is_name l) refl e
  where
    by : (p : Bool) → is_name l ≡ p → cond p None (Some causes.Name) ≡ Some cause → IsWrongPin general body cause
    by true p e = absurd cc
    by false p e = wrong-as general body causes.Name cause e (l, asks (codes "release") (codes "a=") (words_of body) l is_list, p)
pin-sound general body None None cause is_version is_list e = wrong-as general body causes.Form cause e (inr (record {
  no_version = λ version is. not-both (version_asked (words_of body)) version is_version (ap version_asked is);
  no_list = λ list is. not-both (list_asked (words_of body)) list is_list (ap list_asked is);
}))

false-of : (q : Bool) → not q ≡ true → q ≡ false
false-of q e = grind arith

none-of : (o : Option ℤ) → is_none o ≡ true → o ≡ None
none-of o e = grind arith

wrong-sound : (general : Bool) (name body : List ℕ) (cause : Cause) → field_cause general name body ≡ Some cause → IsWrongField general name body cause
wrong-sound general name body cause e =
    by (is_same_name name pin_name) (is_same_name name package_name && not (is_general (words_of body) || are_names (words_of body))) (is_same_name name priority_name && is_none (priority_of body)) refl refl refl e
  where
    by : (p q r : Bool) → is_same_name name pin_name ≡ p → (is_same_name name package_name && not (is_general (words_of body) || are_names (words_of body))) ≡ q → (is_same_name name priority_name && is_none (priority_of body)) ≡ r
        → cond p (pin_cause general (words_of body)) (cond q (Some causes.Name) (cond r (Some causes.Priority) None)) ≡ Some cause → IsWrongField general name body cause
    by true q r is x y e = inl (is, pin-sound general body (version_asked (words_of body)) (list_asked (words_of body)) cause refl refl e)
    by false true r x is y e =
        let wrong : IsWrongField general name body causes.Name = inr (inl ((and_parts _ _ is).0, false-of _ (and_parts _ _ is).1, refl)) in subst (IsWrongField general name body) (some_is e) wrong
    by false false true x y is e =
        let wrong : IsWrongField general name body causes.Priority = inr (inr ((and_parts _ _ is).0, none-of _ (and_parts _ _ is).1, refl)) in subst (IsWrongField general name body) (some_is e) wrong
    by false false false x y z e = absurd cc

-- ---- of what is wrong the lowest is told

-- a cause is told that isn't above this one
abbrev TellsLowest : Option Cause → Cause → Type 0
TellsLowest told cause = (lowest : Cause) × (told ≡ Some lowest) × (number_of lowest ≤ number_of cause)

option-none : {A : Type 0} (o : Option A) → ((x : A) → o ≡ Some x → ⊥) → o ≡ None
option-none None h = refl
option-none (Some x) h = absurd (h x refl)

pin-told : (general : Bool) (body : List ℕ) (cause : Cause) → IsWrongPin general body cause → TellsLowest (pin_cause general (words_of body)) cause
pin-told general body causes.Name (list, is, no_name) = (causes.Name, ap (pin_cause general) is ∙ cond-false _ _ _ no_name, omega arith)
pin-told general body causes.Version (version, is, no_version) = (causes.Version, ap (pin_cause general) is ∙ cond-false _ _ _ no_version, omega arith)
pin-told general body causes.Form (inl (version, is, any)) = by (is_pin_version version) refl
  where
    by : (p : Bool) → is_pin_version version ≡ p → TellsLowest (pin_cause general (words_of body)) causes.Form
    by true p = (causes.Form, ap (pin_cause general) is ∙ cond-true _ _ _ p ∙ cond-true _ _ _ any, omega arith)
    by false p = (causes.Version, ap (pin_cause general) is ∙ cond-false _ _ _ p, omega arith)
pin-told general body causes.Form (inr nothing) = (
  causes.Form,
  ap₂ (asked_cause general)
      (option-none (version_asked (words_of body)) (λ version e. nothing.no_version version (asks (codes "version") [] (words_of body) version e)))
      (option-none (list_asked (words_of body)) (λ list e. nothing.no_list list (asks (codes "release") (codes "a=") (words_of body) list e))),
  omega arith,
)
pin-told general body cause wrong = grind arith

wrong-told : (general : Bool) (name body : List ℕ) (cause : Cause) → IsWrongField general name body cause → TellsLowest (field_cause general name body) cause
wrong-told general name body cause (inl (is, wrong)) = let low = pin-told general body cause wrong in (low.0, cond-true _ _ _ is ∙ low.1, low.2)
wrong-told general name body cause (inr (inl (is, no_names, is_cause))) =
    (causes.Name, cond-false _ _ _ (same-respects name package_name pin_name is) ∙ cond-true _ _ _ (ap₂ (λ a b. a && not b) is no_names), omega (arith, ap number_of is_cause))
wrong-told general name body cause (inr (inr (is, none, is_cause))) = (
  causes.Priority,
  cond-false _ _ _ (same-respects name priority_name pin_name is)
      ∙ cond-false _ _ _ (ap (λ a. a && not (is_general (words_of body) || are_names (words_of body))) (same-respects name priority_name package_name is))
      ∙ cond-true _ _ _ (ap₂ (λ a o. a && is_none o) is none),
  omega (arith, ap number_of is_cause),
)

-- what is missing has the lowest number
field-above : (general : Bool) (name body : List ℕ) (cause : Cause) → IsWrongField general name body cause → 7 ≤ number_of cause
field-above general name body cause wrong = grind arith

-- ---- what is told of faults that stand at indices

-- a fault stands before another, or at the same index with no greater number
abbrev IsAtMost : ℕ → Cause → ℕ → Cause → Type 0
IsAtMost i cause j other = (i < j) ⊎ ((i ≡ j) × (number_of cause ≤ number_of other))

-- What is told is the least fault, of the line of this number; where nothing is told there is none.
abbrev TellsLeast : (ℕ → Cause → Type 0) → List ℕ → Option TextFault → Type 0
TellsLeast Has numbers None = (j : ℕ) (cause : Cause) → Has j cause → ⊥
TellsLeast Has numbers (Some fault) = (i : ℕ) × (fault.line ≡ slice_index numbers i) × Has i fault.cause × ((j : ℕ) (cause : Cause) → Has j cause → IsAtMost i fault.cause j cause)

-- of faults of two kinds, of which the first come before the others
or-tells : (Here There Has : ℕ → Cause → Type 0) (numbers : List ℕ) (first later : Option TextFault) → ((i j : ℕ) (a b : Cause) → Here i a → There j b → IsAtMost i a j b)
    → ((i : ℕ) (cause : Cause) → Here i cause ⊎ There i cause → Has i cause) → ((i : ℕ) (cause : Cause) → Has i cause → Here i cause ⊎ There i cause)
    → TellsLeast Here numbers first → TellsLeast There numbers later → TellsLeast Has numbers (or_else first later)
or-tells Here There Has numbers (Some fault) later before to from here there =
    (here.0, here.1, to here.0 fault.cause (inl here.2), λ j cause has. ⊎_elim (here.3 j cause) (before here.0 j fault.cause cause here.2) (from j cause has))
or-tells Here There Has numbers None (Some fault) before to from none there =
    (there.0, there.1, to there.0 fault.cause (inr there.2), λ j cause has. ⊎_elim (λ here. absurd (none j cause here)) (there.3 j cause) (from j cause has))
or-tells Here There Has numbers None None before to from none there = λ j cause has. ⊎_elim (none j cause) (there j cause) (from j cause has)

-- P holds of one of these
abbrev AnyOf : {X : Type 0} → (X → Type 0) → List X → Type 0
AnyOf P [] = ⊥
AnyOf P (x ∷ xs) = P x ⊎ AnyOf P xs

one-of : {X : Type 0} (P : X → Type 0) (xs : List X) (x : X) → Contains xs x → P x → AnyOf P xs
one-of P [] x has p = absurd (omega (arith, has.1))
one-of P (y ∷ ys) x (zero, lt, is) p = inl (subst P (sym is) p)
one-of P (y ∷ ys) x (suc k, lt, is) p = inr (one-of P ys x (k, omega arith, is) p)

the-one : {X : Type 0} (P : X → Type 0) (xs : List X) → AnyOf P xs → (x : X) × Contains xs x × P x
the-one P [] any = absurd any
the-one P (x ∷ xs) (inl p) = (x, (0, omega arith, refl), p)
the-one P (x ∷ xs) (inr any) = let later = the-one P xs any in (later.0, (suc later.1.0, omega (arith, later.1.1), later.1.2), later.2)

-- ---- the fields of a record, by the fields of its lines

abbrev parts : List ℕ → List FieldText → List (List ℕ × List ℕ × ℕ)
parts ns fs = map parts_of_field (map (numbered_field ns) fs)

body-named : (ns name : List ℕ) (fs : List FieldText) → body_in name (parts ns fs) ≡ unwrap_or (body_named name fs) []
body-named ns name [] = refl
body-named ns name (f ∷ fs) = grind (arith, body-named ns name fs)

below-in : (m : ℕ) (fs : List FieldText) (f : FieldText) → Below m fs → Contains fs f → f.line < m
below-in m [] f below has = absurd (omega (arith, has.1))
below-in m (g ∷ fs) f below (zero, lt, is) = omega (arith, below.0, ap (λ (x : FieldText). x.line) is)
below-in m (g ∷ fs) f below (suc k, lt, is) = below-in m fs f below.1 (k, omega arith, is)

-- the field begins at this line, and this cause is told of it
abbrev IsTold : Bool → ℕ → Cause → FieldText → Type 0
IsTold general i cause f = (f.line ≡ i) × (field_cause general f.name f.body ≡ Some cause)

told-from : (general : Bool) (m : ℕ) (fs : List FieldText) (i : ℕ) (cause : Cause) → Rise m fs → AnyOf (IsTold general i cause) fs → m ≤ i
told-from general m [] i cause rise any = absurd any
told-from general m (f ∷ fs) i cause rise (inl told) = omega (arith, rise.0, told.0)
told-from general m (f ∷ fs) i cause rise (inr any) = omega (arith, rise.0, told-from general (suc f.line) fs i cause rise.1 any)

fault-or : (n : ℕ) (o : Option Cause) (later : Option TextFault) → or_else (fault_or n o None) later ≡ fault_or n o later
fault-or n None later = refl
fault-or n (Some cause) later = refl

-- of fields whose lines rise the first that is wrong is told
fields-tell : (general : Bool) (ns : List ℕ) (m : ℕ) (fs : List FieldText) → Rise m fs → TellsLeast (λ i cause. AnyOf (IsTold general i cause) fs) ns (first_wrong general (parts ns fs))
fields-tell general ns m [] rise = λ j cause any. any
fields-tell general ns m (f ∷ fs) rise =
    subst (TellsLeast (λ i cause. AnyOf (IsTold general i cause) (f ∷ fs)) ns) (fault-or (slice_index ns f.line) (field_cause general f.name f.body) (first_wrong general (parts ns fs)))
    (or-tells (λ i cause. IsTold general i cause f) (λ i cause. AnyOf (IsTold general i cause) fs) (λ i cause. AnyOf (IsTold general i cause) (f ∷ fs)) ns
    (fault_or (slice_index ns f.line) (field_cause general f.name f.body) None) (first_wrong general (parts ns fs))
    (λ i j a b told later. inl (omega (arith, told.0, told-from general (suc f.line) fs j b rise.1 later)))
    (λ i cause has. has) (λ i cause has. has) (own (field_cause general f.name f.body) refl) (fields-tell general ns (suc f.line) fs rise.1))
  where
    own : (o : Option Cause) → field_cause general f.name f.body ≡ o → TellsLeast (λ i cause. IsTold general i cause f) ns (fault_or (slice_index ns f.line) o None)
    own None is = λ j cause told. not-both (field_cause general f.name f.body) cause is told.1
    own (Some cause) is = (f.line, refl, (refl, is), λ j other told. inr (told.0, omega (arith, ap number_of (some_is (sym is ∙ told.1)))))

-- ---- what is missing

abbrev is_empty_part : List ℕ → List ℕ → List (List ℕ) → Bool
is_empty_part ns name stanza = length (body_in name (parts ns (fields_of_lines stanza))) == 0

lacks-sound : (ns name : List ℕ) (stanza : List (List ℕ)) → is_empty_part ns name stanza ≡ true → LacksBody stanza name
lacks-sound ns name stanza e body is =
    nil_from_length body (eqb-true (length body) 0 (ap (λ (o : Option (List ℕ)). length (unwrap_or o []) == 0) (sym is) ∙ ap (λ (l : List ℕ). length l == 0) (sym (body-named ns name (fields_of_lines stanza))) ∙ e))

lacks-complete : (ns name : List ℕ) (stanza : List (List ℕ)) → LacksBody stanza name → is_empty_part ns name stanza ≡ true
lacks-complete ns name stanza lacks = grind (arith, body-named)

missing-sound : (ns : List ℕ) (stanza : List (List ℕ)) → is_missing (parts ns (fields_of_lines stanza)) ≡ true → LacksPart stanza
missing-sound ns stanza e = ⊎_elim
    (λ h. inl (lacks-sound ns package_name stanza h))
    (λ h. inr (⊎_elim (λ pin. inl (lacks-sound ns pin_name stanza pin)) (λ priority. inr (lacks-sound ns priority_name stanza priority)) (or-cases _ _ h)))
    (or-cases _ _ e)

missing-complete : (ns : List ℕ) (stanza : List (List ℕ)) → LacksPart stanza → is_missing (parts ns (fields_of_lines stanza)) ≡ true
missing-complete ns stanza (inl lacks) = or-left _ _ (lacks-complete ns package_name stanza lacks)
missing-complete ns stanza (inr (inl lacks)) = or-right _ _ (or-left _ _ (lacks-complete ns pin_name stanza lacks))
missing-complete ns stanza (inr (inr lacks)) = or-right _ _ (or-right _ _ (lacks-complete ns priority_name stanza lacks))

-- ---- the fault of a record without a faulty line

own-within : (stanza : List (List ℕ)) (i : ℕ) (cause : Cause) → 0 < length stanza → HasOwnFault stanza i cause → i < length stanza
own-within stanza i cause some (inl lacking) = omega (arith, lacking.first_line)
own-within stanza i cause some (inr wrong) =
    omega (arith, wrong.line, below-in (length stanza) (fields_of_lines stanza) wrong.field (below-from 0 (length stanza) stanza (omega arith)) wrong.stands)

own-tells : (ns : List ℕ) (stanza : List (List ℕ)) → TellsLeast (HasOwnFault stanza) ns (own_fault (record_of ns stanza))
own-tells ns stanza = by (is_missing (parts ns fs)) refl
  where
    fs : List FieldText
    fs = fields_of_lines stanza

    general : Bool
    general = is_for_any stanza

    own-told : is_missing (parts ns fs) ≡ false → (j : ℕ) (cause : Cause) → HasOwnFault stanza j cause → (lowest : Cause) × AnyOf (IsTold general j lowest) fs × (number_of lowest ≤ number_of cause)
    own-told whole j cause (inl lacking) = let clash : true ≡ false = sym (missing-complete ns stanza lacking.lacks) ∙ whole in absurd cc
    own-told whole j cause (inr wrong) =
        let low = wrong-told general wrong.field.name wrong.field.body cause wrong.wrong in
        (low.0, one-of (IsTold general j low.0) fs wrong.field wrong.stands (wrong.line, low.1), low.2)

    wrong-tells : is_missing (parts ns fs) ≡ false → (o : Option TextFault) → TellsLeast (λ i cause. AnyOf (IsTold general i cause) fs) ns o → TellsLeast (HasOwnFault stanza) ns o
    wrong-tells whole None none = λ j cause has. let low = own-told whole j cause has in none j low.0 low.1
    wrong-tells whole (Some fault) told =
        let f = the-one (IsTold general told.0 fault.cause) fs told.2 in (
          told.0,
          told.1,
          inr (record { field = f.0; stands = f.1; line = f.2.0; wrong = wrong-sound general f.0.name f.0.body fault.cause f.2.1 }),
          λ j cause has. let low = own-told whole j cause has in ⊎_elim (λ before. inl before) (λ here. inr (here.0, omega (arith, here.1, low.2))) (told.3 j low.0 low.1),
        )

    by : (b : Bool) → is_missing (parts ns fs) ≡ b
        → TellsLeast (HasOwnFault stanza) ns (cond b (Some (record { line = slice_index ns 0; cause = causes.Missing })) (first_wrong (is_general (words_of (body_in package_name (parts ns fs)))) (parts ns fs)))
    by true missing = (
      0,
      refl,
      inl (record { missing = refl; first_line = refl; lacks = missing-sound ns stanza missing }),
      λ j cause has. ⊎_elim
          (λ (lacking : IsLacking stanza j cause). inr (sym lacking.first_line, omega (arith, ap number_of lacking.missing)))
          (λ (wrong : HasWrongField stanza j cause). ⊎_elim (λ later. inl later) (λ first. inr (omega arith, field-above general wrong.field.name wrong.field.body cause wrong.wrong)) (cases_lt 0 j))
          has,
    )
    by false whole =
        subst (λ g. TellsLeast (HasOwnFault stanza) ns (first_wrong g (parts ns fs))) (ap (λ (l : List ℕ). is_general (words_of l)) (sym (body-named ns package_name fs)))
        (wrong-tells whole (first_wrong general (parts ns fs)) (fields-tell general ns 0 fs (rise-from 0 stanza)))

-- ---- the first record that has a fault of its own

-- one that starts before another ends before it
apart : (all : List (List ℕ)) (a b : ℕ) (s t : List (List ℕ)) → IsStanzaAt all a s → IsStanzaAt all b t → a < b → a + length s ≤ b
apart all a b s t is_s is_t less = ⊎_elim
    (λ (over : b < a + length s). let clash : false ≡ true = sym (is_s.no_blank (b - 1) (omega arith) (omega arith)) ∙ is_t.begins (b - 1) (omega arith) in absurd cc)
    (λ (le : a + length s ≤ b). le)
    (cases_lt b (a + length s))

-- the line at an index is one of the run, which has this fault there
abbrev HasOwnIn : ℕ → Cause → Run → Type 0
HasOwnIn i cause r = (k : ℕ) × (r.start + k ≡ i) × HasOwnFault r.lines k cause

abbrev starts : List Run → List ℕ
starts rs = map (λ (r : Run). r.start) rs

-- a run starts before each of those behind it
start-before : (r : Run) (rs : List Run) (s : Run) → AllPairs (λ (i j : ℕ). i < j) (starts (r ∷ rs)) → Contains rs s → r.start < s.start
start-before r rs s rise (k, lt, is) =
    subst (λ j. r.start < j) (get_or-map (λ (x : Run). x.start) rs k s 0 lt ∙ ap (λ (x : Run). x.start) is)
    (rise 0 (suc k) 0 (omega arith) (omega (arith, lt, length-map rs (λ (x : Run). x.start))))

-- the number of a line of a record
number-here : (numbers : List ℕ) (from len j : ℕ) → j < len → slice_index (take len (drop from numbers)) j ≡ slice_index numbers (from + j)
number-here numbers from len j lt = get_or-take len (drop from numbers) j 0 lt ∙ get_or-drop from numbers j 0

runs-tell : (lines : List (List ℕ)) (end : ℕ) (numbers : List ℕ) (rs : List Run) → All (IsStanzaBefore lines end) rs → AllPairs (λ (i j : ℕ). i < j) (starts rs)
    → TellsLeast (λ i cause. AnyOf (HasOwnIn i cause) rs) numbers (first_own_fault (map (record_at numbers) rs))
runs-tell lines end numbers [] stand rise = λ j cause any. any
runs-tell lines end numbers (r ∷ rs) stand rise =
    or-tells (λ i cause. HasOwnIn i cause r) (λ i cause. AnyOf (HasOwnIn i cause) rs) (λ i cause. AnyOf (HasOwnIn i cause) (r ∷ rs)) numbers
    (own_fault (record_at numbers r)) (first_own_fault (map (record_at numbers) rs)) before (λ i cause has. has) (λ i cause has. has)
    (own (own_fault (record_at numbers r)) (own-tells (take (length r.lines) (drop r.start numbers)) r.lines))
    (runs-tell lines end numbers rs others (λ i j d lt within. rise (suc i) (suc j) d (omega arith) (omega arith)))
  where
    here : IsStanzaAt lines r.start r.lines
    here = (All-head (IsStanzaBefore lines end) r rs stand).0

    others : All (IsStanzaBefore lines end) rs
    others = All-tail (IsStanzaBefore lines end) r rs stand

    own : (o : Option TextFault) → TellsLeast (HasOwnFault r.lines) (take (length r.lines) (drop r.start numbers)) o → TellsLeast (λ i cause. HasOwnIn i cause r) numbers o
    own None none = λ j cause has. none has.0 cause has.2
    own (Some fault) told = (
      r.start + told.0,
      told.1 ∙ number-here numbers r.start (length r.lines) told.0 (own-within r.lines told.0 fault.cause here.some told.2),
      (told.0, refl, told.2),
      λ j cause has. ⊎_elim (λ earlier. inl (omega (arith, earlier, has.1))) (λ same. inr (omega (arith, same.0, has.1), same.1)) (told.3 has.0 cause has.2),
    )

    before : (i j : ℕ) (a b : Cause) → HasOwnIn i a r → AnyOf (HasOwnIn j b) rs → IsAtMost i a j b
    before i j a b has any =
        let one = the-one (HasOwnIn j b) rs any in
        let there : IsStanzaBefore lines end one.0 = subst (IsStanzaBefore lines end) one.1.2 (others one.1.0 one.0 one.1.1) in
        inl (omega (
          arith,
          has.1,
          own-within r.lines has.0 a here.some has.2,
          apart lines r.start one.0.start r.lines one.0.lines here there.0 (start-before r rs one.0 rise one.1),
          one.2.1,
        ))

-- ---- the least fault

module _ (n : ℕ) (text : List ℕ) where
  abbrev lines : List (List ℕ)
  lines = lines_kept n text

  abbrev numbers : List ℕ
  numbers = numbers_kept n text

  law : (told : Option TextFault) (settings : List (Selector × ℤ)) → read_prefs_text n text ≡ or_fault told (Ok settings) → TellsLeast (HasPrefsFault lines) numbers told → ReadsPrefsOrTells n text
  law None settings is none = record {
    read = λ other e. none;
    told = λ fault e. let clash : Ok settings ≡ Err fault = sym is ∙ e in absurd cc;
  }
  law (Some fault) settings is told = record {
    read = λ other e. let clash : Err fault ≡ Ok other = sym is ∙ e in absurd cc;
    told = λ other e. let both : Err fault ≡ Err other = sym is ∙ e in let same : fault ≡ other = cc in subst (IsLeastPrefsFault n text) same least;
  }
    where
      least : IsLeastPrefsFault n text fault
      least = record {
        index = told.0;
        line = told.1;
        sound = told.2;
        least = λ j cause has. ⊎_elim (λ before. omega (arith, before)) (λ here. omega (arith, here.0)) (told.3 j cause has);
        lowest = λ cause has. ⊎_elim (λ before. absurd (omega (arith, before))) (λ here. here.1) (told.3 told.0 cause has);
      }

  -- a faulty line, or the fault of a record behind the end
  abbrev HasLater : ℕ → ℕ → Cause → Type 0
  HasLater end i cause = HasRecordFault lines i cause ⊎ ((end < i) × HasOwnFaultAt lines i cause)

  -- where all faulty lines come from the end on, and a record ends there or starts behind it
  whole-tells : (end : ℕ) (runs : List Run) → AreStanzasBefore lines end runs → ((i : ℕ) (cause : Cause) → HasRecordFault lines i cause → end ≤ i)
      → ((start : ℕ) (stanza : List (List ℕ)) → IsGoodRecordAt lines start stanza → (start + length stanza ≤ end) ⊎ (end < start))
      → (faulty : Option TextFault) → TellsLeast (HasLater end) numbers faulty → TellsLeast (HasPrefsFault lines) numbers (or_else (first_own_fault (map (record_at numbers) runs)) faulty)
  whole-tells end runs are clean ends faulty later =
      or-tells (λ i cause. AnyOf (HasOwnIn i cause) runs) (HasLater end) (HasPrefsFault lines) numbers (first_own_fault (map (record_at numbers) runs)) faulty before to from
      (runs-tell lines end numbers runs are.stand (AllPairs-from_increasing (starts runs) are.rise)) later
    where
      run-of : (i : ℕ) (cause : Cause) → AnyOf (HasOwnIn i cause) runs → (r : Run) × IsStanzaBefore lines end r × HasOwnIn i cause r
      run-of i cause any = let one = the-one (HasOwnIn i cause) runs any in (one.0, subst (IsStanzaBefore lines end) one.1.2 (are.stand one.1.0 one.0 one.1.1), one.2)

      before : (i j : ℕ) (a b : Cause) → AnyOf (HasOwnIn i a) runs → HasLater end j b → IsAtMost i a j b
      before i j a b any later =
          let r = run-of i a any in
          let past : end ≤ j = ⊎_elim (clean j b) (λ behind. omega (arith, behind.0)) later in
          inl (omega (arith, past, r.1.1, r.2.1, own-within r.0.lines r.2.0 a r.1.0.some r.2.2))

      to : (i : ℕ) (cause : Cause) → AnyOf (HasOwnIn i cause) runs ⊎ HasLater end i cause → HasPrefsFault lines i cause
      to i cause (inl any) =
          let r = run-of i cause any in
          let good : IsGoodRecordAt lines r.0.start r.0.lines = record { stands = r.1.0; good = λ j other ge lt has. absurd (omega (arith, clean j other has, lt, r.1.1)) } in
          inr (record { start = r.0.start; stanza = r.0.lines; is_record = good; index = r.2.0; line = r.2.1; fault = r.2.2 })
      to i cause (inr (inl has)) = inl has
      to i cause (inr (inr behind)) = inr behind.1

      from : (i : ℕ) (cause : Cause) → HasPrefsFault lines i cause → AnyOf (HasOwnIn i cause) runs ⊎ HasLater end i cause
      from i cause (inl has) = inr (inl has)
      from i cause (inr own) = ⊎_elim
          (λ within.
          let r : Run = record { start = own.start; lines = own.stanza } in
          inl (one-of (HasOwnIn i cause) runs r (are.whole r (own.is_record.stands, within)) (own.index, own.line, own.fault)))
          (λ past. inr (inr (omega (arith, past, own.line), own)))
          (ends own.start own.stanza own.is_record)

  abbrev settings : List RecordText → List (Selector × ℤ)
  settings records = first_settings [] (all_settings records)

  reads-by : (read : List RecordText × Option TextFault) → records_before_fault n text ≡ read → AreRecordsUpTo n text read.0 read.1 → ReadsPrefsOrTells n text
  reads-by (records, None) e known = law (or_else (first_own_fault records) None) (settings records) (ap settings_or_fault e)
      (subst (λ rs. TellsLeast (HasPrefsFault lines) numbers (or_else (first_own_fault rs) None)) (sym known.1.records_are)
      (whole-tells (length lines) known.1.runs known.1.are_runs (λ i cause has. absurd (known.0 i cause has)) (λ start stanza good. inl good.stands.within) None none))
    where
      none : (j : ℕ) (cause : Cause) → HasLater (length lines) j cause → ⊥
      none j cause (inl has) = known.0 j cause has
      none j cause (inr (past, own)) =
          omega (arith, past, own.line, own-within own.stanza own.index cause own.is_record.stands.some own.fault, own.is_record.stands.within)
  reads-by (records, Some faulty) e known = law (or_else (first_own_fault records) (Some faulty)) (settings records) (ap settings_or_fault e)
      (subst (λ rs. TellsLeast (HasPrefsFault lines) numbers (or_else (first_own_fault rs) (Some faulty))) (sym known.1.records_are)
      (whole-tells known.0.index known.1.runs known.1.are_runs known.0.least ends (Some faulty) (known.0.index, known.0.line, inl known.0.sound, reach)))
    where
      ends : (start : ℕ) (stanza : List (List ℕ)) → IsGoodRecordAt lines start stanza → (start + length stanza ≤ known.0.index) ⊎ (known.0.index < start)
      ends start stanza is = ⊎_elim
          (λ past. inr past)
          (λ le. ⊎_elim (λ over. absurd (is.good known.0.index faulty.cause le over known.0.sound)) (λ within. inl within) (cases_lt known.0.index (start + length stanza)))
          (cases_lt known.0.index start)

      reach : (j : ℕ) (cause : Cause) → HasLater known.0.index j cause → IsAtMost known.0.index faulty.cause j cause
      reach j cause (inr behind) = inl behind.0
      reach j cause (inl has) = ⊎_elim
          (λ before. inl before)
          (λ on. let same : j ≡ known.0.index = omega (arith, on, known.0.least j cause has) in inr (sym same, known.0.lowest cause (subst (λ i. HasRecordFault lines i cause) same has)))
          (cases_lt known.0.index j)

  pub reads_prefs_or_tells : AreRecordsUpTo n text (records_before_fault n text).0 (records_before_fault n text).1 → ReadsPrefsOrTells n text
  reads_prefs_or_tells known = reads-by (records_before_fault n text) refl known
