-- The cause that is told of a line is the one of its faults with the lowest number.
use Rattle.std.proofs.Common.{◌≡◌, ◌⊎◌, ◌∙◌, ◌+◌, ◌<◌, ◌≤◌, not, nat_lt, ◌&&◌, ◌||◌, ◌==◌, ℕ, zero, suc, Bool, true, false, List, [], ◌∷◌, length, take, drop, get_or, Option, Some, None, refl, sym, ap, subst, arith, inl, inr, ⊎_elim}
use Rattle.std.proofs.lemmas.Bool.{cases_Bool, cond-true, cond-false, ltb-true, ltb-false, eqb-true, eqb-false}
use Rattle.std.proofs.lemmas.List.Folds.{list_any-append}
use Rattle.std.proofs.lemmas.List.{drop_all}
use Rattle.ctl_stanza.specs.declared.line_kind.LineKind.{LineKind}
use Rattle.ctl_stanza.specs.declared.line_kind.LineKind.TheVariants.{Blank, Field, Continuation, Faulty}
use Rattle.ctl_stanza.specs.declared.fault.TextFault.{TextFault}
use Rattle.ctl_stanza.specs.declared.fault.Cause.{Cause}
use Rattle.ctl_stanza.specs.declared.fault.Cause.TheVariants as causes
use Rattle.ctl_stanza.specs.Lines.{max_line, is_too_long}
use Rattle.ctl_stanza.specs.declared.repeats.Repeats.{Repeats}
use Rattle.ctl_stanza.specs.LineKind.{kind_of}
use Rattle.ctl_stanza.specs.Fields.{is_same_name, may_repeat}
use Rattle.ctl_stanza.specs.Faults.{number_of, name_in, names_of, has_name, gives_name, body_len, repeat_cause, continuation_cause, cause_of, cause_with, first_fault}
use Rattle.ctl_stanza.specs.LineRuns.{line_at}
use Rattle.ctl_stanza.specs.Laws.{IsNameGiven, IsFieldTwice, MakesBodyTooLong, ContinuesNothing, IsFaultyLine}
use Rattle.ctl_stanza.proofs.FaultLemmas.{gives-is, turn-fault, turn-good}
use Rattle.ctl_stanza.proofs.KeepLemmas.{option_either}

-- ---- what is told of faults, each at an index

-- a fault stands before this line, or on it with no greater number
abbrev pub IsAtMost : TextFault → ℕ → Cause → Type 0
IsAtMost fault line cause = (fault.line < line) ⊎ ((fault.line ≡ line) × (number_of fault.cause ≤ number_of cause))

-- a fault that is told is one, and where there is a fault one is told that is at most this
pub record TellsLeast (Has : ℕ → Cause → Type 0) (n : ℕ) (told : Option TextFault) : Type 0 where
  pub sound : (fault : TextFault) → told ≡ Some fault → (i : ℕ) × (fault.line ≡ n + i) × Has i fault.cause
  pub least : (i : ℕ) (cause : Cause) → Has i cause → (fault : TextFault) × (told ≡ Some fault) × IsAtMost fault (n + i) cause

-- ---- names given

gives-field : (kind : LineKind) (line name : List ℕ) → gives_name kind line name ≡ true → (n : ℕ) × (kind ≡ Field n) × (is_same_name name (take n line) ≡ true)
gives-field (Field n) line name e = (n, refl, e)
gives-field Blank line name e = absurd (cc)
gives-field Continuation line name e = absurd (cc)
gives-field Faulty line name e = absurd (cc)

field-gives : (kind : LineKind) (line name : List ℕ) (n : ℕ) → kind ≡ Field n → is_same_name name (take n line) ≡ true → gives_name kind line name ≡ true
field-gives (Field m) line name n is same = let e : m ≡ n = cc in ap (λ k. is_same_name name (take k line)) e ∙ same
field-gives Blank line name n is same = absurd (cc)
field-gives Continuation line name n is same = absurd (cc)
field-gives Faulty line name n is same = absurd (cc)

has_name-cons : (l : List ℕ) (ls : List (List ℕ)) (name : List ℕ) → has_name (names_of (l ∷ ls)) name ≡ (gives_name (kind_of l) l name || has_name (names_of ls) name)
has_name-cons l ls name = list_any-append (λ x. is_same_name name x) (name_in (kind_of l) l) (names_of ls) ∙ ap (λ t. t || has_name (names_of ls) name) (gives-is (kind_of l) l name)

pub or-cases : (a b : Bool) → (a || b) ≡ true → (a ≡ true) ⊎ (b ≡ true)
or-cases true b e = inl refl
or-cases false b e = inr e

pub or-left : (a b : Bool) → a ≡ true → (a || b) ≡ true
or-left true b e = refl
or-left false b e = absurd (cc)

pub or-right : (a b : Bool) → b ≡ true → (a || b) ≡ true
or-right true b e = refl
or-right false b e = e

given-sound : (before : List (List ℕ)) (name : List ℕ) → has_name (names_of before) name ≡ true → IsNameGiven before name
given-sound [] name e = absurd (cc)
given-sound (l ∷ ls) name e = ⊎_elim
    (λ (here : gives_name (kind_of l) l name ≡ true).
    let field = gives-field (kind_of l) l name here in
    let first : IsNameGiven (l ∷ ls) name = record { earlier = l; stands = (0, omega arith, refl); bytes = field.0; is_field = field.1; same = field.2 } in first)
    (λ (later : has_name (names_of ls) name ≡ true).
    let rest = given-sound ls name later in
    let more : IsNameGiven (l ∷ ls) name = record { earlier = rest.earlier; stands = (suc rest.stands.0, omega (arith, rest.stands.1), rest.stands.2); bytes = rest.bytes; is_field = rest.is_field; same = rest.same } in more)
    (or-cases _ _ (sym (has_name-cons l ls name) ∙ e))

given-at : (before : List (List ℕ)) (name earlier : List ℕ) (k n : ℕ) → k < length before → get_or before k earlier ≡ earlier → kind_of earlier ≡ Field n → is_same_name name (take n earlier) ≡ true
    → has_name (names_of before) name ≡ true
given-at [] name earlier k n lt stands is same = absurd (omega arith)
given-at (l ∷ ls) name earlier zero n lt stands is same =
    has_name-cons l ls name ∙ or-left _ _ (ap (λ t. gives_name (kind_of t) t name) stands ∙ field-gives (kind_of earlier) earlier name n is same)
given-at (l ∷ ls) name earlier (suc k) n lt stands is same =
    has_name-cons l ls name ∙ or-right _ _ (given-at ls name earlier k n (omega arith) stands is same)

given-complete : (before : List (List ℕ)) (name : List ℕ) → IsNameGiven before name → has_name (names_of before) name ≡ true
given-complete before name given = given-at before name given.earlier given.stands.0 given.bytes given.stands.1 given.stands.2 given.is_field given.same

-- ---- one line

and-left : (a b : Bool) → (a && b) ≡ true → a ≡ true
and-left true b e = refl
and-left false b e = absurd (cc)

and-right : (a b : Bool) → (a && b) ≡ true → b ≡ true
and-right true b e = e
and-right false b e = absurd (cc)

not-true : (a : Bool) → not a ≡ true → a ≡ false
not-true true e = absurd (cc)
not-true false e = refl

repeat-sound : (r : Repeats) (before : List (List ℕ)) (line : List ℕ) (n : ℕ) (cause : Cause) → kind_of line ≡ Field n
    → repeat_cause (has_name (names_of before) (take n line)) (may_repeat r (take n line)) ≡ Some cause → IsFaultyLine r before line cause
repeat-sound r before line n cause is e =
    let given = has_name (names_of before) (take n line) in
    let allowed = may_repeat r (take n line) in
    ⊎_elim
    (λ (both : (given && not allowed) ≡ true).
    let here : repeat_cause given allowed ≡ Some causes.FieldTwice = cond-true _ _ _ both in
    let same : causes.FieldTwice ≡ cause = cc in
    let twice : IsFieldTwice r before line = record {
      bytes = n;
      is_field = is;
      given = given-sound before (take n line) (and-left given (not allowed) both);
      once = not-true allowed (and-right given (not allowed) both);
    } in
    subst (IsFaultyLine r before line) same twice)
    (λ (none : (given && not allowed) ≡ false). let here : repeat_cause given allowed ≡ None = cond-false _ _ _ none in absurd (cc))
    (cases_Bool (given && not allowed))

continuation-sound : (r : Repeats) (before : List (List ℕ)) (line : List ℕ) (cause : Cause) → kind_of line ≡ Continuation
    → continuation_cause (length before == 0) (body_len before + (1 + length line)) ≡ Some cause → IsFaultyLine r before line cause
continuation-sound r before line cause is e = ⊎_elim
    (λ (first : (length before == 0) ≡ true).
    let here : continuation_cause (length before == 0) (body_len before + (1 + length line)) ≡ Some causes.Line = cond-true _ _ _ first in
    let same : causes.Line ≡ cause = cc in
    let nothing : ContinuesNothing before line = record { is_first = eqb-true (length before) 0 first; continues = is } in
    let fault : IsFaultyLine r before line causes.Line = inl nothing in
    subst (IsFaultyLine r before line) same fault)
    (λ (behind : (length before == 0) ≡ false). ⊎_elim
    (λ (long : nat_lt max_line (body_len before + (1 + length line)) ≡ true).
    let here : continuation_cause (length before == 0) (body_len before + (1 + length line)) ≡ Some causes.TooLong = cond-false _ _ _ behind ∙ cond-true _ _ _ long in
    let same : causes.TooLong ≡ cause = cc in
    let differ = eqb-false (length before) 0 behind in
    let makes : MakesBodyTooLong before line = record { behind_line = omega arith; continues = is; too_long = ltb-true max_line _ long } in
    let fault : IsFaultyLine r before line causes.TooLong = inr makes in
    subst (IsFaultyLine r before line) same fault)
    (λ (short : nat_lt max_line (body_len before + (1 + length line)) ≡ false).
    let here : continuation_cause (length before == 0) (body_len before + (1 + length line)) ≡ None = cond-false _ _ _ behind ∙ cond-false _ _ _ short in absurd (cc))
    (cases_Bool (nat_lt max_line (body_len before + (1 + length line)))))
    (cases_Bool (length before == 0))

-- the cause of a line within the limit
abbrev pub short_cause : Repeats → List (List ℕ) → List ℕ → LineKind → Option Cause
short_cause r before line kind = cause_with r (has_name (names_of before)) (length before == 0) (body_len before) line kind

short-sound : (r : Repeats) (before : List (List ℕ)) (line : List ℕ) (kind : LineKind) (cause : Cause) → kind_of line ≡ kind → short_cause r before line kind ≡ Some cause → IsFaultyLine r before line cause
short-sound r before line (Field n) cause is e = repeat-sound r before line n cause is e
short-sound r before line Blank cause is e = absurd (cc)
short-sound r before line Continuation cause is e = continuation-sound r before line cause is e
short-sound r before line Faulty cause is e =
    let same : causes.Line ≡ cause = cc in let no_field : IsFaultyLine r before line causes.Line = inr is in subst (IsFaultyLine r before line) same no_field

pub cause-sound : (r : Repeats) (before : List (List ℕ)) (line : List ℕ) (cause : Cause) → cause_of r before line ≡ Some cause → IsFaultyLine r before line cause
cause-sound r before line cause e = ⊎_elim
    (λ (long : is_too_long line ≡ true).
    let here : cause_of r before line ≡ Some causes.TooLong = cond-true _ _ _ long in
    let same : causes.TooLong ≡ cause = cc in
    let too_long : IsFaultyLine r before line causes.TooLong = inl (ltb-true max_line (length line) long) in
    subst (IsFaultyLine r before line) same too_long)
    (λ (short : is_too_long line ≡ false). short-sound r before line (kind_of line) cause refl (sym (cond-false _ _ _ short) ∙ e))
    (cases_Bool (is_too_long line))

number-least : (cause : Cause) → number_of causes.TooLong ≤ number_of cause
number-least causes.TooLong = omega arith
number-least causes.Line = omega arith
number-least causes.FieldTwice = omega arith
number-least causes.Missing = omega arith
number-least causes.Name = omega arith
number-least causes.Version = omega arith
number-least causes.Relation = omega arith
number-least causes.Priority = omega arith
number-least causes.Form = omega arith
number-least causes.Memory = omega arith

-- the cause that is told of a line, which has a fault
abbrev pub CauseLeast : Repeats → List (List ℕ) → List ℕ → Cause → Type 0
CauseLeast r before line cause = (told : Cause) × (cause_of r before line ≡ Some told) × (number_of told ≤ number_of cause)

-- what is told of a line within the limit, by its kind
short-told : (r : Repeats) (before : List (List ℕ)) (line : List ℕ) (kind : LineKind) (told cause : Cause) → is_too_long line ≡ false → kind_of line ≡ kind
    → short_cause r before line kind ≡ Some told → number_of told ≤ number_of cause → CauseLeast r before line cause
short-told r before line kind told cause short is e le = (told, cond-false _ _ _ short ∙ ap (short_cause r before line) is ∙ e, le)

behind-false : (n : ℕ) → 0 < n → (n == 0) ≡ false
behind-false n lt = ⊎_elim (λ (is : (n == 0) ≡ true). let zero_is = eqb-true n 0 is in absurd (omega arith)) (λ (other : (n == 0) ≡ false). other) (cases_Bool (n == 0))

first-true : (n : ℕ) → n ≡ 0 → (n == 0) ≡ true
first-true n e = ap (λ m. m == 0) e

long-true : (m n : ℕ) → m < n → nat_lt m n ≡ true
long-true m n lt = ⊎_elim (λ (long : nat_lt m n ≡ true). long) (λ (short : nat_lt m n ≡ false). let le = ltb-false m n short in absurd (omega arith)) (cases_Bool (nat_lt m n))

and-true : (a b : Bool) → a ≡ true → b ≡ false → (a && not b) ≡ true
and-true true false e f = refl
and-true true true e f = absurd (cc)
and-true false b e f = absurd (cc)

short-least : (r : Repeats) (before : List (List ℕ)) (line : List ℕ) (cause : Cause) → is_too_long line ≡ false → IsFaultyLine r before line cause → CauseLeast r before line cause
short-least r before line causes.TooLong short fault = ⊎_elim
    (λ (long : max_line < length line). let le = ltb-false max_line (length line) short in absurd (omega arith))
    (λ (makes : MakesBodyTooLong before line).
    short-told r before line Continuation causes.TooLong causes.TooLong short makes.continues
    (cond-false _ _ _ (behind-false (length before) makes.behind_line) ∙ cond-true _ _ _ (long-true max_line _ makes.too_long)) (omega arith))
    fault
short-least r before line causes.Line short fault =
    ⊎_elim
    (λ (nothing : ContinuesNothing before line).
    short-told r before line Continuation causes.Line causes.Line short nothing.continues (cond-true _ _ _ (first-true (length before) nothing.is_first)) (omega arith))
    (λ (is : kind_of line ≡ Faulty). short-told r before line Faulty causes.Line causes.Line short is refl (omega arith))
    fault
short-least r before line causes.FieldTwice short fault =
    short-told r before line (Field fault.bytes) causes.FieldTwice causes.FieldTwice short fault.is_field
    (cond-true _ _ _ (and-true _ _ (given-complete before (take fault.bytes line) fault.given) fault.once)) (omega arith)
short-least r before line causes.Missing short fault = absurd fault
short-least r before line causes.Name short fault = absurd fault
short-least r before line causes.Version short fault = absurd fault
short-least r before line causes.Relation short fault = absurd fault
short-least r before line causes.Priority short fault = absurd fault
short-least r before line causes.Form short fault = absurd fault
short-least r before line causes.Memory short fault = absurd fault

pub cause-least : (r : Repeats) (before : List (List ℕ)) (line : List ℕ) (cause : Cause) → IsFaultyLine r before line cause → CauseLeast r before line cause
cause-least r before line cause fault = ⊎_elim
    (λ (long : is_too_long line ≡ true). (causes.TooLong, cond-true _ _ _ long, number-least cause))
    (λ (short : is_too_long line ≡ false). short-least r before line cause short fault)
    (cases_Bool (is_too_long line))

-- ---- the lines of a stanza

abbrev pub HasFaultyLine : Repeats → List (List ℕ) → ℕ → Cause → Type 0
HasFaultyLine r ls i cause = (i < length ls) × IsFaultyLine r (take i ls) (line_at ls i) cause

none-left : (r : Repeats) (ls : List (List ℕ)) (n i : ℕ) → i ≡ length ls → first_fault r n (take i ls) (drop i ls) ≡ None
none-left r ls n i e = ap (first_fault r n (take i ls)) (drop_all i ls (omega arith))

pub same-some : {A : Type 0} (f g : A) (o : Option A) → o ≡ Some f → o ≡ Some g → f ≡ g
same-some f g o e h = cc

lines-sound : (r : Repeats) (ls : List (List ℕ)) (k i n : ℕ) (f : TextFault) → i + k ≡ length ls → first_fault r (n + i) (take i ls) (drop i ls) ≡ Some f
    → (j : ℕ) × (f.line ≡ n + j) × HasFaultyLine r ls j f.cause
lines-sound r ls zero i n f e found = let none = none-left r ls (n + i) i (omega arith) in absurd (cc)
lines-sound r ls (suc k) i n f e found =
    let lt : i < length ls = omega arith in
    ⊎_elim
    (λ none. lines-sound r ls k (i + 1) n f (omega arith) (sym (turn-good r ls (n + i) (n + (i + 1)) i (i + 1) refl (omega arith) lt none) ∙ found))
    (λ some.
    let here = turn-fault r ls (n + i) i some.0 lt some.1 in
    let same = same-some _ f _ here found in
    (i, sym (ap (λ (g : TextFault). g.line) same), (lt, cause-sound r (take i ls) (get_or ls i []) f.cause (some.1 ∙ ap (λ (g : TextFault). Some g.cause) same))))
    (option_either (cause_of r (take i ls) (get_or ls i [])))

lines-least : (r : Repeats) (ls : List (List ℕ)) (k i n j : ℕ) (c : Cause) → i + k ≡ length ls → i ≤ j → j < length ls → cause_of r (take j ls) (get_or ls j []) ≡ Some c
    → (f : TextFault) × (first_fault r (n + i) (take i ls) (drop i ls) ≡ Some f) × IsAtMost f (n + j) c
lines-least r ls zero i n j c e le short fault = absurd (omega arith)
lines-least r ls (suc k) i n j c e le short fault =
    let lt : i < length ls = omega arith in
    ⊎_elim
    (λ none.
    let other : i ≡ j → ⊥ = λ same. let clash = rw (← same) at fault in cc in
    let later = lines-least r ls k (i + 1) n j c (omega arith) (omega arith) short fault in
    (later.0, turn-good r ls (n + i) (n + (i + 1)) i (i + 1) refl (omega arith) lt none ∙ later.1, later.2))
    (λ some.
    let here = turn-fault r ls (n + i) i some.0 lt some.1 in
    let first : TextFault = record { line = n + i; cause = some.0 } in
    let at_most : IsAtMost first (n + j) c = ⊎_elim
    (λ (is : (i == j) ≡ true).
    let same = eqb-true i j is in
    let cause : some.0 ≡ c = same-some _ _ _ some.1 (rw (← same) at fault) in
    inr (ap (λ m. n + m) same, omega (arith, ap number_of cause)))
    (λ (other : (i == j) ≡ false). inl (let differ = eqb-false i j other in omega arith))
    (cases_Bool (i == j)) in
    (first, here, at_most))
    (option_either (cause_of r (take i ls) (get_or ls i [])))

at-most-less : (f : TextFault) (line : ℕ) (told cause : Cause) → number_of told ≤ number_of cause → IsAtMost f line told → IsAtMost f line cause
at-most-less f line told cause le at_most = elim at_most [
  | inl before ↦ inl before
  | inr on ↦ inr (on.0, omega (arith, on.1))
]

pub lines_tell : (r : Repeats) (n : ℕ) (ls : List (List ℕ)) → TellsLeast (HasFaultyLine r ls) n (first_fault r n [] ls)
lines_tell r n ls =
    let here : n + 0 ≡ n = omega arith in
    record {
      sound = λ f e. lines-sound r ls (length ls) 0 n f (omega arith) (ap (λ k. first_fault r k [] ls) here ∙ e);
      least = λ j c fault.
          let told = cause-least r (take j ls) (line_at ls j) c fault.1 in
          let found = lines-least r ls (length ls) 0 n j told.0 (omega arith) (omega arith) fault.0 told.1 in
          (found.0, ap (λ k. first_fault r k [] ls) (sym here) ∙ found.1, at-most-less found.0 (n + j) told.0 c told.2 found.2);
    }
