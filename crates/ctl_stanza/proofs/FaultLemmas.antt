-- Faulty lines, one after another.
use Rattle.std.proofs.Common.{◌≡◌, ◌∙◌, ◌+◌, ◌<◌, ℕ, suc, Bool, true, false, cond, not, ◌==◌, ◌&&◌, ◌||◌, nat_lt, is_none, List, [], ◌∷◌, ◌++◌, length, take, drop, get_or, Option, Some, None, refl, sym, ap, ap₂, arith, append_assoc}
use Rattle.std.proofs.lemmas.List.{append-nil, take_more, drop_more, length-take-le}
use Rattle.std.proofs.lemmas.List.Folds.{list_any-append}
use Rattle.ctl_stanza.specs.declared.line_kind.LineKind.{LineKind}
use Rattle.ctl_stanza.specs.declared.line_kind.LineKind.TheVariants.{Blank, Field, Continuation, Faulty}
use Rattle.ctl_stanza.specs.declared.fault.TextFault.{TextFault}
use Rattle.ctl_stanza.specs.declared.fault.Cause.{Cause}
use Rattle.ctl_stanza.specs.declared.fault.Cause.TheVariants as causes
use Rattle.ctl_stanza.specs.Lines.{max_line, is_too_long}
use Rattle.ctl_stanza.specs.LineKind.{kind_of}
use Rattle.ctl_stanza.specs.Fields.{FieldText, is_same_name, may_repeat, package_name, version_name}
use Rattle.ctl_stanza.specs.RelationFields.{relation_kind}
use Rattle.ctl_stanza.specs.declared.repeats.Repeats.{Repeats}
use Rattle.ctl_relation.specs.declared.field_kind.FieldKind.{FieldKind}
use Rattle.ctl_relation.specs.Reading.{relations_of}
use Rattle.ctl_relation.specs.Version.{fault_of}
use Rattle.ctl_relation.specs.Names.{is_name}
use Rattle.ctl_stanza.specs.Faults.{name_in, names_of, has_name, gives_name, body_step, body_len_from, body_len, repeat_cause, continuation_cause, cause_by, cause_of, cause_with, fault_or, first_fault, is_read, relation_cause, live_cause, field_cause, first_wrong}

pub names_of-append : (xs ys : List (List ℕ)) → names_of (xs ++ ys) ≡ names_of xs ++ names_of ys
names_of-append [] ys = refl
names_of-append (x ∷ xs) ys = ap (λ l. name_in (kind_of x) x ++ l) (names_of-append xs ys) ∙ sym (append_assoc (name_in (kind_of x) x) (names_of xs) (names_of ys))

-- the lines so far, and one more
pub take-next : (ls : List (List ℕ)) (i j : ℕ) → j ≡ i + 1 → i < length ls → take j ls ≡ take i ls ++ get_or ls i [] ∷ []
take-next ls i j e lt = rw e (take_more ls i [] lt)

pub drop-here : (ls : List (List ℕ)) (i j : ℕ) → j ≡ i + 1 → i < length ls → drop i ls ≡ get_or ls i [] ∷ drop j ls
drop-here ls i j e lt = rw e (drop_more ls i [] lt)

-- a turn: the faults of what is left are that of the next line, or those after it
pub fault-here : (r : Repeats) (ls : List (List ℕ)) (m n i j : ℕ) → j ≡ i + 1 → n ≡ m + 1 → i < length ls
    → first_fault r m (take i ls) (drop i ls) ≡ fault_or m (cause_of r (take i ls) (get_or ls i [])) (first_fault r n (take j ls) (drop j ls))
fault-here r ls m n i j e f lt =
    let next : suc m ≡ n = omega arith in
    ap (first_fault r m (take i ls)) (drop-here ls i j e lt)
    ∙ ap₂ (λ k before. fault_or m (cause_of r (take i ls) (get_or ls i [])) (first_fault r k before (drop j ls))) next (sym (take-next ls i j e lt))

or-false : (a : Bool) → (a || false) ≡ a
or-false true = refl
or-false false = refl

or-flip : (a b : Bool) → (a || b) ≡ (b || a)
or-flip true true = refl
or-flip true false = refl
or-flip false true = refl
or-flip false false = refl

pub gives-is : (kind : LineKind) (l name : List ℕ) → has_name (name_in kind l) name ≡ gives_name kind l name
gives-is (Field n) l name = or-false (is_same_name name (take n l))
gives-is Continuation l name = refl
gives-is Blank l name = refl
gives-is Faulty l name = refl

-- one line more gives its name
pub has_name-next : (ls : List (List ℕ)) (i j : ℕ) (name : List ℕ) → j ≡ i + 1 → i < length ls
    → has_name (names_of (take j ls)) name ≡ (gives_name (kind_of (get_or ls i [])) (get_or ls i []) name || has_name (names_of (take i ls)) name)
has_name-next ls i j name e lt =
    let l : List ℕ = get_or ls i [] in
    ap (λ t. has_name (names_of t) name) (take-next ls i j e lt)
    ∙ ap (λ t. has_name t name) (names_of-append (take i ls) (l ∷ []) ∙ ap (λ t. names_of (take i ls) ++ t) (append-nil (name_in (kind_of l) l)))
    ∙ list_any-append (λ x. is_same_name name x) (names_of (take i ls)) (name_in (kind_of l) l)
    ∙ or-flip (has_name (names_of (take i ls)) name) (has_name (name_in (kind_of l) l) name)
    ∙ ap (λ t. t || has_name (names_of (take i ls)) name) (gives-is (kind_of l) l name)

-- ---- the bytes of a body

body_len-append : (len : ℕ) (xs ys : List (List ℕ)) → body_len_from len (xs ++ ys) ≡ body_len_from (body_len_from len xs) ys
body_len-append len [] ys = refl
body_len-append len (x ∷ xs) ys = body_len-append (body_step len x (kind_of x)) xs ys

-- one line more
pub body_len-next : (ls : List (List ℕ)) (i j : ℕ) → j ≡ i + 1 → i < length ls
    → body_len (take j ls) ≡ body_step (body_len (take i ls)) (get_or ls i []) (kind_of (get_or ls i []))
body_len-next ls i j e lt = ap body_len (take-next ls i j e lt) ∙ body_len-append 0 (take i ls) (get_or ls i [] ∷ [])

-- ---- the cause of a line

given-same : (r : Repeats) (given other : List ℕ → Bool) → ((name : List ℕ) → given name ≡ other name) → (first : Bool) (len : ℕ) (line : List ℕ) (kind : LineKind)
    → cause_with r given first len line kind ≡ cause_with r other first len line kind
given-same r given other same first len line (Field n) = ap (λ t. repeat_cause t (may_repeat r (take n line))) (same (take n line))
given-same r given other same first len line Continuation = refl
given-same r given other same first len line Blank = refl
given-same r given other same first len line Faulty = refl

-- the cause that the code finds is that of the line
pub cause-is : (r : Repeats) (ls : List (List ℕ)) (given : List ℕ → Bool) (i len : ℕ) (line : List ℕ) (kind : LineKind) (found : Option Cause) (first : Bool) → i < length ls
    → ((name : List ℕ) → given name ≡ has_name (names_of (take i ls)) name) → len ≡ body_len (take i ls) → first ≡ (i == 0)
    → get_or ls i [] ≡ line → kind ≡ kind_of line → found ≡ cause_by r given first len line kind → found ≡ cause_of r (take i ls) (get_or ls i [])
cause-is r ls given i len line kind found first lt same len_is first_is here is e =
    let size : i ≡ length (take i ls) = sym (length-take-le i ls (omega arith)) in
    let none = Some causes.TooLong in
    e ∙ ap (λ c. cond (is_too_long line) none c)
    (ap (λ b. cause_with r given b len line kind) first_is ∙ given-same r given (has_name (names_of (take i ls))) same (i == 0) len line kind
    ∙ ap₂ (λ k n. cause_with r (has_name (names_of (take i ls))) (k == 0) n line kind) size len_is
    ∙ ap (cause_with r (has_name (names_of (take i ls))) (length (take i ls) == 0) (body_len (take i ls)) line) is)
    ∙ ap (cause_of r (take i ls)) (sym here)

pub turn-fault : (r : Repeats) (ls : List (List ℕ)) (m i : ℕ) (cause : Cause) → i < length ls → cause_of r (take i ls) (get_or ls i []) ≡ Some cause
    → first_fault r m (take i ls) (drop i ls) ≡ Some (record { line = m; cause = cause })
turn-fault r ls m i cause lt e =
    fault-here r ls m (m + 1) i (i + 1) refl refl lt ∙ ap (λ x. fault_or m x (first_fault r (m + 1) (take (i + 1) ls) (drop (i + 1) ls))) e

pub turn-good : (r : Repeats) (ls : List (List ℕ)) (m n i j : ℕ) → j ≡ i + 1 → n ≡ m + 1 → i < length ls → cause_of r (take i ls) (get_or ls i []) ≡ None
    → first_fault r m (take i ls) (drop i ls) ≡ first_fault r n (take j ls) (drop j ls)
turn-good r ls m n i j e f lt none =
    fault-here r ls m n i j e f lt ∙ ap (λ x. fault_or m x (first_fault r n (take j ls) (drop j ls))) none

-- ---- no line and no field has want of memory for its fault

abbrev pub NoMemory : Option TextFault → Type 0
NoMemory None = Unit {0}
NoMemory (Some fault) = fault.cause ≡ causes.Memory → ⊥

abbrev NoMemoryCause : Option Cause → Type 0
NoMemoryCause None = Unit {0}
NoMemoryCause (Some cause) = cause ≡ causes.Memory → ⊥

cond-keeps : {A : Type 0} (P : A → Type 0) (b : Bool) (x y : A) → P x → P y → P (cond b x y)
cond-keeps P true x y p q = p
cond-keeps P false x y p q = q

fault_or-memory : (n : ℕ) (o : Option Cause) (later : Option TextFault) → NoMemoryCause o → NoMemory later → NoMemory (fault_or n o later)
fault_or-memory n None later none rest = rest
fault_or-memory n (Some cause) later none rest = none

repeat-memory : (given allowed : Bool) → NoMemoryCause (repeat_cause given allowed)
repeat-memory given allowed = cond-keeps NoMemoryCause (given && not allowed) (Some causes.FieldTwice) None (λ e. cc) tt

continuation-memory : (first : Bool) (len : ℕ) → NoMemoryCause (continuation_cause first len)
continuation-memory first len =
    cond-keeps NoMemoryCause first (Some causes.Line) _ (λ e. cc) (cond-keeps NoMemoryCause (nat_lt max_line len) (Some causes.TooLong) None (λ e. cc) tt)

cause_with-memory : (r : Repeats) (given : List ℕ → Bool) (first : Bool) (len : ℕ) (line : List ℕ) (kind : LineKind) → NoMemoryCause (cause_with r given first len line kind)
cause_with-memory r given first len line (Field n) = repeat-memory (given (take n line)) (may_repeat r (take n line))
cause_with-memory r given first len line Blank = tt
cause_with-memory r given first len line Continuation = continuation-memory first (len + (1 + length line))
cause_with-memory r given first len line Faulty = λ e. cc

pub first_fault-memory : (r : Repeats) (n : ℕ) (before lines : List (List ℕ)) → NoMemory (first_fault r n before lines)
first_fault-memory r n before [] = tt
first_fault-memory r n before (line ∷ lines) =
    fault_or-memory n (cause_of r before line) _
    (cond-keeps NoMemoryCause (is_too_long line) (Some causes.TooLong) _ (λ e. cc)
    (cause_with-memory r (has_name (names_of before)) (length before == 0) (body_len before) line (kind_of line)))
    (first_fault-memory r (suc n) (before ++ line ∷ []) lines)

relation-memory : (body : List ℕ) (kind : Option FieldKind) → NoMemoryCause (relation_cause body kind)
relation-memory body None = tt
relation-memory body (Some kind) = cond-keeps NoMemoryCause (is_read (relations_of kind body)) None (Some causes.Relation) tt (λ e. cc)

field-memory : (live : Bool) (name body : List ℕ) → NoMemoryCause (field_cause live name body)
field-memory live name body =
    cond-keeps NoMemoryCause (is_same_name name package_name) _ _
    (cond-keeps NoMemoryCause (is_name body) None (Some causes.Name) tt (λ e. cc))
    (cond-keeps NoMemoryCause live (live_cause name body) None
    (cond-keeps NoMemoryCause (is_same_name name version_name) _ _
    (cond-keeps NoMemoryCause (is_none (fault_of body)) None (Some causes.Version) tt (λ e. cc)) (relation-memory body (relation_kind name)))
    tt)

pub first_wrong-memory : (live : Bool) (n : ℕ) (fields : List FieldText) → NoMemory (first_wrong live n fields)
first_wrong-memory live n [] = tt
first_wrong-memory live n (field ∷ fields) =
    fault_or-memory (n + field.line) (field_cause live field.name field.body) _ (field-memory live field.name field.body) (first_wrong-memory live n fields)

-- so it is told where it stands
pub never-memory : (fault : TextFault) (found : Option TextFault) → NoMemory found → found ≡ Some fault → fault.cause ≡ causes.Memory → fault.line ≡ 0
never-memory fault None none e memory = absurd (cc)
never-memory fault (Some other) none e memory = absurd (none (let same : other ≡ fault = cc in ap (λ (f : TextFault). f.cause) same ∙ memory))

pub not-memory : (fault : TextFault) (found : Option TextFault) → NoMemory found → found ≡ Some fault → fault.cause ≡ causes.Memory → ⊥
not-memory fault None none e memory = cc
not-memory fault (Some other) none e memory = none (let same : other ≡ fault = cc in ap (λ (f : TextFault). f.cause) same ∙ memory)
