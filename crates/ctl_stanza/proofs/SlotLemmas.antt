-- Slots of names given so far.
use Rattle.std.proofs.Common.{◌≡◌, ◌∙◌, ℕ, ◌^◌, suc, Bool, true, false, ◌||◌, ◌&&◌, List, [], ◌∷◌, ◌++◌, take, map, None, refl, sym, ap, ap₂, subst, arith, bit_or, eq-eqb}
use Rattle.std.proofs.lemmas.Bool.{cond-false, eqb-true}
use Rattle.std.proofs.lemmas.Nat.Bits.{bit_at_or, bit_at-lt, bit_at-pow_same}
use Rattle.std.specs.Int.{bit_at}
use Rattle.std.proofs.lemmas.Slice.Eq.{bytes_eq-Decides}
use Rattle.std.specs.List.{list_any}
use Rattle.std.specs.Str.{bytes_eq, str_to_ascii_lowercase}
use Rattle.ctl_stanza.specs.declared.line_kind.LineKind.{LineKind}
use Rattle.ctl_stanza.specs.declared.line_kind.LineKind.TheVariants.{Blank, Field, Continuation, Faulty}
use Rattle.ctl_stanza.specs.LineKind.{kind_of}
use Rattle.ctl_stanza.specs.Fields.{is_same_name, body_named, field_at, fields_from, fields_of_lines}
use Rattle.ctl_stanza.specs.Faults.{name_in, names_of, has_name}
use Rattle.ctl_stanza.specs.Inside.NameSlots.{slot_in, slot_of, has_slot, with_slot, is_taken, given_names, is_given, AreTaken, AreTakenBy}
use Rattle.ctl_stanza.specs.Given.{Given}
use Rattle.ctl_stanza.specs.Inside.HeldNames.{holds}
use Rattle.ctl_stanza.specs.declared.names_given.NamesGiven.TheInside.{Inside}

-- names that are the same have one slot
pub same-slot : (name other : List ℕ) → is_same_name name other ≡ true → slot_of name ≡ slot_of other
same-slot name other same =
    ap slot_in ((bytes_eq-Decides (str_to_ascii_lowercase name) (str_to_ascii_lowercase other)).0 same)

-- a slot that is taken stays so
kept : (taken more slot : ℕ) → has_slot taken slot ≡ true → has_slot (bit_or taken more) slot ≡ true
kept taken more slot is =
    eq-eqb (bit_at (bit_or taken more) slot) 1
    (omega (arith, bit_at_or taken more slot, bit_at-lt more slot, eqb-true (bit_at taken slot) 1 is))

-- a slot that is added is taken
added : (taken slot : ℕ) → has_slot (with_slot taken slot) slot ≡ true
added taken slot =
    eq-eqb (bit_at (bit_or taken (2 ^ slot)) slot) 1
    (omega (arith, bit_at_or taken (2 ^ slot) slot, bit_at-lt taken slot, bit_at-pow_same slot))

either-taken : (taken : ℕ) (name other : List ℕ) (same before : Bool) → is_same_name other name ≡ same
    → (before ≡ true → is_taken taken other ≡ true) → (same || before) ≡ true
    → is_taken (with_slot taken (slot_of name)) other ≡ true
either-taken taken name other true before is earlier e =
    subst (λ slot. has_slot (with_slot taken (slot_of name)) slot ≡ true) (sym (same-slot other name is)) (added taken (slot_of name))
either-taken taken name other false before is earlier e = kept taken (2 ^ slot_of name) (slot_of other) (earlier e)

-- a name more is given, whose slot is taken
pub taken-more : (taken : ℕ) (name : List ℕ) (old new : List ℕ → Bool) → AreTaken taken old
    → ((other : List ℕ) → new other ≡ (is_same_name other name || old other)) → AreTaken (with_slot taken (slot_of name)) new
taken-more taken name old new are adds other given =
    either-taken taken name other (is_same_name other name) (old other) refl (are other) (sym (adds other) ∙ given)

-- the slots of names stay taken
pub taken-still : (taken slot : ℕ) (given : List ℕ → Bool) → AreTaken taken given → AreTaken (with_slot taken slot) given
taken-still taken slot given are name e = kept taken (2 ^ slot) (slot_of name) (are name e)

-- one of the first names is more
pub first-more : (first first' others same : Bool) → first' ≡ (first || (same || false)) → (first' || others) ≡ (same || (first || others))
first-more true first' others true e = ap (λ t. t || others) e
first-more true first' others false e = ap (λ t. t || others) e
first-more false first' others true e = ap (λ t. t || others) e
first-more false first' others false e = ap (λ t. t || others) e

-- ---- fields that aren't given

or-none : (a b : Bool) → (a || b) ≡ false → (a ≡ false) × (b ≡ false)
or-none true b e = absurd (cc)
or-none false b e = (refl, e)

other-too : (name other : List ℕ) (same : Bool) → is_same_name other name ≡ same → is_same_name name other ≡ false → is_same_name other name ≡ false
other-too name other true is e =
    let both = (bytes_eq-Decides (str_to_ascii_lowercase other) (str_to_ascii_lowercase name)).0 is in
    let same = (bytes_eq-Decides (str_to_ascii_lowercase name) (str_to_ascii_lowercase other)).1 (sym both) in
    absurd (cc (sym e ∙ same))
other-too name other false is e = is

-- a name that lines don't give is that of no field
pub no-field : (name : List ℕ) (i : ℕ) (lines : List (List ℕ)) → has_name (names_of lines) name ≡ false → body_named name (fields_from i lines) ≡ None
no-field name i [] e = refl
no-field name i (line ∷ lines) e = at (kind_of line) (λ none. no-field name (suc i) lines none) e
  where
    at : (kind : LineKind) → (has_name (names_of lines) name ≡ false → body_named name (fields_from (suc i) lines) ≡ None)
        → has_name (name_in kind line ++ names_of lines) name ≡ false → body_named name (field_at i kind line lines ++ fields_from (suc i) lines) ≡ None
    at (Field n) rest e =
        let both = or-none (is_same_name name (take n line)) (has_name (names_of lines) name) e in
        cond-false _ _ _ (other-too name (take n line) (is_same_name (take n line) name) refl both.0) ∙ rest both.1
    at Blank rest e = rest e
    at Continuation rest e = rest e
    at Faulty rest e = rest e

-- nor is one whose slot isn't taken
pub no-slot : (name : List ℕ) (lines : List (List ℕ)) (taken : ℕ) → AreTakenBy lines taken → is_taken taken name ≡ false
    → None ≡ body_named name (fields_of_lines lines)
no-slot name lines taken are clear = sym (no-field name 0 lines (by (has_name (names_of lines) name) refl))
  where
    by : (given : Bool) → has_name (names_of lines) name ≡ given → has_name (names_of lines) name ≡ false
    by true is = absurd (cc (sym clear ∙ are name is))
    by false is = is

-- a name that is among the first ones is given
pub known-given : (taken first others : Bool) → (taken && first) ≡ true → (first || others) ≡ true
known-given true true others e = refl
known-given true false others e = absurd (cc)
known-given false first others e = absurd (cc)

either-held : (given : Given) (name other : List ℕ) (same : Bool) → is_same_name other name ≡ same → holds given name ≡ true
    → holds given other ≡ (same || holds given other)
either-held given name other true is held =
    ap (λ q. list_any (λ o. bytes_eq q (str_to_ascii_lowercase o)) given.first || list_any (bytes_eq q) given.others)
    ((bytes_eq-Decides (str_to_ascii_lowercase other) (str_to_ascii_lowercase name)).0 is)
    ∙ held
either-held given name other false is held = refl

-- a name that is given is no more
pub held-already : (given : Given) (name : List ℕ) → holds given name ≡ true → (other : List ℕ)
    → holds given other ≡ (is_same_name other name || holds given other)
held-already given name held other = either-held given name other (is_same_name other name) refl held

-- a name whose slot isn't taken, or that isn't among the first ones, isn't among them
pub not-first : (taken first others : Bool) → ((first || others) ≡ true → taken ≡ true) → (taken && first) ≡ false → first ≡ false
not-first true first others of e = e
not-first false true others of e = sym (of refl)
not-first false false others of e = refl

any-map : {X Y : Type 0} (p : Y → Bool) (f : X → Y) (xs : List X) → list_any p (map f xs) ≡ list_any (λ x. p (f x)) xs
any-map p f [] = refl
any-map p f (x ∷ xs) = ap (λ t. p (f x) || t) (any-map p f xs)

-- the names that are seen are those that are held
pub given-is : (names : Inside) (name : List ℕ) → holds (given_names names) name ≡ is_given names name
given-is names name =
    ap₂ ◌||◌ (any-map (is_same_name name) (λ other. other.now) names.first.items) (any-map (bytes_eq (str_to_ascii_lowercase name)) (λ other. other.items) names.others.keys)
