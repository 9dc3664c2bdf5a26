-- Atoms by their words.
use Rattle.std.proofs.Common.{◌≡◌, ◌∙◌, ℕ, ◌+◌, ◌&&◌, ◌||◌, ◌==◌, nat_le, Bool, true, false, cond, List, [], ◌∷◌, ◌++◌, map, flat_map, length, is_ok, Option, None, Some, is_none, Result, Ok, Err, refl, sym, ap, subst, arith, ⊎_elim, drop, append_assoc, append-nil}
use Rattle.std.specs.Prelude.{nat_eq, codes}
use Rattle.std.specs.Cmp.Lexicographic.{pointwise}
use Rattle.std.specs.List.{list_all, list_any, starts_with}
use Rattle.std.proofs.lemmas.Bool.{both_ways, false_from_ne_true, eqb-true, or_cases, or_right, and_parts, and_right, lt-leb}
use Rattle.ctl_relation.specs.Bytes.{hyphen}
use Rattle.ctl_relation.specs.declared.operator.Operator.TheVariants as operator
use Rattle.ctl_store.specs.declared.refusal.Refusal.{Refusal}
use Rattle.ctl_store.specs.declared.refusal.Refusal.TheVariants as refusal
use Rattle.ctl_filter.specs.declared.token.Token.TheVariants as token
use Rattle.ctl_filter.specs.declared.piece.Manner.{Manner}
use Rattle.ctl_filter.specs.declared.piece.Manner.TheVariants as manner
use Rattle.ctl_filter.specs.declared.piece.Piece.{Piece}
use Rattle.ctl_filter.specs.declared.piece.Piece.TheVariants as piece
use Rattle.ctl_filter.specs.Names.{names_in, are_field_names}
use Rattle.ctl_filter.specs.Filter.{Atom}
use Rattle.ctl_filter.specs.Atoms.{Modifiers, Parts, no_modifiers, with_fields, more_fields, test_by, atom_with, onto_parts, parts_from}
use Rattle.ctl_filter.specs.Words.{WordPieces, onto_word, onto_pieces, behind_word, behind_letter, takes_argument, argument_given, letter_piece, cluster, sign_named, is_pattern, alone, long_word, word_pieces, word_by, pieces_from, pieces_of}
use Rattle.ctl_filter.specs.Asking.{Modifier, InFields, InAnyCase, By, words_of, piece_of, names_asked, is_any_case, manners_of, fields_asked, only_manner, atom_asked, are_named, AtomsAreAsked, ModifiersAreSpelled, PatternsAreWords, stands_alone, is_cluster_letter, ClustersAreLetters}
use Rattle.ctl_filter.proofs.WordLemmas.{pieces-moved}
use Rattle.ctl_filter.proofs.CaseLemmas.{and-assoc}

-- ---- the words of modifiers

one-spelled : (m : Modifier) (words : List (List ℕ)) → pieces_of (words_of m ++ words) ≡ onto_pieces (piece_of m ∷ []) (pieces_of words)
one-spelled (InFields fields) words = refl
one-spelled InAnyCase words = refl
one-spelled (By manner.Exact) words = refl
one-spelled (By manner.Rx) words = refl
one-spelled (By (manner.Compare operator.Equal)) words = refl
one-spelled (By (manner.Compare operator.Earlier)) words = refl
one-spelled (By (manner.Compare operator.EarlierOrEqual)) words = refl
one-spelled (By (manner.Compare operator.Later)) words = refl
one-spelled (By (manner.Compare operator.LaterOrEqual)) words = refl

nothing-before : (r : Result (List Piece) Refusal) → r ≡ onto_pieces [] r
nothing-before (Ok pieces) = refl
nothing-before (Err cause) = refl

pub modifiers-spelled : ModifiersAreSpelled
modifiers-spelled [] words = nothing-before (pieces_of words)
modifiers-spelled (m ∷ ms) words =
    ap pieces_of (append_assoc (words_of m) (flat_map words_of ms) words) ∙ one-spelled m (flat_map words_of ms ++ words)
    ∙ ap (onto_pieces (piece_of m ∷ [])) (modifiers-spelled ms words) ∙ sym (pieces-moved (piece_of m ∷ []) (map piece_of ms) (pieces_of words))

-- ---- patterns

pattern-word : (word : List ℕ) (words : List (List ℕ)) → sign_named word ≡ None → is_pattern word ≡ true
    → pieces_of (word ∷ words) ≡ onto_pieces (piece.Pattern word ∷ []) (pieces_of words)
pattern-word word words none is =
    (λ i. behind_word (word_by (none i) word words) (λ next. pieces_from next words))
    ∙ (λ i. behind_word (cond (is i) (alone (piece.Pattern word)) (cond (starts_with nat_eq word (codes "--")) (long_word word) (cluster words (drop 1 word)))) (λ next. pieces_from next words))

pub patterns-spelled : PatternsAreWords
patterns-spelled = record { word = pattern-word; behind = λ pattern words. refl }

-- ---- clusters

-- a letter of a cluster is none of the bytes that are no letters of one
other-letter : (d k : ℕ) → is_cluster_letter d ≡ true → is_cluster_letter k ≡ false → (d == k) ≡ false
other-letter d k is none = false_from_ne_true (d == k) (λ h. both_ways (is_cluster_letter k) none (sym (ap is_cluster_letter (eqb-true d k h)) ∙ is))

hyphen-is_other : (d : ℕ) → is_cluster_letter d ≡ true → (hyphen == d) ≡ false
hyphen-is_other d is = false_from_ne_true (hyphen == d) (λ h. both_ways (is_cluster_letter hyphen) refl (ap is_cluster_letter (eqb-true hyphen d h) ∙ is))

letter-sign : (d : ℕ) (letters : List ℕ) → (d == 97) ≡ false → (d == 111) ≡ false → sign_named (hyphen ∷ d ∷ letters) ≡ None
letter-sign d letters and or = λ i. cond (and i && pointwise nat_eq letters []) (Some token.And) (cond (or i && pointwise nat_eq letters []) (Some token.Or) None)

letter-word : (d : ℕ) (letters : List ℕ) (words : List (List ℕ)) → is_cluster_letter d ≡ true → word_pieces (hyphen ∷ d ∷ letters) words ≡ cluster words (d ∷ letters)
letter-word d letters words is =
    (λ i. word_by (letter-sign d letters (other-letter d 97 is refl) (other-letter d 111 is refl) i) (hyphen ∷ d ∷ letters) words)
    ∙ (λ i. cond (hyphen-is_other d is i && true) (long_word (hyphen ∷ d ∷ letters)) (cluster words (d ∷ letters)))

read-letter : (r : Result Piece Refusal) → is_ok r ≡ true → (p : Piece) × (r ≡ Ok p)
read-letter (Ok p) h = (p, refl)
read-letter (Err cause) h = absurd (cc)

alone-is_letter : (c : ℕ) → stands_alone c ≡ true → is_cluster_letter c ≡ true
alone-is_letter c h = or_right (takes_argument c) (stands_alone c) h

no-argument : (c : ℕ) → stands_alone c ≡ true → takes_argument c ≡ false
no-argument c h = or_false (c == 70) (c == 115) (other 70 refl) (other 115 refl)
  where
    other : (k : ℕ) → stands_alone k ≡ false → (c == k) ≡ false
    other k none = false_from_ne_true (c == k) (λ e. both_ways (stands_alone k) none (sym (ap stands_alone (eqb-true c k e)) ∙ h))

    or_false : (x y : Bool) → x ≡ false → y ≡ false → (x || y) ≡ false
    or_false x y p q = λ i. p i || q i

-- the letters behind one that stands alone
behind-alone : (p : Piece) (c : ℕ) (letters : List ℕ) (words : List (List ℕ)) → stands_alone c ≡ true → letter_piece c ≡ Ok p
    → word_pieces (hyphen ∷ c ∷ letters) words ≡ onto_word (p ∷ []) (cluster words letters)
behind-alone p c letters words alone is =
    letter-word c letters words (alone-is_letter c alone)
    ∙ (λ i. cond (no-argument c alone i) (argument_given c letters words) (behind_letter (is i) (cluster words letters)))

word-behind : (front : List Piece) (read : WordPieces) (f : Bool → Result (List Piece) Refusal) → behind_word (onto_word front read) f ≡ onto_pieces front (behind_word read f)
word-behind front (Ok read) f = pieces-moved front read.0 (f read.1)
word-behind front (Err cause) f = refl

letters-apart : (c d : ℕ) (letters : List ℕ) (words : List (List ℕ)) → stands_alone c ≡ true → is_cluster_letter d ≡ true
    → pieces_of ((hyphen ∷ c ∷ d ∷ letters) ∷ words) ≡ pieces_of ((hyphen ∷ c ∷ []) ∷ (hyphen ∷ d ∷ letters) ∷ words)
letters-apart c d letters words alone is =
    let p = read-letter (letter_piece c) alone in
    let behind = λ (next : Bool). pieces_from next words in
    let further = (hyphen ∷ d ∷ letters) ∷ words in
    ap (λ r. behind_word r behind) (behind-alone p.0 c (d ∷ letters) words alone p.1)
    ∙ word-behind (p.0 ∷ []) (cluster words (d ∷ letters)) behind
    ∙ ap (λ r. onto_pieces (p.0 ∷ []) (behind_word r behind)) (sym (letter-word d letters words is))
    ∙ sym (ap (λ r. behind_word r (λ next. pieces_from next further)) (behind-alone p.0 c [] further alone p.1))

argument-apart : (c b : ℕ) (letters : List ℕ) (words : List (List ℕ)) → takes_argument c ≡ true
    → pieces_of ((hyphen ∷ c ∷ b ∷ letters) ∷ words) ≡ pieces_of ((hyphen ∷ c ∷ []) ∷ (b ∷ letters) ∷ words)
argument-apart c b letters words is = ⊎_elim
    (λ e. subst Apart (sym (eqb-true c 70 e)) for_F)
    (λ e. subst Apart (sym (eqb-true c 115 e)) for_s)
    (or_cases (c == 70) (c == 115) is)
  where
    Apart : ℕ → Type 0
    Apart k = pieces_of ((hyphen ∷ k ∷ b ∷ letters) ∷ words) ≡ pieces_of ((hyphen ∷ k ∷ []) ∷ (b ∷ letters) ∷ words)

    for_F : Apart 70
    for_F = refl

    for_s : Apart 115
    for_s = refl

pub clusters-apart : ClustersAreLetters
clusters-apart = record { letters = letters-apart; argument = argument-apart }

-- ---- modifiers in any order

-- what is known of the next atom behind one more modifier
abbrev more : Modifiers → Modifier → Modifiers
more done (InFields fields) = with_fields done (names_in fields)
more done InAnyCase = record done { any_case = true }
more done (By m) = record done { manner = Some m }

abbrev all_more : Modifiers → List Modifier → Modifiers
all_more done [] = done
all_more done (m ∷ ms) = all_more (more done m) ms

abbrev may_follow : Modifiers → Modifier → Bool
may_follow done (InFields fields) = are_field_names (names_in fields)
may_follow done InAnyCase = true
may_follow done (By m) = is_none done.manner

abbrev may_all_follow : Modifiers → List Modifier → Bool
may_all_follow done [] = true
may_all_follow done (m ∷ ms) = may_follow done m && may_all_follow (more done m) ms

one-read : (n : ℕ) (done : Modifiers) (m : Modifier) (pieces : List Piece)
    → parts_from n done (piece_of m ∷ pieces) ≡ cond (may_follow done m) (parts_from n (more done m) pieces) (Err refusal.Filter)
one-read n done (InFields fields) pieces = refl
one-read n done InAnyCase pieces = refl
one-read n done (By m) pieces = refl

both-read : (a b : Bool) (x y : Result Parts Refusal) → cond a (cond b x y) y ≡ cond (a && b) x y
both-read true b x y = refl
both-read false b x y = refl

all-read : (n : ℕ) (done : Modifiers) (ms : List Modifier) (pattern : List ℕ) (pieces : List Piece)
    → parts_from n done (map piece_of ms ++ piece.Pattern pattern ∷ pieces)
    ≡ cond (may_all_follow done ms) (onto_parts (token.Atom n ∷ []) (atom_with (all_more done ms) pattern ∷ []) (parts_from (n + 1) no_modifiers pieces)) (Err refusal.Filter)
all-read n done [] pattern pieces = refl
all-read n done (m ∷ ms) pattern pieces =
    one-read n done m (map piece_of ms ++ piece.Pattern pattern ∷ pieces)
    ∙ ap (λ r. cond (may_follow done m) r (Err refusal.Filter)) (all-read n (more done m) ms pattern pieces)
    ∙ both-read (may_follow done m) (may_all_follow (more done m) ms) _ _

-- ---- the same without an order

abbrev given : Option Manner → List Manner
given None = []
given (Some m) = m ∷ []

abbrev behind : Option (List (List ℕ)) → List Modifier → Option (List (List ℕ))
behind None ms = fields_asked ms
behind (Some names) ms = Some (names ++ flat_map names_asked ms)

fields-more : (done : Modifiers) (ms : List Modifier) → (all_more done ms).fields ≡ behind done.fields ms
fields-more done [] = none done.fields
  where
    none : (o : Option (List (List ℕ))) → o ≡ behind o []
    none None = refl
    none (Some names) = ap (λ l. Some l) (sym (append-nil names))
fields-more done (InFields fields ∷ ms) = fields-more (with_fields done (names_in fields)) ms ∙ add done.fields
  where
    add : (o : Option (List (List ℕ))) → behind (Some (more_fields o (names_in fields))) ms ≡ behind o (InFields fields ∷ ms)
    add None = refl
    add (Some names) = ap (λ l. Some l) (append_assoc names (names_in fields) (flat_map names_asked ms))
fields-more done (InAnyCase ∷ ms) = fields-more (record done { any_case = true }) ms ∙ skip done.fields
  where
    skip : (o : Option (List (List ℕ))) → behind o ms ≡ behind o (InAnyCase ∷ ms)
    skip None = refl
    skip (Some names) = refl
fields-more done (By m ∷ ms) = fields-more (record done { manner = Some m }) ms ∙ skip done.fields
  where
    skip : (o : Option (List (List ℕ))) → behind o ms ≡ behind o (By m ∷ ms)
    skip None = refl
    skip (Some names) = refl

or-false : (b : Bool) → (b || false) ≡ b
or-false true = refl
or-false false = refl

or-true : (b : Bool) → (b || true) ≡ true
or-true true = refl
or-true false = refl

case-more : (done : Modifiers) (ms : List Modifier) → (all_more done ms).any_case ≡ (done.any_case || list_any is_any_case ms)
case-more done [] = sym (or-false done.any_case)
case-more done (InFields fields ∷ ms) = case-more (with_fields done (names_in fields)) ms
case-more done (InAnyCase ∷ ms) = case-more (record done { any_case = true }) ms ∙ sym (or-true done.any_case)
case-more done (By m ∷ ms) = case-more (record done { manner = Some m }) ms

follow-more : (done : Modifiers) (ms : List Modifier)
    → may_all_follow done ms ≡ (list_all are_named ms && nat_le (length (given done.manner ++ flat_map manners_of ms)) 1)
follow-more done [] = none done.manner
  where
    none : (o : Option Manner) → true ≡ nat_le (length (given o ++ [])) 1
    none None = refl
    none (Some m) = refl
follow-more done (InFields fields ∷ ms) =
    ap (λ b. are_field_names (names_in fields) && b) (follow-more (with_fields done (names_in fields)) ms)
    ∙ sym (and-assoc (are_field_names (names_in fields)) (list_all are_named ms) (nat_le (length (given done.manner ++ flat_map manners_of ms)) 1))
follow-more done (InAnyCase ∷ ms) = follow-more (record done { any_case = true }) ms
follow-more done (By m ∷ ms) = ap (λ b. is_none done.manner && b) (follow-more (record done { manner = Some m }) ms) ∙ by done.manner
  where
    by : (o : Option Manner) → (is_none o && (list_all are_named ms && nat_le (length (m ∷ flat_map manners_of ms)) 1))
        ≡ (list_all are_named ms && nat_le (length (given o ++ (m ∷ flat_map manners_of ms))) 1)
    by None = refl
    by (Some other) = sym (and_right (list_all are_named ms) _ (lt-leb (length (other ∷ m ∷ flat_map manners_of ms)) 1 (omega arith)))

manner-more : (done : Modifiers) (ms : List Modifier) → may_all_follow done ms ≡ true
    → (all_more done ms).manner ≡ only_manner (given done.manner ++ flat_map manners_of ms)
manner-more done [] h = none done.manner
  where
    none : (o : Option Manner) → o ≡ only_manner (given o ++ [])
    none None = refl
    none (Some m) = refl
manner-more done (InFields fields ∷ ms) h = manner-more (with_fields done (names_in fields)) ms (and_parts _ _ h).1
manner-more done (InAnyCase ∷ ms) h = manner-more (record done { any_case = true }) ms h
manner-more done (By m ∷ ms) h = manner-more (record done { manner = Some m }) ms (and_parts _ _ h).1 ∙ by done.manner (and_parts _ _ h).0
  where
    by : (o : Option Manner) → is_none o ≡ true → only_manner (m ∷ flat_map manners_of ms) ≡ only_manner (given o ++ (m ∷ flat_map manners_of ms))
    by None e = refl
    by (Some other) e = absurd (cc)

atom-same : (ms : List Modifier) (pattern : List ℕ) → may_all_follow no_modifiers ms ≡ true → atom_with (all_more no_modifiers ms) pattern ≡ atom_asked ms pattern
atom-same ms pattern h = λ i. record {
  fields = fields-more no_modifiers ms i;
  test = test_by (manner-more no_modifiers ms h i) (case-more no_modifiers ms i) pattern;
}

pub atoms-asked : AtomsAreAsked
atoms-asked n ms pattern pieces =
    all-read n no_modifiers ms pattern pieces ∙ turned (may_all_follow no_modifiers ms) (atom-same ms pattern)
    ∙ ap (λ b. cond b (made (atom_asked ms pattern)) (Err refusal.Filter)) (follow-more no_modifiers ms)
  where
    made : Atom → Result Parts Refusal
    made atom = onto_parts (token.Atom n ∷ []) (atom ∷ []) (parts_from (n + 1) no_modifiers pieces)

    turned : (b : Bool) → (b ≡ true → atom_with (all_more no_modifiers ms) pattern ≡ atom_asked ms pattern)
        → cond b (made (atom_with (all_more no_modifiers ms) pattern)) (Err refusal.Filter) ≡ cond b (made (atom_asked ms pattern)) (Err refusal.Filter)
    turned true same = ap made (same refl)
    turned false same = refl
