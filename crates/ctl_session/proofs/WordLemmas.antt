-- The words of a command, byte by byte.
use Rattle.std.proofs.Common.{◌≡◌, ◌≢◌, ◌==◌, ◌+◌, ◌<◌, ℕ, List, [], ◌∷◌, ◌++◌, length, take, get_or, Option, None, Some, Bool, true, false, refl, sym, ◌∙◌, ap, subst, inl, inr, cond, append_assoc, append-nil}
use Rattle.std.specs.List.{All, AllByRecursion}
use Rattle.std.proofs.lemmas.List.{take_more}
use Rattle.std.proofs.lemmas.List.Elements.{All-append, All-from_recursion}
use Rattle.std.specs.Option.{option_map}
use Rattle.std.proofs.lemmas.Bool.{cases_Bool, eqb-true}
use Rattle.ctl_relation.specs.Bytes.{apostrophe}
use Rattle.ctl_stanza.specs.Lines.{onto_first, is_blank_byte}
use Rattle.ctl_session.specs.Words.{words_from, onto_word, ended_before}
use Rattle.ctl_session.specs.WordsRead.{before_first, onto_read, IsPlain}
use Rattle.ctl_session.specs.declared.words.Place.{Place}
use Rattle.ctl_session.specs.declared.words.Place.TheVariants.{Between, Within, Quoted}

-- there is a first word, where there are words
abbrev pub HasFirst : Option (List (List ℕ)) → Type 0
HasFirst None = Unit {0}
HasFirst (Some []) = ⊥
HasFirst (Some (word ∷ words)) = Unit {0}

onto_has : (b : ℕ) (words : Option (List (List ℕ))) → HasFirst (onto_word b words)
onto_has b None = tt
onto_has b (Some []) = tt
onto_has b (Some (word ∷ words)) = tt

ended_has : (words : Option (List (List ℕ))) → HasFirst (ended_before words)
ended_has None = tt
ended_has (Some words) = tt

has_by : (blank quote : Bool) (b : ℕ) (between within quoted : Option (List (List ℕ))) → HasFirst quoted →
    HasFirst (cond blank (ended_before between) (cond quote quoted (onto_word b within)))
has_by true quote b between within quoted has = ended_has between
has_by false true b between within quoted has = has
has_by false false b between within quoted has = onto_has b within

quoted_by : (quote : Bool) (b : ℕ) (within quoted : Option (List (List ℕ))) → HasFirst within → HasFirst (cond quote within (onto_word b quoted))
quoted_by true b within quoted has = has
quoted_by false b within quoted has = onto_has b quoted

-- within a word there is one
pub has_first : (text : List ℕ) → HasFirst (words_from Within text) × HasFirst (words_from Quoted text)
has_first [] = (tt, tt)
has_first (b ∷ text) = (
  has_by (is_blank_byte b) (b == apostrophe) b (words_from Between text) (words_from Within text) (words_from Quoted text) (has_first text).1,
  quoted_by (b == apostrophe) b (words_from Within text) (words_from Quoted text) (has_first text).0,
)

first_more : (b : ℕ) (word : List ℕ) (words : List (List ℕ)) → before_first (word ++ b ∷ []) words ≡ before_first word (onto_first b words)
first_more b word [] = refl
first_more b word (next ∷ words) = ap (λ w. w ∷ words) (append_assoc word (b ∷ []) next)

first_start : (b : ℕ) (words : List (List ℕ)) → before_first (b ∷ []) words ≡ onto_first b words
first_start b [] = refl
first_start b (next ∷ words) = refl

-- one byte more of a word
byte_more : (b : ℕ) (words : List (List ℕ)) (word : List ℕ) (rest : Option (List (List ℕ))) →
    option_map (λ others. words ++ before_first (word ++ b ∷ []) others) rest ≡ option_map (λ others. words ++ before_first word others) (onto_word b rest)
byte_more b words word None = refl
byte_more b words word (Some rest) = ap (λ t. Some (words ++ t)) (first_more b word rest)

byte_start : (b : ℕ) (words : List (List ℕ)) (rest : Option (List (List ℕ))) →
    option_map (λ others. words ++ before_first (b ∷ []) others) rest ≡ option_map (λ others. words ++ others) (onto_word b rest)
byte_start b words None = refl
byte_start b words (Some rest) = ap (λ t. Some (words ++ t)) (first_start b rest)

-- a word that begins with a quote
quote_start : (words : List (List ℕ)) (rest : Option (List (List ℕ))) → HasFirst rest →
    option_map (λ others. words ++ before_first [] others) rest ≡ option_map (λ others. words ++ others) rest
quote_start words None has = refl
quote_start words (Some []) has = absurd has
quote_start words (Some (word ∷ rest)) has = refl

-- a word ends
word_ends : (words : List (List ℕ)) (word : List ℕ) (rest : Option (List (List ℕ))) →
    option_map (λ others. (words ++ word ∷ []) ++ others) rest ≡ option_map (λ others. words ++ before_first word others) (ended_before rest)
word_ends words word None = refl
word_ends words word (Some rest) = ap Some (append_assoc words (word ∷ []) rest ∙ ap (λ w. words ++ (w ∷ rest)) (sym (append-nil word)))

-- ---- each step of the reading

pub starts_word : (place : Place) (words : List (List ℕ)) (word begun : List ℕ) (b : ℕ) (text : List ℕ) → place ≡ Between → is_blank_byte b ≡ false → (b == apostrophe) ≡ false → begun ≡ b ∷ [] →
    option_map (onto_read Within words begun) (words_from Within text) ≡ option_map (onto_read place words word) (words_from place (b ∷ text))
starts_word place words word begun b text at blank quote is =
    subst (λ p. option_map (onto_read Within words begun) (words_from Within text) ≡ option_map (onto_read p words word) (words_from p (b ∷ text))) (sym at)
    (ap (λ w. option_map (onto_read Within words w) (words_from Within text)) is ∙ byte_start b words (words_from Within text) ∙
    sym (rw blank (rw quote refl)))

pub starts_quoted : (place : Place) (words : List (List ℕ)) (word begun : List ℕ) (b : ℕ) (text : List ℕ) → place ≡ Between → is_blank_byte b ≡ false → (b == apostrophe) ≡ true → begun ≡ [] →
    option_map (onto_read Quoted words begun) (words_from Quoted text) ≡ option_map (onto_read place words word) (words_from place (b ∷ text))
starts_quoted place words word begun b text at blank quote is =
    subst (λ p. option_map (onto_read Quoted words begun) (words_from Quoted text) ≡ option_map (onto_read p words word) (words_from p (b ∷ text))) (sym at)
    (ap (λ w. option_map (onto_read Quoted words w) (words_from Quoted text)) is ∙ quote_start words (words_from Quoted text) (has_first text).1 ∙
    sym (rw blank (rw quote refl)))

pub ends_word : (place : Place) (words more : List (List ℕ)) (word left : List ℕ) (b : ℕ) (text : List ℕ) → place ≡ Within → is_blank_byte b ≡ true → more ≡ words ++ word ∷ [] →
    option_map (onto_read Between more left) (words_from Between text) ≡ option_map (onto_read place words word) (words_from place (b ∷ text))
ends_word place words more word left b text at blank grown =
    subst (λ p. option_map (onto_read Between more left) (words_from Between text) ≡ option_map (onto_read p words word) (words_from p (b ∷ text))) (sym at)
    (ap (λ ws. option_map (λ others. ws ++ others) (words_from Between text)) grown ∙ word_ends words word (words_from Between text) ∙ sym (rw blank refl))

pub goes_on : (place : Place) (words : List (List ℕ)) (word more : List ℕ) (b : ℕ) (text : List ℕ) → place ≡ Within → is_blank_byte b ≡ false → (b == apostrophe) ≡ false → more ≡ word ++ b ∷ [] →
    option_map (onto_read place words more) (words_from place text) ≡ option_map (onto_read place words word) (words_from place (b ∷ text))
goes_on place words word more b text at blank quote grown =
    subst (λ p. option_map (onto_read p words more) (words_from p text) ≡ option_map (onto_read p words word) (words_from p (b ∷ text))) (sym at)
    (ap (λ w. option_map (onto_read Within words w) (words_from Within text)) grown ∙ byte_more b words word (words_from Within text) ∙ sym (rw blank (rw quote refl)))

-- one plain byte more
pub plain_more : (text : List ℕ) (n d : ℕ) → n < length text → IsPlain (get_or text n d) → All IsPlain (take n text) → All IsPlain (take (n + 1) text)
plain_more text n d within plain all =
    subst (All IsPlain) (sym (take_more text n d within))
    (All-append IsPlain (take n text) (get_or text n d ∷ []) all (All-from_recursion IsPlain (get_or text n d ∷ []) (plain, tt)))

-- plain bytes go on with a word
pub all_go_on : (place : Place) (words : List (List ℕ)) (word plain text : List ℕ) → place ≡ Within → AllByRecursion IsPlain plain →
    option_map (onto_read place words (word ++ plain)) (words_from place text) ≡ option_map (onto_read place words word) (words_from place (plain ++ text))
all_go_on place words word [] text at all = ap (λ w. option_map (onto_read place words w) (words_from place text)) (append-nil word)
all_go_on place words word (b ∷ plain) text at all =
    ap (λ w. option_map (onto_read place words w) (words_from place text)) (sym (append_assoc word (b ∷ []) plain))
    ∙ all_go_on place words (word ++ b ∷ []) plain text at all.1
    ∙ goes_on place words word (word ++ b ∷ []) b (plain ++ text) at all.0.0 all.0.1 refl

pub goes_on_quoted : (place : Place) (words : List (List ℕ)) (word more : List ℕ) (b : ℕ) (text : List ℕ) → place ≡ Quoted → (b == apostrophe) ≡ false → more ≡ word ++ b ∷ [] →
    option_map (onto_read place words more) (words_from place text) ≡ option_map (onto_read place words word) (words_from place (b ∷ text))
goes_on_quoted place words word more b text at quote grown =
    subst (λ p. option_map (onto_read p words more) (words_from p text) ≡ option_map (onto_read p words word) (words_from p (b ∷ text))) (sym at)
    (ap (λ w. option_map (onto_read Quoted words w) (words_from Quoted text)) grown ∙ byte_more b words word (words_from Quoted text) ∙ sym (rw quote refl))

-- the test of a byte for a quote
pub is_quote : (b : ℕ) → b ≡ apostrophe → (b == apostrophe) ≡ true
is_quote b same = ap (λ x. x == apostrophe) same

pub is_no_quote : (b : ℕ) → b ≢ apostrophe → (b == apostrophe) ≡ false
is_no_quote b differs = elim (cases_Bool (b == apostrophe)) [
  | inl same ↦ absurd (differs (eqb-true b apostrophe same))
  | inr other ↦ other
]

-- before anything is read
pub nothing_read : (words : List (List ℕ)) (word text : List ℕ) → words ≡ [] → option_map (onto_read Between words word) (words_from Between text) ≡ words_from Between text
nothing_read words word text none = ap (λ ws. option_map (λ rest. ws ++ rest) (words_from Between text)) none ∙ same (words_from Between text)
  where
    same : (rest : Option (List (List ℕ))) → option_map (λ others. [] ++ others) rest ≡ rest
    same None = refl
    same (Some others) = refl
