-- The words of a text, one after another.
use Rattle.std.proofs.Common.{◌≡◌, ◌⊎◌, ◌∙◌, ◌+◌, ◌==◌, not, ℕ, suc, Bool, true, false, cond, List, [], ◌∷◌, length, take, drop, filter, Option, None, refl, sym, ap, ap₂, arith, inl, inr, ⊎_elim}
use Rattle.std.proofs.Math.Dec.{eqb-suc-zero}
use Rattle.std.proofs.lemmas.Bool.{cases_Bool, cond-true, cond-false}
use Rattle.std.specs.List.{prefix_len, slice_split, onto_first}
use Rattle.ctl_relation.specs.Runs.{run, rest}
use Rattle.ctl_stanza.specs.Lines.{is_blank_byte}
use Rattle.ctl_stanza.specs.Status.{is_word, words_of, liveness_in, liveness_by_words, liveness_by_body, is_word_byte, first_word, behind_word}

-- ---- runs of bytes

rest-more : (p : ℕ → Bool) (b : ℕ) (text : List ℕ) → p b ≡ true → rest p (b ∷ text) ≡ rest p text
rest-more p b text passes = let one : 1 + prefix_len p text ≡ suc (prefix_len p text) = omega arith in ap (λ k. drop k (b ∷ text)) (cond-true _ _ _ passes ∙ one)

rest-stop : (p : ℕ → Bool) (b : ℕ) (text : List ℕ) → p b ≡ false → rest p (b ∷ text) ≡ b ∷ text
rest-stop p b text stops = ap (λ k. drop k (b ∷ text)) (cond-false _ _ _ stops)

run-more : (p : ℕ → Bool) (b : ℕ) (text : List ℕ) → p b ≡ true → run p (b ∷ text) ≡ b ∷ run p text
run-more p b text passes = let one : 1 + prefix_len p text ≡ suc (prefix_len p text) = omega arith in ap (λ k. take k (b ∷ text)) (cond-true _ _ _ passes ∙ one)

run-stop : (p : ℕ → Bool) (b : ℕ) (text : List ℕ) → p b ≡ false → run p (b ∷ text) ≡ []
run-stop p b text stops = ap (λ k. take k (b ∷ text)) (cond-false _ _ _ stops)

-- ---- the parts between blanks

words-blank : (b : ℕ) (text : List ℕ) → is_blank_byte b ≡ true → words_of (b ∷ text) ≡ words_of text
words-blank b text blank = ap (filter is_word) (cond-true (is_blank_byte b) ([] ∷ slice_split is_blank_byte text) (onto_first b (slice_split is_blank_byte text)) blank)

-- the first part goes up to the first blank
record FirstPart (text : List ℕ) : Type 0 where
  pub parts : List (List ℕ)
  pub whole : slice_split is_blank_byte text ≡ run is_word_byte text ∷ parts
  pub others : filter is_word parts ≡ words_of (rest is_word_byte text)

first-part : (text : List ℕ) → FirstPart text
first-part [] = record { parts = []; whole = refl; others = refl }
first-part (b ∷ text) = ⊎_elim
    (λ (blank : is_blank_byte b ≡ true).
    let stops : is_word_byte b ≡ false = ap not blank in
    let cut : slice_split is_blank_byte (b ∷ text) ≡ [] ∷ slice_split is_blank_byte text = cond-true _ _ _ blank in
    let found : FirstPart (b ∷ text) = record {
      parts = slice_split is_blank_byte text;
      whole = cut ∙ ap (λ t. t ∷ slice_split is_blank_byte text) (sym (run-stop is_word_byte b text stops));
      others = sym (words-blank b text blank) ∙ ap words_of (sym (rest-stop is_word_byte b text stops));
    } in found)
    (λ (other : is_blank_byte b ≡ false).
    let passes : is_word_byte b ≡ true = ap not other in
    let more = first-part text in
    let cut : slice_split is_blank_byte (b ∷ text) ≡ onto_first b (slice_split is_blank_byte text) = cond-false _ _ _ other in
    let found : FirstPart (b ∷ text) = record {
      parts = more.parts;
      whole = cut ∙ ap (onto_first b) more.whole ∙ ap (λ t. t ∷ more.parts) (sym (run-more is_word_byte b text passes));
      others = more.others ∙ ap words_of (sym (rest-more is_word_byte b text passes));
    } in found)
    (cases_Bool (is_blank_byte b))

kept : (b : ℕ) (word : List ℕ) (parts : List (List ℕ)) → filter is_word ((b ∷ word) ∷ parts) ≡ (b ∷ word) ∷ filter is_word parts
kept b word parts = cond-true _ _ _ (ap not (eqb-suc-zero (length word)))

-- ---- one word

-- no word is left
pub record HasNone (text : List ℕ) : Type 0 where
  pub word : first_word text ≡ []
  pub behind : behind_word text ≡ []
  pub words : words_of text ≡ []

-- a word, and those behind it
pub record HasWord (text : List ℕ) : Type 0 where
  pub some : (length (first_word text) == 0) ≡ false
  pub words : words_of text ≡ first_word text ∷ words_of (behind_word text)

pub cut : (text : List ℕ) → HasNone text ⊎ HasWord text
cut [] = inl (record { word = refl; behind = refl; words = refl })
cut (b ∷ text) = ⊎_elim
    (λ (blank : is_blank_byte b ≡ true).
    let skip = rest-more is_blank_byte b text blank in
    let word : first_word (b ∷ text) ≡ first_word text = ap (run is_word_byte) skip in
    let behind : behind_word (b ∷ text) ≡ behind_word text = ap (rest is_word_byte) skip in
    let words = words-blank b text blank in
    let found : HasNone (b ∷ text) ⊎ HasWord (b ∷ text) = ⊎_elim
    (λ (none : HasNone text). inl (record { word = word ∙ none.word; behind = behind ∙ none.behind; words = words ∙ none.words }))
    (λ (some : HasWord text). inr (record {
      some = ap (λ w. length w == 0) word ∙ some.some;
      words = words ∙ some.words ∙ ap (λ w. w ∷ words_of (behind_word text)) (sym word) ∙ ap (λ t. first_word (b ∷ text) ∷ words_of t) (sym behind);
    }))
    (cut text) in found)
    (λ (other : is_blank_byte b ≡ false).
    let passes : is_word_byte b ≡ true = ap not other in
    let here = rest-stop is_blank_byte b text other in
    let word : first_word (b ∷ text) ≡ b ∷ run is_word_byte text = ap (run is_word_byte) here ∙ run-more is_word_byte b text passes in
    let behind : behind_word (b ∷ text) ≡ rest is_word_byte text = ap (rest is_word_byte) here ∙ rest-more is_word_byte b text passes in
    let more = first-part text in
    let parts : slice_split is_blank_byte (b ∷ text) ≡ onto_first b (slice_split is_blank_byte text) = cond-false _ _ _ other in
    let found : HasNone (b ∷ text) ⊎ HasWord (b ∷ text) = inr (record {
      some = ap (λ w. length w == 0) word ∙ eqb-suc-zero (length (run is_word_byte text));
      words = ap (filter is_word) (parts ∙ ap (onto_first b) more.whole) ∙ kept b (run is_word_byte text) more.parts ∙ ap (λ t. (b ∷ run is_word_byte text) ∷ t) more.others
          ∙ ap (λ w. w ∷ words_of (rest is_word_byte text)) (sym word) ∙ ap (λ t. first_word (b ∷ text) ∷ words_of t) (sym behind);
    }) in found)
    (cases_Bool (is_blank_byte b))

-- ---- three words

-- what is told of a body whose words were taken one after another
abbrev pub taken : List ℕ → List ℕ → Option Bool
taken state left = cond (length (first_word left) == 0) (liveness_in state) None

abbrev pub by_turns : List ℕ → Option Bool
by_turns body = taken (first_word (behind_word (behind_word body))) (behind_word (behind_word (behind_word body)))

pub by_words : (body : List ℕ) → by_turns body ≡ liveness_by_body body
by_words body =
    let one = behind_word body in
    let two = behind_word one in
    let three = behind_word two in
    ⊎_elim
    (λ (none : HasNone body).
    ap (λ t. taken (first_word (behind_word t)) (behind_word (behind_word t))) none.behind ∙ ap liveness_by_words (sym none.words))
    (λ (first : HasWord body). ⊎_elim
    (λ (none : HasNone one).
    ap (λ t. taken (first_word t) (behind_word t)) none.behind ∙ ap (λ ws. liveness_by_words (first_word body ∷ ws)) (sym none.words) ∙ ap liveness_by_words (sym first.words))
    (λ (second : HasWord one).
    let words = first.words ∙ ap (λ ws. first_word body ∷ ws) second.words in
    ⊎_elim
    (λ (none : HasNone two).
    ap (λ t. taken (first_word two) t) none.behind ∙ ap (λ w. taken w []) none.word
    ∙ ap (λ ws. liveness_by_words (first_word body ∷ first_word one ∷ ws)) (sym none.words) ∙ ap liveness_by_words (sym words))
    (λ (third : HasWord two).
    let more = words ∙ ap (λ ws. first_word body ∷ first_word one ∷ ws) third.words in
    ⊎_elim
    (λ (none : HasNone three).
    ap (λ w. cond (length w == 0) (liveness_in (first_word two)) None) none.word
    ∙ ap (λ ws. liveness_by_words (first_word body ∷ first_word one ∷ first_word two ∷ ws)) (sym none.words) ∙ ap liveness_by_words (sym more))
    (λ (fourth : HasWord three).
    cond-false _ _ _ fourth.some
    ∙ ap (λ ws. liveness_by_words (first_word body ∷ first_word one ∷ first_word two ∷ ws)) (sym fourth.words) ∙ ap liveness_by_words (sym more))
    (cut three))
    (cut two))
    (cut one))
    (cut body)

pub by-turns : (body one two three state fourth : List ℕ) → one ≡ behind_word body → two ≡ behind_word one → three ≡ behind_word two → state ≡ first_word two → fourth ≡ first_word three
    → cond (length fourth == 0) (liveness_in state) None ≡ liveness_by_body body
by-turns body one two three state fourth is_one is_two is_three is_state is_fourth =
    let second = is_two ∙ ap behind_word is_one in
    let third = is_three ∙ ap behind_word second in
    ap₂ (λ f s. cond (length f == 0) (liveness_in s) None) (is_fourth ∙ ap first_word third) (is_state ∙ ap first_word second) ∙ by_words body
