-- The words of a command's line.
use Rattle.std.specs.Prelude.{ℕ, ◌==◌, List, [], ◌∷◌, Option, None, Some, if◌then◌else◌}
use Rattle.std.specs.Option.{option_map}
use Rattle.ctl_relation.specs.Bytes.{apostrophe}
use Rattle.ctl_stanza.specs.Lines.{onto_first, is_blank_byte}
use Rattle.ctl_session.specs.Script.{without_blanks}
use Rattle.ctl_session.specs.declared.words.Place.{Place}
use Rattle.ctl_session.specs.declared.words.Place.TheVariants.{Between, Within, Quoted}

-- what stands behind the bytes up to the next blank
abbrev pub behind_word : List ℕ → List ℕ
behind_word [] = []
behind_word (b ∷ bytes) = if is_blank_byte b then b ∷ bytes else behind_word bytes

-- what stands behind the name of a command
abbrev pub behind_name : List ℕ → List ℕ
behind_name line = behind_word (without_blanks line)

-- a byte more of the first word
abbrev pub onto_word : ℕ → Option (List (List ℕ)) → Option (List (List ℕ))
onto_word b words = option_map (onto_first b) words

-- the word before these words has ended
abbrev pub ended_before : Option (List (List ℕ)) → Option (List (List ℕ))
ended_before words = option_map (λ others. [] ∷ others) words

-- The words of a text from a place on: between words, within one, or between the quotes of one. There are none where a
-- quote lacks its end. Within a word, the first of them is what is left of it.
abbrev pub words_from : Place → List ℕ → Option (List (List ℕ))
words_from Between [] = Some []
words_from Within [] = Some ([] ∷ [])
words_from Quoted [] = None
words_from Between (b ∷ text) =
    if is_blank_byte b then words_from Between text
    else (if b == apostrophe then words_from Quoted text else onto_word b (words_from Within text))
words_from Within (b ∷ text) =
    if is_blank_byte b then ended_before (words_from Between text)
    else (if b == apostrophe then words_from Quoted text else onto_word b (words_from Within text))
words_from Quoted (b ∷ text) =
    if b == apostrophe then words_from Within text else onto_word b (words_from Quoted text)

-- Blanks part words, but between two quotes every byte belongs to its word, and pieces that touch are one word.
abbrev pub words_of : List ℕ → Option (List (List ℕ))
words_of text = words_from Between text
