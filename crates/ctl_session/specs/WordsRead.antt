-- Words that are being read.
use Rattle.std.specs.Prelude.{◌≡◌, ◌==◌, ℕ, false, List, [], ◌∷◌, ◌++◌, Option}
use Rattle.ctl_relation.specs.Bytes.{apostrophe}
use Rattle.ctl_stanza.specs.Lines.{is_blank_byte}
use Rattle.std.specs.Option.{option_map}
use Rattle.ctl_session.specs.Words.{words_from}
use Rattle.ctl_session.specs.declared.words.Reading.{Reading}
use Rattle.ctl_session.specs.declared.words.Place.{Place}
use Rattle.ctl_session.specs.declared.words.Place.TheVariants.{Between, Within, Quoted}

-- bytes before the first word
abbrev pub before_first : List ℕ → List (List ℕ) → List (List ℕ)
before_first bytes [] = bytes ∷ []
before_first bytes (word ∷ words) = (bytes ++ word) ∷ words

-- the words that are read, before those that are to come from a place
abbrev pub onto_read : Place → List (List ℕ) → List ℕ → List (List ℕ) → List (List ℕ)
onto_read Between words word rest = words ++ rest
onto_read Within words word rest = words ++ before_first word rest
onto_read Quoted words word rest = words ++ before_first word rest

-- what is read so far, and then the words of a text from there on
abbrev pub words_read : Reading → List ℕ → Option (List (List ℕ))
words_read reading text = option_map (onto_read reading.place reading.words.items reading.word.items) (words_from reading.place text)

-- a byte that goes on with its word: neither blank nor a quote
abbrev pub IsPlain : ℕ → Type 0
IsPlain b = (is_blank_byte b ≡ false) × ((b == apostrophe) ≡ false)
