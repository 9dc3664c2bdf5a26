-- The refusals: their numbers, and the words that they are printed with.
use Rattle.std.specs.Prelude.{ℕ, List, codes}
use Rattle.ctl_store.specs.declared.refusal.Refusal.{Refusal}
use Rattle.ctl_store.specs.declared.refusal.Refusal.TheVariants as refusal

-- the number of a refusal
abbrev pub number_of_refusal : Refusal → ℕ
number_of_refusal refusal.Command = 1
number_of_refusal refusal.Usage = 2
number_of_refusal refusal.Unended = 3
number_of_refusal refusal.TooLong = 4
number_of_refusal refusal.Line = 5
number_of_refusal refusal.FieldTwice = 6
number_of_refusal refusal.Missing = 7
number_of_refusal refusal.Name = 8
number_of_refusal refusal.Version = 9
number_of_refusal refusal.Relation = 10
number_of_refusal refusal.ListExists = 11
number_of_refusal refusal.NoList = 12
number_of_refusal refusal.StatusExists = 13
number_of_refusal refusal.NoStanza = 14
number_of_refusal refusal.OneStanza = 15
number_of_refusal refusal.NoMark = 16
number_of_refusal refusal.NoPin = 17
number_of_refusal refusal.Priority = 18
number_of_refusal refusal.Filter = 19
number_of_refusal refusal.Pattern = 20
number_of_refusal refusal.Full = 21
number_of_refusal refusal.Memory = 22
number_of_refusal refusal.Form = 23

-- the words that a refusal is printed with
abbrev pub words_of_refusal : Refusal → List ℕ
words_of_refusal refusal.Command = codes "unknown command"
words_of_refusal refusal.Usage = codes "bad arguments"
words_of_refusal refusal.Unended = codes "body has no end"
words_of_refusal refusal.TooLong = codes "line too long"
words_of_refusal refusal.Line = codes "not a control line"
words_of_refusal refusal.FieldTwice = codes "field given twice"
words_of_refusal refusal.Missing = codes "required field missing"
words_of_refusal refusal.Name = codes "bad name"
words_of_refusal refusal.Version = codes "bad version"
words_of_refusal refusal.Relation = codes "bad relation field"
words_of_refusal refusal.ListExists = codes "list already present"
words_of_refusal refusal.NoList = codes "no such list"
words_of_refusal refusal.StatusExists = codes "a status list is already present"
words_of_refusal refusal.NoStanza = codes "no such stanza"
words_of_refusal refusal.OneStanza = codes "body is not one stanza"
words_of_refusal refusal.NoMark = codes "no such mark"
words_of_refusal refusal.NoPin = codes "no such pin"
words_of_refusal refusal.Priority = codes "bad priority"
words_of_refusal refusal.Filter = codes "bad filter"
words_of_refusal refusal.Pattern = codes "bad pattern"
words_of_refusal refusal.Full = codes "cache full"
words_of_refusal refusal.Memory = codes "out of memory"
words_of_refusal refusal.Form = codes "bad pin record"
