use Rattle.std.proofs.Common.{sym}
use Rattle.ctl_store.specs.Store.{keyed_of}
use Rattle.ctl_store.specs.Keys.{stanza_lists}
use Rattle.ctl_policy.specs.Priority.{world_of}
use Rattle.ctl_query.specs.Anew.{answer_anew, lists_anew}
use Rattle.ctl_query.proofs.AnewLemmas.{moved, stanza_moved, holder_moved, lists_are_same, entries_moved}
use Rattle.ctl_query.proofs.AnswerLemmas.{same_answer}
use Rattle.ctl_query.proofs.laws.answers_are_as_if_built_anew.Goals as goal

pub returns : goal.returns
unfolding answer_anew
returns c = λ store query rising.
    let lists = (keyed_of store).lists in
    sym (same_answer c.rows_are_classes.ensures c.rows_are_shown.ensures.alike (moved 0 lists) (world_of store) (lists_anew 0 (stanza_lists lists))
    (record { entries = entries_moved 0 lists rising; stanza = stanza_moved 0 lists; holder = holder_moved 0 lists; lists = lists_are_same 0 lists }) query)
