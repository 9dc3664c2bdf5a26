use Rattle.std.proofs.Common.{◌≡◌, ◌∙◌, ◌≤◌, ◌&&◌, ℕ, Bool, true, List, [], ◌∷◌, length, false, get_or, take, drop, Result, Ok, Err, cond, sym, ap, arith}
use Rattle.std.specs.Char.{is_ascii_alphanumeric}
use Rattle.std.specs.List.{list_all}
use Rattle.ctl_relation.specs.declared.relation_fault.RelationFault.{RelationFault}
use Rattle.ctl_relation.specs.declared.relation_fault.RelationFault.TheVariants as fault
use Rattle.ctl_relation.specs.Names.{is_name_byte, is_name}
use Rattle.ctl_relation.specs.Runs.{run, rest}
use Rattle.ctl_relation.specs.Reading.{name_at}
use Rattle.ctl_relation.proofs.LongestRuns.{run-passes}
use Rattle.ctl_relation.proofs.tokens.name_of.Goals as goal

second : (a b : Bool) → (a && b) ≡ true → b ≡ true
second true b h = h
second false b h = cc

-- Bytes of which each may stand in a name are one where the first is a letter or a digit.
named_by_first : (name : List ℕ) → list_all is_name_byte name ≡ true → 1 ≤ length name → is_ascii_alphanumeric (get_or name 0 0) ≡ true → is_name name ≡ true
named_by_first [] all some first = absurd (omega arith)
named_by_first (b ∷ name) all some first = ap (λ t. t && list_all is_name_byte name) first ∙ second (is_name_byte b) (list_all is_name_byte name) all

read_as : (text name after : List ℕ) → name ≡ run is_name_byte text → after ≡ rest is_name_byte text → 1 ≤ length name → is_ascii_alphanumeric (get_or name 0 0) ≡ true → name_at text ≡ Ok (name, after)
read_as text name after front back some first =
    let all : list_all is_name_byte name ≡ true = ap (list_all is_name_byte) front ∙ run-passes is_name_byte text in
    let is : is_name (run is_name_byte text) ≡ true = ap is_name (sym front) ∙ named_by_first name all some first in
    let read : Result (List ℕ × List ℕ) RelationFault = Ok (run is_name_byte text, rest is_name_byte text) in
    ap (λ t. cond t read (Err fault.Name)) is ∙ ap (λ n. Ok (n, rest is_name_byte text)) (sym front) ∙ ap (λ a. Ok (name, a)) (sym back)

pub returns-in-len1-up-clause-gives : goal.returns-in-len1-up-clause-gives
returns-in-len1-up-clause-gives c =
    read_as c.args.text.now c.split_at.result.0.now c.split_at.result.1.now
    (c.split_at.ensures.front ∙ ap (λ n. take n c.args.text.now) c.run_len.ensures.len)
    (c.split_at.ensures.back ∙ ap (λ n. drop n c.args.text.now) c.run_len.ensures.len)
    c.in-len1-up.len_at_least
    (sym c.is_ascii_alphanumeric.ensures.value ∙ c.if-is_ascii_alphanumeric.true)
