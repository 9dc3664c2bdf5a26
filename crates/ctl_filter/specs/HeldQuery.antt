-- What a contract sees of a filter that was read: `query_of` is what it asks for.
use Rattle.std.specs.Prelude.{◌≡◌, Bool, List, Result, Ok, Err, ◌⊎◌}
use Rattle.ctl_store.specs.declared.refusal.Refusal.{Refusal}
use Rattle.ctl_store.specs.declared.refusal.Refusal.TheVariants as refusal
use Rattle.ctl_filter.specs.declared.token.Step.{Step}
use Rattle.ctl_filter.specs.Filter.{Atom}
use Rattle.ctl_filter.specs.Query.{Shown, FilterQuery, AsksExpression}
use Rattle.ctl_filter.specs.Inside.Steps.{made_by}

-- a query with the steps of its truth
pub record HeldQuery : Type 0 where
  pub inverted : Bool
  pub counted : Bool
  pub shown : Shown
  pub atoms : List Atom
  pub steps : List Step

abbrev pub query_of : HeldQuery → FilterQuery
query_of q = record {
  inverted = q.inverted;
  counted = q.counted;
  shown = q.shown;
  filter = record { atoms = q.atoms; truth = made_by q.steps };
}

-- What was read is asked for, or it is refused as the definition says, or memory ran out. Whether a well-formed pattern of
-- `--rx` can be built is the answer of `regex`: where it cannot be, the filter is refused for its pattern.
abbrev pub IsAskedBy : Result HeldQuery Refusal → Result FilterQuery Refusal → Type 0
IsAskedBy (Ok query) asked = asked ≡ Ok (query_of query)
IsAskedBy (Err cause) asked = (asked ≡ Err cause) ⊎ ((cause ≡ refusal.Memory) ⊎ ((cause ≡ refusal.Pattern) × AsksExpression asked))
