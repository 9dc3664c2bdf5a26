-- What the words of a query ask for.
use Rattle.std.proofs.Common.{Result, Ok, Err, inl, inr, ap}
use Rattle.ctl_store.specs.declared.refusal.Refusal.{Refusal}
use Rattle.ctl_query.specs.Query.{Query as QueryText}
use Rattle.ctl_query.specs.QueryRead.{ReadsQuery}
use Rattle.ctl_session.specs.Request.{asking}
use Rattle.ctl_session.specs.State.{CacheState}
use Rattle.ctl_session.specs.Asked.{ReadsRequest}

-- a query that is refused is refused as a request
pub query_refused : (cache : CacheState) (cause : Refusal) (asked : Result QueryText Refusal) → ReadsQuery (Err cause) asked → ReadsRequest cache (Err cause) (asking asked)
query_refused cache cause asked (inl same) = inl (ap asking same)
query_refused cache cause asked (inr (inl memory)) = inr (inl memory)
query_refused cache cause (Ok query) (inr (inr pattern)) = inr (inr (inl pattern))
query_refused cache cause (Err other) (inr (inr pattern)) = absurd pattern.1
