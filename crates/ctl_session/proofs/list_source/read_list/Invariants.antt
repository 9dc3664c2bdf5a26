use Rattle.std.proofs.Common.{◌≡◌, ◌-◌, ◌^◌, ◌<◌, []}
use Rattle.ctl_session.proofs.LoadingLemmas.{ListSoFar}
use Rattle.ctl_session.proofs.list_source.read_list.Given as goal

abbrev pub invariant-reads : goal.invariant-reads
invariant-reads g l = record {
  failures : g.R.Source.failures l.reader ≡ g.R.Source.failures l.fn.reader;
  few : l.count < 2 ^ 32;
  none : l.blocks ≡ [];
  so_far : ListSoFar l.fn.kind (g.R.Source.remaining l.fn.reader) (g.R.Source.remaining l.reader) l.count l.reading;
}

abbrev pub decreases-reads : goal.decreases-reads
decreases-reads g l = 2 ^ 32 - l.count
