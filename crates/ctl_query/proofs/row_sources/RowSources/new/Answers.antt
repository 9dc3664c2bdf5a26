use Rattle.std.proofs.Common.{subst}
use Rattle.std.specs.List.{IsDistinct}
use Rattle.std.specs.Str.{bytes_eq}
use Rattle.ctl_store.specs.Store.{keyed_of}
use Rattle.ctl_query.proofs.RowSourceLemmas.{holders_are_sources}
use Rattle.ctl_query.proofs.SourceLemmas.{names_of_state}
use Rattle.ctl_query.proofs.row_sources.RowSources.new.Goals as goal

pub returns : goal.returns
returns c =
    let lists = (keyed_of c.args.store.now).lists in
    holders_are_sources lists c.counts-counts.ensures.order (subst (IsDistinct bytes_eq) (names_of_state lists) c.lists-lists.ensures.distinct) c.args.row.now c.requires.rising c.requires.held
