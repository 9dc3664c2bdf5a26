use Rattle.std.proofs.Common.{ap, ◌∙◌}
use Rattle.ctl_store.specs.Store.{keyed_of}
use Rattle.ctl_index.specs.RowsTold.{sources_among}
use Rattle.ctl_index.proofs.SourceLemmas.{sources_shown}
use Rattle.ctl_index.proofs.cache.sources.Sources.new.Goals as goal

pub returns : goal.returns
returns c =
    let keys = c.args.keys.now in
    let lists = (keyed_of c.args.store.now).lists in
    ap (sources_among keys lists) c.lists.ensures.lists ∙ sources_shown keys lists
