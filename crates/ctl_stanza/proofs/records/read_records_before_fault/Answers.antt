use Rattle.std.proofs.Common.{◌≡◌, rules}
use Rattle.ctl_stanza.specs.Records.{records_before_fault}
use Rattle.ctl_stanza.proofs.RecordRunLemmas.{up_to_as}
use Rattle.ctl_stanza.proofs.records.read_records_before_fault.Goals as goal

pub returns-clause-records : goal.returns-clause-records
returns-clause-records c =
    let read : (c.shrink_to_fit.new.self.items, c.match-read_pieces.fault) ≡ records_before_fault c.args.first_line c.args.text.now = search rules in
    up_to_as c.args.first_line c.args.text.now c.shrink_to_fit.new.self.items c.match-read_pieces.fault read
