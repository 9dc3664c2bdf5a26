use Rattle.std.proofs.Common.{rules, ◌≡◌, ◌∙◌, ◌+◌, List, length, Some, refl, ap, sym, arith, slice_range}
use Rattle.ctl_stanza.specs.declared.fault.TextFault.{TextFault}
use Rattle.ctl_stanza.specs.Lines.{lines_of, lent_lines}
use Rattle.ctl_stanza.specs.Records.{RecordText, record_fault, records_before}
use Rattle.ctl_stanza.specs.Text.{pieces_of}
use Rattle.ctl_stanza.proofs.TurnLemmas.{record-turn, record-end, record-bad, room-next, first-lent}
use Rattle.ctl_stanza.proofs.records.read_pieces.Goals as goal

pub returns-in_err-read_record-clause-fault : goal.returns-in_err-read_record-clause-fault
returns-in_err-read_record-clause-fault c =
    let taken = c.take_piece.new.lines.items in
    let at = c.pieces.at in
    let numbers = c.args.kept.now.numbers.items in
    let count : c.len.result ≡ length taken = omega (arith, c.len.ensures) in
    let told : (f : TextFault) → record_fault (slice_range c.deref.result.now at (at + c.len.result)) (lent_lines taken) ≡ Some f
    → (c.read_record.new.records.items, Some f) ≡ records_before numbers (pieces_of 0 (lines_of c.args.kept.now.text.items))
    = λ f e. ap (λ (records : List RecordText). (records, Some f)) c.in_err-read_record.ensures.kept
    ∙ record-bad numbers _ c.pieces.records.items at _ (lines_of c.pieces.left.now) (lines_of c.in_ok-behind.behind.now) taken f _
    (first-lent (lines_of c.pieces.left.now) (lines_of c.in_ok-behind.behind.now) taken taken refl c.in_ok-behind.ensures.first)
    (ap (λ k. at + k) count) (ap (λ xs. slice_range xs at (at + c.len.result)) c.deref.ensures.value) e c.pieces.invariant.told in
    search (rules, told)

pub returns-clause-read : goal.returns-clause-read
returns-clause-read c =
    record-end c.args.kept.now.numbers.items c.pieces.at c.pieces.left.now c.pieces.records.items c.pieces.records.items _ (sym c.is_empty.ensures ∙ c.pieces-test.false) refl c.pieces.invariant.told

pub pieces-preserved : goal.pieces-preserved
pieces-preserved c =
    let taken = c.take_piece.new.lines.items in
    let at = c.pieces.at in
    let count : c.len.result ≡ length taken = omega (arith, c.len.ensures) in
    let size = ap (λ k. at + k) count in
    record {
      seen = c.in_ok-read_record.ensures.none;
      room = omega (arith, room-next (lines_of c.pieces.left.now) (lines_of c.in_ok-behind.behind.now) taken at _ c.in_ok-behind.ensures.lines c.pieces.invariant.room, c.len.ensures);
      told = record-turn c.args.kept.now.numbers.items _ c.pieces.records.items c.read_record.new.records.items at _ (lines_of c.pieces.left.now) (lines_of c.in_ok-behind.behind.now) taken _
          (first-lent (lines_of c.pieces.left.now) (lines_of c.in_ok-behind.behind.now) taken taken refl c.in_ok-behind.ensures.first) size (ap (λ xs. slice_range xs at (at + c.len.result)) c.deref.ensures.value)
          c.in_ok-read_record.ensures.whole c.in_ok-read_record.ensures.records c.pieces.invariant.told;
    }
