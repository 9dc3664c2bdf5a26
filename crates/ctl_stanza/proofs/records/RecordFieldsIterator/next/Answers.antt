use Rattle.std.proofs.Common.{suc, arith}
use Rattle.ctl_stanza.proofs.records.RecordFieldsIterator.next.Goals as goal

-- the fields behind the first one lie in the bytes as all do
pub invariant_of-self : goal.invariant_of-self
invariant_of-self c =
    let within = rw c.in_ok-field.ensures.cases.0 at c.self.invariant.within in
    let below = rw c.in_ok-field.ensures.cases.0 at c.self.invariant.below in
    record {
      some = c.self.invariant.some;
      within = λ k d lt. within (suc k) d (omega arith);
      below = λ k d lt. below (suc k) d (omega arith);
    }
