-- A fault that can't be another one is that memory ran out.
use Rattle.std.proofs.Common.{◌≡◌, ◌≢◌, refl}
use Rattle.ctl_relation.specs.declared.relation_fault.RelationFault.{RelationFault}
use Rattle.ctl_relation.specs.declared.relation_fault.RelationFault.TheVariants.{Name, Operator, Version, Close, Alternative, ProvidesOperator, Memory}

pub memory_alone : (fault : RelationFault) → (fault ≢ Memory → ⊥) → fault ≡ Memory
memory_alone Name h = absurd (h (λ e. cc))
memory_alone Operator h = absurd (h (λ e. cc))
memory_alone Version h = absurd (h (λ e. cc))
memory_alone Close h = absurd (h (λ e. cc))
memory_alone Alternative h = absurd (h (λ e. cc))
memory_alone ProvidesOperator h = absurd (h (λ e. cc))
memory_alone Memory h = refl
