-- Why a pattern of `--rx` was not built. Not for callers.
use Rattle.std.specs.Prelude.{◌≡◌, ℕ, Bool, true, false, List, ⊤}
use Rattle.ctl_store.specs.declared.refusal.Refusal.{Refusal}
use Rattle.ctl_store.specs.declared.refusal.Refusal.TheVariants as refusal
use Rattle.ctl_filter.specs.declared.expression.PatternFault.{PatternFault}
use Rattle.ctl_filter.specs.declared.expression.PatternFault.TheVariants.{Malformed, TooBig, Memory}
use Rattle.ctl_filter.specs.Rx.{is_well_formed}

-- A malformed pattern isn't well formed, and one that is too big is. Nothing is known where memory ran out.
abbrev pub IsFaultOf : Bool → List ℕ → PatternFault → Type 0
IsFaultOf ignores_case pattern Malformed = is_well_formed ignores_case pattern ≡ false
IsFaultOf ignores_case pattern TooBig = is_well_formed ignores_case pattern ≡ true
IsFaultOf ignores_case pattern Memory = ⊤

-- what the filter is refused for
abbrev pub refusal_of : PatternFault → Refusal
refusal_of Malformed = refusal.Pattern
refusal_of TooBig = refusal.Pattern
refusal_of Memory = refusal.Memory
