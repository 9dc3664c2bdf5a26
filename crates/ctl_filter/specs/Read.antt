-- What a reader of words answers.
use Rattle.std.specs.Prelude.{◌≡◌, ◌⊎◌, Result, Ok, Err}
use Rattle.ctl_store.specs.declared.refusal.Refusal.{Refusal}
use Rattle.ctl_store.specs.declared.refusal.Refusal.TheVariants as refusal

-- The value of the definition was read, or it is refused as the definition says, or memory ran out.
abbrev pub Reads : {X Y : Type 0} → (X → Y) → Result X Refusal → Result Y Refusal → Type 0
Reads view (Ok x) asked = asked ≡ Ok (view x)
Reads view (Err cause) asked = (asked ≡ Err cause) ⊎ (cause ≡ refusal.Memory)
