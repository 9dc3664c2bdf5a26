-- Parts of a text that grows.
use Rattle.std.proofs.Common.{◌≡◌, ◌∙◌, ◌+◌, ◌-◌, ◌≤◌, ℕ, List, ◌++◌, length, drop, take, ap, sym, arith, length-append}
use Rattle.std.specs.List.{slice_range}
use Rattle.std.proofs.lemmas.List.{drop_at, drop-append-le, take-append-le, length-drop}
use Rattle.std.proofs.Math.Seq.{take-length}
use Rattle.ctl_query.specs.Inside.TextParts.{StandsAt}

between : (text more : List ℕ) (start end : ℕ) → start ≤ end → end ≤ length text → slice_range (text ++ more) start end ≡ slice_range text start end
between text more start end order inside =
    let left : length (drop start text) ≡ length text - start = length-drop start text in
    ap (take (end - start)) (drop-append-le start text more (omega (arith, order, inside)))
    ∙ take-append-le (end - start) (drop start text) more (omega (arith, left, order, inside))

-- what stands between two places stands there when more follows
pub stays_when_more : (text more part : List ℕ) (start end : ℕ) → StandsAt text start end part → StandsAt (text ++ more) start end part
stays_when_more text more part start end h = (h.0, omega (arith, h.1, length-append text more), between text more start end h.0 h.1 ∙ h.2)

-- a part that was just written
pub just_written : (old new part : List ℕ) (start end : ℕ) → start ≡ length old → end ≡ length new → new ≡ old ++ part → StandsAt new start end part
just_written old new part start end at to text =
    let longer : length new ≡ length old + length part = ap length text ∙ length-append old part in
    let many : end - start ≡ length part = omega (arith, at, to, longer) in (
      omega (arith, at, to, longer),
      omega (arith, to),
      ap (λ (t : List ℕ). slice_range t start end) text ∙ ap (take (end - start)) (drop_at old part start (sym at)) ∙ ap (λ n. take n part) many ∙ take-length part,
    )
