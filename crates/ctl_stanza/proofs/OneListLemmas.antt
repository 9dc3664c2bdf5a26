-- A text has one list of stanzas.
use Rattle.std.proofs.Common.{◌≡◌, ◌∙◌, ◌+◌, ◌<◌, ◌≤◌, ℕ, zero, suc, List, [], ◌∷◌, length, map, get_or, slice_index, refl, sym, subst, ap, ap₂, arith}
use Rattle.std.proofs.lemmas.List.{get_or-map, length-map}
use Rattle.std.specs.List.{Contains}
use Rattle.std.specs.List.Sorted.{IsStrictlyIncreasing}
use Rattle.ctl_stanza.specs.Content.{content_of}
use Rattle.ctl_stanza.specs.LineRuns.{Run, AreStanzasBefore}
use Rattle.ctl_stanza.specs.Laws.{StanzasAreOneList}
use Rattle.ctl_stanza.proofs.PlaceLemmas.{unique}
use Rattle.ctl_stanza.proofs.RunLemmas.{run, starts, AreBetween}

-- where starts rise, the first is the least
first-least : (r : Run) (rs : List Run) → IsStrictlyIncreasing (starts (r ∷ rs)) → (k : ℕ) → k < length (r ∷ rs) → r.start ≤ slice_index (starts (r ∷ rs)) k
first-least r rs rise zero lt = omega arith
first-least r rs rise (suc k) lt =
    let next : k + 1 ≡ suc k = omega arith in
    let less = subst (λ j. slice_index (starts (r ∷ rs)) k < slice_index (starts (r ∷ rs)) j) next (rise k (omega (arith, lt, length-map (r ∷ rs) (λ (x : Run). x.start)))) in
    omega (arith, less, first-least r rs rise k (omega (arith, lt)))

first-of : (r : Run) (rs : List Run) (x : Run) → IsStrictlyIncreasing (starts (r ∷ rs)) → Contains (r ∷ rs) x → r.start ≤ x.start
first-of r rs x rise has =
    let here : slice_index (starts (r ∷ rs)) has.0 ≡ x.start = get_or-map (λ (y : Run). y.start) (r ∷ rs) has.0 x 0 has.1 ∙ ap (λ (y : Run). y.start) has.2 in
    omega (arith, here, first-least r rs rise has.0 has.1)

tail-rises : (r : Run) (rs : List Run) → IsStrictlyIncreasing (starts (r ∷ rs)) → IsStrictlyIncreasing (starts rs)
tail-rises r rs rise = λ k lt.
    let next : suc k + 1 ≡ suc (k + 1) = omega arith in
    subst (λ j. slice_index (starts rs) k < slice_index (starts (r ∷ rs)) j) next (rise (suc k) (omega (arith, lt)))

behind-first : (r : Run) (rs : List Run) (x : Run) → r.start < x.start → Contains (r ∷ rs) x → Contains rs x
behind-first r rs x less has = go has.0 has.1 has.2
  where
    go : (k : ℕ) → k < length (r ∷ rs) → get_or (r ∷ rs) k x ≡ x → Contains rs x
    go zero lt e = absurd (omega (arith, less, ap (λ (y : Run). y.start) e))
    go (suc k) lt e = (k, omega (arith, lt), e)

tail-between : (lines : List (List ℕ)) (from to : ℕ) (r : Run) (rs : List Run) → AreBetween lines from to (r ∷ rs) → AreBetween lines (r.start + 1) to rs
tail-between lines from to r rs are = record {
  stand = λ k d lt.
      let there = are.stand (suc k) d (omega (arith, lt)) in
      let place : k + 1 ≡ suc k = omega arith in
      let size = length-map (r ∷ rs) (λ (x : Run). x.start) in
      let less = subst (λ j. slice_index (starts (r ∷ rs)) k < slice_index (starts (r ∷ rs)) j) place (are.rise k (omega (arith, lt, size))) in
      let here : slice_index (starts rs) k ≡ (get_or rs k d).start = get_or-map (λ (y : Run). y.start) rs k d 0 lt in
      (omega (arith, less, here, first-least r rs are.rise k (omega (arith, lt))), there.1);
  whole = λ x is. behind-first r rs x (omega (arith, is.0)) (are.whole x (omega (arith, is.0, (are.stand 0 r (omega arith)).0), is.1));
  rise = tail-rises r rs are.rise;
}

one-list : (lines : List (List ℕ)) (from to : ℕ) (rs ss : List Run) → AreBetween lines from to rs → AreBetween lines from to ss → rs ≡ ss
one-list lines from to [] [] a b = refl
one-list lines from to [] (s ∷ ss) a b = let there = a.whole s (b.stand 0 s (omega arith)) in absurd (omega (arith, there.1))
one-list lines from to (r ∷ rs) [] a b = let there = b.whole r (a.stand 0 r (omega arith)) in absurd (omega (arith, there.1))
one-list lines from to (r ∷ rs) (s ∷ ss) a b =
    let is_r = a.stand 0 r (omega arith) in
    let is_s = b.stand 0 s (omega arith) in
    let s_first = first-of s ss r b.rise (b.whole r is_r) in
    let r_first = first-of r rs s a.rise (a.whole s is_s) in
    let same = unique lines r.start s.start r.lines s.lines r.start is_r.1.0 is_s.1.0 (omega arith) (omega (arith, is_r.1.0.some)) s_first (omega (arith, is_s.1.0.some, r_first)) in
    let behind = subst (λ from. AreBetween lines (from + 1) to ss) (sym same.0) (tail-between lines from to s ss b) in
    ap₂ (λ x xs. x ∷ xs) (ap₂ run same.0 same.1) (one-list lines (r.start + 1) to rs ss (tail-between lines from to r rs a) behind)

between-all : (lines : List (List ℕ)) (to : ℕ) (runs : List Run) → AreStanzasBefore lines to runs → AreBetween lines 0 to runs
between-all lines to runs are = record {
  stand = λ k d lt. (omega arith, are.stand k d lt);
  whole = λ r is. are.whole r is.1;
  rise = are.rise;
}

pub one_list_of_stanzas : StanzasAreOneList
one_list_of_stanzas kind lines contents others a b =
    let same = one-list lines 0 (length lines) a.runs b.runs (between-all lines (length lines) a.runs a.are_stanzas) (between-all lines (length lines) b.runs b.are_stanzas) in
    a.contents_are ∙ ap (map (λ (r : Run). content_of kind r.lines)) same ∙ sym b.contents_are
