-- The rows of a name fall, sources bound their priorities, and the candidate is the best of them.
use Rattle.std.proofs.Common.{◌≡◌, ◌≤ℤ◌, ◌<ℤ◌, ◌⊎◌, inl, inr, ℕ, ℤ, suc, zero, Bool, true, false, cond, List, [], ◌∷◌, ◌++◌, map, reverse, Option, None, Some, IfSome, IsSome, is_some, unwrap_or, ◌||◌, refl, ap, sym, subst, ◌∙◌, arith, Less}
use Rattle.std.specs.Prelude.{int_lt}
use Rattle.std.specs.Int.{int_max}
use Rattle.std.specs.FinMap as fin
use Rattle.std.specs.List.{All, AllByRecursion, Contains, fold, list_any}
use Rattle.std.specs.Map.{keys_of}
use Rattle.std.proofs.lemmas.Int.{ints, fold-int_max_bounds, fold-int_max_reached}
use Rattle.std.proofs.lemmas.Bool.{false≢true}
use Rattle.std.proofs.lemmas.List.{reverse-append}
use Rattle.ctl_relation.specs.Version.{Triple, triple_of, triple_cmp}
use Rattle.ctl_store.specs.declared.stanza_key.StanzaKey.{StanzaKey}
use Rattle.ctl_store.specs.Entries.{Entry, entries_of}
use Rattle.ctl_store.specs.Keys.{holder_of}
use Rattle.ctl_policy.specs.Keys.{some_keys}
use Rattle.ctl_policy.specs.Rows.{Lists, Row, rows_named, is_in_row, keys_with, newest_first, lead_of}
use Rattle.ctl_policy.specs.Priority.{World, specific_pin, source_priorities, greatest, greatest_with, row_priority, priority_found}
use Rattle.ctl_policy.specs.Candidate.{Choice, may_be_taken, better, best_of, choice_of, lead_of_choice, candidate_of, wanted_version, version_if_row}
use Rattle.ctl_policy.specs.Laws.{rows_in}
use Rattle.ctl_policy.specs.ChoiceLaws.{AreFalling, IsGreatest, LeadsBest, MayTakeNone, may_take}
use Rattle.ctl_policy.proofs.AlikeLemmas.{IsUnder, IsRising}
use Rattle.ctl_policy.proofs.DefinedLemmas.{row_defined}
use Rattle.ctl_policy.proofs.HeldLemmas.{each_value}
use Rattle.ctl_policy.proofs.ShownLemmas.{sorted, find_is}
use Rattle.ctl_policy.proofs.TouchLemmas.{all_append, all_reverse, all_shown}

-- ---- rows

abbrev shown : List ℕ × List StanzaKey → Row
shown row = (triple_of row.0, row.1)

falls_append : (xs : List Row) (row : Row) → AreFalling xs → AllByRecursion (λ (other : Row). triple_cmp row.0 other.0 ≡ Less) xs → AreFalling (xs ++ row ∷ [])
falls_append [] row h below = (tt, tt)
falls_append (x ∷ xs) row h below = (all_append (λ (other : Row). triple_cmp other.0 x.0 ≡ Less) xs (row ∷ []) h.0 (below.0, tt), falls_append xs row h.1 below.1)

under_shown : (k : List ℕ) (es : List (List ℕ × List StanzaKey)) → IsUnder k (keys_of es) → AllByRecursion (λ (other : Row). triple_cmp (triple_of k) other.0 ≡ Less) (map shown es)
under_shown k [] h = tt
under_shown k (e ∷ es) h = (h.0, under_shown k es h.1)

falls_shown : (es : List (List ℕ × List StanzaKey)) → IsRising (keys_of es) → AreFalling (reverse (map shown es))
falls_shown [] h = tt
falls_shown (e ∷ es) h = subst AreFalling (sym (reverse-append (shown e ∷ []) (map shown es)))
    (falls_append (reverse (map shown es)) (shown e) (falls_shown es h.1) (all_reverse (λ (other : Row). triple_cmp (triple_of e.0) other.0 ≡ Less) (map shown es) (under_shown e.0 es h.0)))

pub fall : (name : List ℕ) (lists : Lists) → AreFalling (newest_first (rows_named name lists))
fall name lists = falls_shown (fin.entries (rows_named name lists)) (sorted (fin.entries (rows_named name lists)) (fin.entries_sorted (rows_named name lists)))

any_key : (name version : List ℕ) (es : List Entry) → is_some (some_keys (keys_with (is_in_row name version) es)) ≡ list_any (λ (e : Entry). is_in_row name version e.1) es
any_key name version [] = refl
any_key name version (e ∷ es) = by (is_in_row name version e.1) refl (any_key name version es)
  where
    by : (b : Bool) → is_in_row name version e.1 ≡ b → is_some (some_keys (keys_with (is_in_row name version) es)) ≡ list_any (λ (e : Entry). is_in_row name version e.1) es
        → is_some (some_keys (cond b (e.0 ∷ keys_with (is_in_row name version) es) (keys_with (is_in_row name version) es))) ≡ list_any (λ (e : Entry). is_in_row name version e.1) (e ∷ es)
    by true is h = sym (ap (λ b. b || list_any (λ (e : Entry). is_in_row name version e.1) es) is)
    by false is h = h ∙ sym (ap (λ b. b || list_any (λ (e : Entry). is_in_row name version e.1) es) is)

pub there : (name version : List ℕ) (lists : Lists) → is_some (fin.get (rows_named name lists) version) ≡ list_any (λ (e : Entry). is_in_row name version e.1) (entries_of lists)
there name version lists = ap (λ o. is_some o) (row_defined name version lists) ∙ any_key name version (entries_of lists)

-- each row has a lead
has_lead : (keys : List StanzaKey) → IfSome (some_keys keys) (λ ks. IsSome (lead_of ks))
has_lead [] = tt
has_lead (k ∷ keys) = refl

pub leads : (name : List ℕ) (lists : Lists) → AllByRecursion (λ (row : Row). IsSome (lead_of row.1)) (newest_first (rows_named name lists))
leads name lists =
    let es = fin.entries (rows_named name lists) in
    all_reverse (λ (row : Row). IsSome (lead_of row.1)) (map shown es) (all_shown (λ ks. IsSome (lead_of ks)) es
    (each_value (λ ks. IsSome (lead_of ks)) es (sorted es (fin.entries_sorted (rows_named name lists)))
    (λ v. subst (λ o. IfSome o (λ ks. IsSome (lead_of ks))) (sym (find_is v es ∙ sym (fin.get-entries (rows_named name lists) v) ∙ row_defined name v lists)) (has_lead (keys_with (is_in_row name v) (entries_of lists))))))

-- ---- the priorities of sources

folded : (p : ℤ) (ps : List ℤ) → greatest_with p ps ≡ fold int_max p ps
folded p [] = refl
folded p (q ∷ ps) = folded (int_max p q) ps

all_cons : (P : ℤ → Type 0) (p : ℤ) (ps : List ℤ) → P p → All P ps → All P (p ∷ ps)
all_cons P p ps h all zero d below = h
all_cons P p ps h all (suc k) d below = all k d (omega (arith, below))

one_cons : (r p : ℤ) (ps : List ℤ) → (r ≡ p) ⊎ Contains ps r → Contains (p ∷ ps) r
one_cons r p ps (inl e) = (0, omega arith, sym e)
one_cons r p ps (inr h) = (suc h.0, omega (arith, h.1), h.2)

greatest_is : (p : ℤ) (ps : List ℤ) → IsGreatest (greatest_with p ps) (p ∷ ps)
greatest_is p ps =
    let bounds = fold-int_max_bounds p ps (greatest_with p ps) (folded p ps) in
    record {
      bound = all_cons (λ q. q ≤ℤ greatest_with p ps) p ps bounds.0 bounds.1;
      one = one_cons (greatest_with p ps) p ps (fold-int_max_reached p ps (greatest_with p ps) (folded p ps));
    }

pub sources_bound : (name : List ℕ) (w : World) (lead : StanzaKey) (others : List StanzaKey) → specific_pin name w.lists (lead ∷ others) w.pins ≡ None
    → IsGreatest (row_priority name w (lead ∷ others)) (source_priorities w (lead ∷ others))
sources_bound name w lead others none =
    subst (λ p. IsGreatest p (source_priorities w (lead ∷ others))) (sym (ap (λ o. unwrap_or o (greatest (source_priorities w (lead ∷ others)))) none))
    (greatest_is (priority_found w (holder_of lead w.lists)) (source_priorities w others))

-- ---- the best row

less : (a b : ℤ) → int_lt a b ≡ true → a <ℤ b
less a b h = grind (arith, ints)

at_least : (a b : ℤ) → int_lt a b ≡ false → b ≤ℤ a
at_least a b h = grind (arith, ints)

below_then : (a b c : ℤ) → a <ℤ b → b ≤ℤ c → a ≤ℤ c
below_then a b c h k = omega (arith, ints, h, k)

at_most_then : (a b c : ℤ) → a ≤ℤ b → b ≤ℤ c → a ≤ℤ c
at_most_then a b c h k = omega (arith, ints, h, k)

module _ (priority : List StanzaKey → ℤ) (installed : Option Triple) where
  abbrev may : Row → Bool
  may row = may_be_taken (priority row.1) row.0 installed

  record IsBestOf (rows : List Row) (choice : ℤ × Option StanzaKey) : Type 0 where
    row : Row
    priority_is : choice.0 ≡ priority row.1
    lead_is : choice.1 ≡ lead_of row.1
    newer : List Row
    older : List Row
    rows_are : rows ≡ newer ++ row ∷ older
    taken : may row ≡ true
    below : AllByRecursion (λ (other : Row). may other ≡ true → priority other.1 <ℤ choice.0) newer
    at_most : AllByRecursion (λ (other : Row). may other ≡ true → priority other.1 ≤ℤ choice.0) older

  none_taken : (rows : List Row) → best_of priority installed rows ≡ None → AllByRecursion (λ (row : Row). may row ≡ false) rows
  none_taken [] e = tt
  none_taken (row ∷ rows) e = by (may row) refl (best_of priority installed rows) refl e (none_taken rows)
    where
      by : (b : Bool) → may row ≡ b → (o : Choice) → best_of priority installed rows ≡ o → cond b (better (priority row.1, lead_of row.1) o) o ≡ None
          → (best_of priority installed rows ≡ None → AllByRecursion (λ (row : Row). may row ≡ false) rows) → AllByRecursion (λ (row : Row). may row ≡ false) (row ∷ rows)
      by true is None rest e others = cc
      by true is (Some c) rest e others = split (int_lt (priority row.1) c.0) e
        where
          split : (d : Bool) → cond {A = Choice} d (Some c) (Some (priority row.1, lead_of row.1)) ≡ None → AllByRecursion (λ (row : Row). may row ≡ false) (row ∷ rows)
          split true e = cc
          split false e = cc
      by false is o rest e others = (is, others (rest ∙ e))

  pub not_taken : (rows : List Row) → AllByRecursion (λ (row : Row). may row ≡ false) rows → best_of priority installed rows ≡ None
  not_taken [] h = refl
  not_taken (row ∷ rows) h = ap (λ b. cond b (better (priority row.1, lead_of row.1) (best_of priority installed rows)) (best_of priority installed rows)) h.0 ∙ not_taken rows h.1

  -- what may not be taken is bounded by nothing
  vacuous : (p : ℤ) (rows : List Row) → AllByRecursion (λ (row : Row). may row ≡ false) rows → AllByRecursion (λ (other : Row). may other ≡ true → priority other.1 ≤ℤ p) rows
  vacuous p [] h = tt
  vacuous p (row ∷ rows) h = ((λ e. absurd (false≢true (sym h.0 ∙ e))), vacuous p rows h.1)

  weaker_below : (p q : ℤ) (rows : List Row) → q ≤ℤ p → AllByRecursion (λ (other : Row). may other ≡ true → priority other.1 <ℤ q) rows → AllByRecursion (λ (other : Row). may other ≡ true → priority other.1 ≤ℤ p) rows
  weaker_below p q [] le h = tt
  weaker_below p q (row ∷ rows) le h = ((λ e. below_then (priority row.1) q p (h.0 e) le), weaker_below p q rows le h.1)

  weaker_at_most : (p q : ℤ) (rows : List Row) → q ≤ℤ p → AllByRecursion (λ (other : Row). may other ≡ true → priority other.1 ≤ℤ q) rows → AllByRecursion (λ (other : Row). may other ≡ true → priority other.1 ≤ℤ p) rows
  weaker_at_most p q [] le h = tt
  weaker_at_most p q (row ∷ rows) le h = ((λ e. at_most_then (priority row.1) q p (h.0 e) le), weaker_at_most p q rows le h.1)

  -- all are at most as great as what is as great as the best
  all_bounded : (p : ℤ) (rows : List Row) (c : ℤ × Option StanzaKey) → c.0 ≤ℤ p → IsBestOf rows c → AllByRecursion (λ (other : Row). may other ≡ true → priority other.1 ≤ℤ p) rows
  all_bounded p rows c le best =
      subst (λ rs. AllByRecursion (λ (other : Row). may other ≡ true → priority other.1 ≤ℤ p) rs) (sym best.rows_are)
      (all_append (λ (other : Row). may other ≡ true → priority other.1 ≤ℤ p) best.newer (best.row ∷ best.older) (weaker_below p c.0 best.newer le best.below)
      ((λ e. subst (λ z. z ≤ℤ p) best.priority_is le), weaker_at_most p c.0 best.older le best.at_most))

  abbrev first : Row → ℤ × Option StanzaKey
  first row = (priority row.1, lead_of row.1)

  best_is : (rows : List Row) (c : ℤ × Option StanzaKey) → best_of priority installed rows ≡ Some c → IsBestOf rows c
  best_is [] c e = cc
  best_is (row ∷ rows) c e = by (may row) refl (best_of priority installed rows) refl e (best_is rows)
    where
      taken_first : may row ≡ true → AllByRecursion (λ (other : Row). may other ≡ true → priority other.1 ≤ℤ priority row.1) rows → IsBestOf (row ∷ rows) (first row)
      taken_first is all = record { row = row; priority_is = refl; lead_is = refl; newer = []; older = rows; rows_are = refl; taken = is; below = tt; at_most = all }

      later : (d : ℤ × Option StanzaKey) → (may row ≡ true → priority row.1 <ℤ d.0) → IsBestOf rows d → IsBestOf (row ∷ rows) d
      later d lower best = record {
        row = best.row;
        priority_is = best.priority_is;
        lead_is = best.lead_is;
        newer = row ∷ best.newer;
        older = best.older;
        rows_are = ap (λ rs. row ∷ rs) best.rows_are;
        taken = best.taken;
        below = (lower, best.below);
        at_most = best.at_most;
      }

      by : (b : Bool) → may row ≡ b → (o : Choice) → best_of priority installed rows ≡ o → cond b (better (first row) o) o ≡ Some c
          → ((d : ℤ × Option StanzaKey) → best_of priority installed rows ≡ Some d → IsBestOf rows d) → IsBestOf (row ∷ rows) c
      by true is None rest e others = let same : first row ≡ c = cc in subst (IsBestOf (row ∷ rows)) same (taken_first is (vacuous (priority row.1) rows (none_taken rows rest)))
      by true is (Some d) rest e others = split (int_lt (priority row.1) d.0) refl e
        where
          split : (b : Bool) → int_lt (priority row.1) d.0 ≡ b → cond {A = Choice} b (Some d) (Some (first row)) ≡ Some c → IsBestOf (row ∷ rows) c
          split true lt e = let same : d ≡ c = cc in subst (IsBestOf (row ∷ rows)) same (later d (λ m. less (priority row.1) d.0 lt) (others d rest))
          split false ge e = let same : first row ≡ c = cc in subst (IsBestOf (row ∷ rows)) same (taken_first is (all_bounded (priority row.1) rows d (at_least (priority row.1) d.0 ge) (others d rest)))
      by false is o rest e others = later c (λ m. absurd (false≢true (sym is ∙ m))) (others c (rest ∙ e))

-- ---- the candidate

module _ (name : List ℕ) (w : World) where
  abbrev installed : Option Triple
  installed = version_if_row (rows_named name w.lists) (wanted_version name w)

  led : (lead : StanzaKey) (o : Choice) → choice_of name w ≡ o → lead_of_choice o ≡ Some lead → LeadsBest name w lead
  led lead None is e = cc
  led lead (Some c) is e =
      let best = best_is (row_priority name w) installed (rows_in name w) c is in
      record {
        row = best.row;
        lead_is = sym best.lead_is ∙ e;
        best = record {
          newer = best.newer;
          older = best.older;
          rows = best.rows_are;
          taken = best.taken;
          below = subst (λ p. AllByRecursion (λ (other : Row). may_take name w other ≡ true → row_priority name w other.1 <ℤ p) best.newer) best.priority_is best.below;
          at_most = subst (λ p. AllByRecursion (λ (other : Row). may_take name w other ≡ true → row_priority name w other.1 ≤ℤ p) best.older) best.priority_is best.at_most;
        };
      }

  pub candidate_best : (lead : StanzaKey) → candidate_of name w ≡ Some lead → LeadsBest name w lead
  candidate_best lead e = led lead (choice_of name w) refl e

  -- one that stands between others
  middle : (P : Row → Type 0) (xs : List Row) (row : Row) (ys : List Row) → AllByRecursion P (xs ++ row ∷ ys) → P row
  middle P [] row ys h = h.0
  middle P (x ∷ xs) row ys h = middle P xs row ys h.1

  unled : (o : Choice) → choice_of name w ≡ o → lead_of_choice o ≡ None → MayTakeNone name w
  unled None is e = none_taken (row_priority name w) installed (rows_in name w) is
  unled (Some c) is e =
      let best = best_is (row_priority name w) installed (rows_in name w) c is in
      let lead : IsSome (lead_of best.row.1) = middle (λ (row : Row). IsSome (lead_of row.1)) best.newer best.row best.older (subst (λ rs. AllByRecursion (λ (row : Row). IsSome (lead_of row.1)) rs) best.rows_are (leads name w.lists)) in
      absurd (false≢true (sym (ap (λ o. is_some o) (sym best.lead_is ∙ e)) ∙ lead))

  pub candidate_none : candidate_of name w ≡ None → MayTakeNone name w
  candidate_none e = unled (choice_of name w) refl e

  pub candidate_only : MayTakeNone name w → candidate_of name w ≡ None
  candidate_only h = ap lead_of_choice (not_taken (row_priority name w) installed (rows_in name w) h)
