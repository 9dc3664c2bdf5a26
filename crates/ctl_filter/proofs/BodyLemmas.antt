-- A pattern without a newline that stands in the body of a field stands in the stanza's text: each line of a body is a part of a line of
-- the text.
use Rattle.std.proofs.Common.{◌≡◌, ◌∙◌, ℕ, zero, suc, ◌+◌, Bool, true, false, ◌||◌, ◌==◌, cond, List, [], ◌∷◌, ◌++◌, take, drop, Option, None, Some, refl, sym, ap, append-nil, arith}
use Rattle.std.specs.Prelude.{not, position, slice_index}
use Rattle.std.specs.List.{list_any, prefix_len}
use Rattle.std.specs.Option.{option_map_or}
use Rattle.std.specs.Char.{to_ascii_lowercase}
use Rattle.std.specs.Str.{str_to_ascii_lowercase, str_eq_ignore_ascii_case}
use Rattle.std.proofs.lemmas.Slice.Eq.{bytes_eq-Decides}
use Rattle.std.proofs.lemmas.Bool.{and_parts, and_from, false≢true, or_left, or_right, or_parts, or_from, false_from_ne_true}
use Rattle.ctl_relation.specs.Bytes.{newline, colon, hash, hyphen}
use Rattle.ctl_stanza.specs.Lines.{onto_first, lines_of, is_blank_byte, is_blank}
use Rattle.ctl_stanza.specs.LineKind.{kind_of, kind_after_name, is_field_name_byte}
use Rattle.ctl_stanza.specs.Fields.{strip_front, before_stripped, strip_end, value_of, continues, continued, FieldText, field_at, fields_from, is_same_name, body_named}
use Rattle.ctl_stanza.specs.Content.{Content, body_of}
use Rattle.ctl_filter.specs.Substring.{begins, contains, contains_in_any_case}
use Rattle.ctl_filter.specs.Filter.{Substring, text_passes, field_passes}
use Rattle.ctl_filter.specs.declared.atom.Searcher.{Searcher}
use Rattle.ctl_filter.specs.declared.atom.Test.TheVariants as held
use Rattle.ctl_filter.specs.Inside.Searchers.{is_newline, finds, sought_by, sought_of, Fits}
use Rattle.ctl_filter.proofs.SubstringLemmas.{contains-iff}
use Rattle.ctl_filter.proofs.AnyCaseLemmas.{any_case-iff, contains_lowered}

-- what holds of both holds of either
either_way : {T : Type 0} (P : T → Type 0) (c : Bool) (x y : T) → P x → P y → P (cond c x y)
either_way P true x y one other = one
either_way P false x y one other = other

-- one of two tests passes, of which each makes another pass
or_map : (x y u v : Bool) → (x ≡ true → u ≡ true) → (y ≡ true → v ≡ true) → (x || y) ≡ true → (u || v) ≡ true
or_map x y true v f g h = refl
or_map true y false v f g h = absurd (false≢true (f refl))
or_map false y false v f g h = g h

or_either : (x y v : Bool) → (x ≡ true → v ≡ true) → (y ≡ true → v ≡ true) → (x || y) ≡ true → v ≡ true
or_either true y v f g h = f refl
or_either false y v f g h = g h

or_nested : (x y z : Bool) → ((x || y) || z) ≡ true → (x || (y || z)) ≡ true
or_nested true y z h = refl
or_nested false y z h = h

or_nested_back : (x y z : Bool) → (x || (y || z)) ≡ true → ((x || y) || z) ≡ true
or_nested_back true y z h = refl
or_nested_back false y z h = h

-- ---- fronts

begins-none : (q t : List ℕ) → begins q [] ≡ true → begins q t ≡ true
begins-none [] t h = refl
begins-none (x ∷ q) t h = absurd (false≢true h)

-- a front that begins alike
begins-onto : (q u t : List ℕ) (b : ℕ) → ((r : List ℕ) → begins r u ≡ true → begins r t ≡ true) → begins q (b ∷ u) ≡ true → begins q (b ∷ t) ≡ true
begins-onto [] u t b more h = refl
begins-onto (x ∷ q) u t b more h = let both = and_parts (x == b) (begins q u) h in and_from (x == b) (begins q t) both.0 (more q both.1)

begins-line : (q a rest : List ℕ) → list_any is_newline q ≡ false → begins q (a ++ newline ∷ rest) ≡ true → begins q a ≡ true
begins-line [] a rest free h = refl
begins-line (x ∷ q) [] rest free h =
    absurd (false≢true (sym (or_parts (x == newline) (list_any is_newline q) free).0 ∙ (and_parts (x == newline) (begins q rest) h).0))
begins-line (x ∷ q) (b ∷ a) rest free h =
    let both = and_parts (x == b) (begins q (a ++ newline ∷ rest)) h in
    and_from (x == b) (begins q a) both.0 (begins-line q a rest (or_parts (x == newline) (list_any is_newline q) free).1 both.1)

-- the first of lines
abbrev first : List (List ℕ) → List ℕ
first [] = []
first (line ∷ lines) = line

first-onto : (b : ℕ) (lines : List (List ℕ)) → first (onto_first b lines) ≡ b ∷ first lines
first-onto b [] = refl
first-onto b (line ∷ lines) = refl

begins-first : (t q : List ℕ) → begins q (first (lines_of t)) ≡ true → begins q t ≡ true
begins-first [] q h = h
begins-first (b ∷ t) q h = by (begins-first t) (b == newline) h
  where
    by : ((r : List ℕ) → begins r (first (lines_of t)) ≡ true → begins r t ≡ true) → (c : Bool)
        → begins q (first (cond c ([] ∷ lines_of t) (onto_first b (lines_of t)))) ≡ true → begins q (b ∷ t) ≡ true
    by more true h = begins-none q (b ∷ t) h
    by more false h = begins-onto q (first (lines_of t)) t b more (ap (begins q) (sym (first-onto b (lines_of t))) ∙ h)

-- a text begins as it does without the blanks at its end
begins-stripped : (t q : List ℕ) → begins q (strip_end t) ≡ true → begins q t ≡ true
begins-stripped [] q h = h
begins-stripped (b ∷ t) q h = by (strip_end t) (begins-stripped t) h
  where
    one : (c : Bool) → ((r : List ℕ) → begins r [] ≡ true → begins r t ≡ true) → begins q (cond c [] (b ∷ [])) ≡ true → begins q (b ∷ t) ≡ true
    one true more h = begins-none q (b ∷ t) h
    one false more h = begins-onto q [] t b more h

    by : (u : List ℕ) → ((r : List ℕ) → begins r u ≡ true → begins r t ≡ true) → begins q (before_stripped b u) ≡ true → begins q (b ∷ t) ≡ true
    by [] more h = one (is_blank_byte b) more h
    by (c ∷ u) more h = begins-onto q (c ∷ u) t b more h

module _ (p : List ℕ) where
  -- ---- parts of lines

  in_none : (t : List ℕ) → begins p [] ≡ true → contains p t ≡ true
  in_none [] h = h
  in_none (b ∷ t) h = or_left (begins p (b ∷ t)) (contains p t) (begins-none p (b ∷ t) h)

  in_dropped : (k : ℕ) (t : List ℕ) → contains p (drop k t) ≡ true → contains p t ≡ true
  in_dropped zero t h = h
  in_dropped (suc k) [] h = h
  in_dropped (suc k) (b ∷ t) h = or_right (begins p (b ∷ t)) (contains p t) (in_dropped k t h)

  in_stripped : (t : List ℕ) → contains p (strip_end t) ≡ true → contains p t ≡ true
  in_stripped [] h = h
  in_stripped (b ∷ t) h = by (strip_end t) (begins-stripped t) (in_stripped t) h
    where
      one : (c : Bool) → ((r : List ℕ) → begins r [] ≡ true → begins r t ≡ true) → contains p (cond c [] (b ∷ [])) ≡ true → contains p (b ∷ t) ≡ true
      one true more h = in_none (b ∷ t) h
      one false more h = or_either (begins p (b ∷ [])) (begins p []) (contains p (b ∷ t))
          (λ here. or_left (begins p (b ∷ t)) (contains p t) (begins-onto p [] t b more here)) (in_none (b ∷ t)) h

      by : (u : List ℕ) → ((r : List ℕ) → begins r u ≡ true → begins r t ≡ true) → (contains p u ≡ true → contains p t ≡ true)
          → contains p (before_stripped b u) ≡ true → contains p (b ∷ t) ≡ true
      by [] more inner h = one (is_blank_byte b) more h
      by (c ∷ u) more inner h = or_map (begins p (b ∷ c ∷ u)) (contains p (c ∷ u)) (begins p (b ∷ t)) (contains p t) (begins-onto p (c ∷ u) t b more) inner h

  in_value : (n : ℕ) (line : List ℕ) → contains p (value_of n line) ≡ true → contains p line ≡ true
  in_value n line h =
      let behind = drop (n + 1) line in
      in_dropped (n + 1) line (in_dropped (prefix_len is_blank_byte behind) behind (in_stripped (strip_front behind) h))

  -- ---- lines of a text

  in_onto : (b : ℕ) (lines : List (List ℕ)) → list_any (contains p) (onto_first b lines) ≡ true → (begins p (b ∷ first lines) || list_any (contains p) lines) ≡ true
  in_onto b [] h = or_map (begins p (b ∷ []) || begins p []) false (begins p (b ∷ [])) false
      (or_either (begins p (b ∷ [])) (begins p []) (begins p (b ∷ [])) (λ here. here) (begins-none p (b ∷ []))) (λ none. none) h
  in_onto b (line ∷ lines) h = or_nested (begins p (b ∷ line)) (contains p line) (list_any (contains p) lines) h

  in_lines : (t : List ℕ) → list_any (contains p) (lines_of t) ≡ true → contains p t ≡ true
  in_lines [] h = absurd (false≢true h)
  in_lines (b ∷ t) h = by (in_lines t) (b == newline) h
    where
      by : (list_any (contains p) (lines_of t) ≡ true → contains p t ≡ true) → (c : Bool)
          → list_any (contains p) (cond c ([] ∷ lines_of t) (onto_first b (lines_of t))) ≡ true → contains p (b ∷ t) ≡ true
      by more true h = or_map (begins p []) (list_any (contains p) (lines_of t)) (begins p (b ∷ t)) (contains p t) (begins-none p (b ∷ t)) more h
      by more false h = or_map (begins p (b ∷ first (lines_of t))) (list_any (contains p) (lines_of t)) (begins p (b ∷ t)) (contains p t)
          (begins-onto p (first (lines_of t)) t b (begins-first t)) more (in_onto b (lines_of t) h)

  in_front : (a : List ℕ) → contains p (a ++ []) ≡ true → contains p a ≡ true
  in_front a h = ap (contains p) (sym (append-nil a)) ∙ h

  -- ---- bodies

  module _ (free : list_any is_newline p ≡ false) where
    in_cut : (a rest : List ℕ) → contains p (a ++ newline ∷ rest) ≡ true → (contains p a || contains p rest) ≡ true
    in_cut [] rest h = or_map (begins p (newline ∷ rest)) (contains p rest) (begins p []) (contains p rest) (begins-line p [] rest free) (λ later. later) h
    in_cut (b ∷ a) rest h = or_nested_back (begins p (b ∷ a)) (contains p a) (contains p rest)
        (or_map (begins p (b ∷ (a ++ newline ∷ rest))) (contains p (a ++ newline ∷ rest)) (begins p (b ∷ a)) (contains p a || contains p rest)
        (begins-line p (b ∷ a) rest free) (in_cut a rest) h)

    in_body : (a : List ℕ) (lines : List (List ℕ)) → contains p (a ++ continued lines) ≡ true → (contains p a || list_any (contains p) lines) ≡ true
    in_body a [] h = or_left (contains p a) false (in_front a h)
    in_body a (line ∷ lines) h = by (in_body line lines) (continues (kind_of line)) h
      where
        by : (contains p (line ++ continued lines) ≡ true → list_any (contains p) (line ∷ lines) ≡ true) → (c : Bool)
            → contains p (a ++ cond c (newline ∷ (line ++ continued lines)) []) ≡ true → (contains p a || list_any (contains p) (line ∷ lines)) ≡ true
        by more true h = or_map (contains p a) (contains p (line ++ continued lines)) (contains p a) (list_any (contains p) (line ∷ lines))
            (λ here. here) more (in_cut a (line ++ continued lines) h)
        by more false h = or_left (contains p a) (list_any (contains p) (line ∷ lines)) (in_front a h)

    -- whether the pattern stands in the body of a field, and whether in a line
    abbrev InField : List ℕ → List FieldText → List (List ℕ) → Type 0
    InField name fields lines = option_map_or (contains p) (body_named name fields) false ≡ true → list_any (contains p) lines ≡ true

    module _ (name : List ℕ) (i : ℕ) (line : List ℕ) (lines : List (List ℕ)) (more : InField name (fields_from (suc i) lines) lines) where
      other : InField name (fields_from (suc i) lines) (line ∷ lines)
      other h = or_right (contains p line) (list_any (contains p) lines) (more h)

      named : (n : ℕ) (c : Bool) → option_map_or (contains p) (cond c (Some (value_of n line ++ continued lines)) (body_named name (fields_from (suc i) lines))) false ≡ true
          → list_any (contains p) (line ∷ lines) ≡ true
      named n true h = or_map (contains p (value_of n line)) (list_any (contains p) lines) (contains p line) (list_any (contains p) lines)
          (in_value n line) (λ later. later) (in_body (value_of n line) lines h)
      named n false h = other h

      after : (found : Option ℕ) → InField name (field_at i (kind_after_name line found) line lines ++ fields_from (suc i) lines) (line ∷ lines)
      after None = other
      after (Some n) = either_way (λ k. InField name (field_at i k line lines ++ fields_from (suc i) lines) (line ∷ lines))
          (n == 0 || not (slice_index line n == colon)) _ _
          other
          (either_way (λ k. InField name (field_at i k line lines ++ fields_from (suc i) lines) (line ∷ lines))
          (slice_index line 0 == hash || slice_index line 0 == hyphen) _ _
          other (named n (is_same_name (take n line) name)))

      of_line : InField name (field_at i (kind_of line) line lines ++ fields_from (suc i) lines) (line ∷ lines)
      of_line = either_way (λ k. InField name (field_at i k line lines ++ fields_from (suc i) lines) (line ∷ lines))
          (is_blank line) _ _
          other
          (either_way (λ k. InField name (field_at i k line lines ++ fields_from (suc i) lines) (line ∷ lines))
          (is_blank_byte (slice_index line 0)) _ _
          other (after (position (λ b. not (is_field_name_byte b)) line)))

    in_field : (name : List ℕ) (i : ℕ) (lines : List (List ℕ)) → InField name (fields_from i lines) lines
    in_field name i [] h = absurd (false≢true h)
    in_field name i (line ∷ lines) h = of_line name i line lines (in_field name (suc i) lines) h

-- ---- patterns in any case

-- a newline has no case
newline-lowered : (byte : ℕ) → is_newline (to_ascii_lowercase byte) ≡ is_newline byte
newline-lowered byte = grind (arith)

newlines-lowered : (text : List ℕ) → list_any is_newline (str_to_ascii_lowercase text) ≡ list_any is_newline text
newlines-lowered [] = refl
newlines-lowered (b ∷ bs) = λ i. newline-lowered b i || newlines-lowered bs i

-- what is a pattern but for the case of its letters has a newline where the pattern has one
newlines-same : (part pattern : List ℕ) → str_eq_ignore_ascii_case part pattern ≡ true → list_any is_newline part ≡ list_any is_newline pattern
newlines-same part pattern same =
    sym (newlines-lowered part) ∙ ap (list_any is_newline) ((bytes_eq-Decides (str_to_ascii_lowercase part) (str_to_ascii_lowercase pattern)).0 same)
    ∙ newlines-lowered pattern

module _ (pattern text : List ℕ) (free : list_any is_newline pattern ≡ false) where
  -- the part of a body that is the pattern but for case stands in the text
  in_any_case : (body : Option (List ℕ))
      → ((q : List ℕ) → list_any is_newline q ≡ false → option_map_or (contains q) body false ≡ true → contains q text ≡ true)
      → option_map_or (contains_in_any_case pattern) body false ≡ true → contains_in_any_case pattern text ≡ true
  in_any_case None stands h = absurd (false≢true h)
  in_any_case (Some body) stands h =
      let part = (any_case-iff pattern body).0 h in
      let here = (contains-iff part.middle body).1 (part.prefix, part.suffix, part.parts) in
      let there = (contains-iff part.middle text).0 (stands part.middle (newlines-same part.middle pattern part.same ∙ free) here) in
      (any_case-iff pattern text).1 (record { prefix = there.0; middle = part.middle; suffix = there.1; parts = there.2; same = part.same })

-- ---- fields

module _ (pattern : List ℕ) (stanza : Content) (free : list_any is_newline pattern ≡ false) where
  in_text : (any_case : Bool) (name : List ℕ) → field_passes (Substring any_case pattern) stanza name ≡ true → text_passes (Substring any_case pattern) stanza.text ≡ true
  in_text false name h = in_lines pattern stanza.text (in_field pattern free name 0 (lines_of stanza.text) h)
  in_text true name h = in_any_case pattern stanza.text free (body_of stanza name)
      (λ q none here. in_lines q stanza.text (in_field q none name 0 (lines_of stanza.text) here)) h

  in_no_field : (any_case : Bool) → text_passes (Substring any_case pattern) stanza.text ≡ false
      → (names : List (List ℕ)) → list_any (field_passes (Substring any_case pattern) stanza) names ≡ false
  in_no_field any_case none [] = refl
  in_no_field any_case none (name ∷ names) =
      or_from (field_passes (Substring any_case pattern) stanza name) (list_any (field_passes (Substring any_case pattern) stanza) names)
      (false_from_ne_true (field_passes (Substring any_case pattern) stanza name) (λ h. false≢true (sym none ∙ in_text any_case name h)))
      (in_no_field any_case none names)

-- a pattern that isn't found in the text passes in no field
pub nowhere : (any_case : Bool) (pattern : List ℕ) (searcher : Option Searcher) (stanza : Content)
    → Fits (held.Substring any_case pattern) searcher → not (list_any is_newline pattern) ≡ true → finds any_case (sought_by searcher) stanza.text ≡ false
    → (names : List (List ℕ)) → list_any (field_passes (Substring any_case pattern) stanza) names ≡ false
nowhere any_case pattern searcher stanza fits free none =
    in_no_field pattern stanza (without (list_any is_newline pattern) free) any_case
    (by any_case (ap (λ sought. finds any_case sought stanza.text) (sym fits) ∙ none))
  where
    without : (b : Bool) → not b ≡ true → b ≡ false
    without true h = sym h
    without false h = refl

    by : (c : Bool) → finds c (sought_of (held.Substring c pattern)) stanza.text ≡ false → text_passes (Substring c pattern) stanza.text ≡ false
    by true h = contains_lowered pattern stanza.text ∙ h
    by false h = h
