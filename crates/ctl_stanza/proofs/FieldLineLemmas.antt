-- Field lines, and how they are taken apart.
use Rattle.std.proofs.Common.{◌≡◌, ◌≢◌, ◌∙◌, ◌+◌, ◌<◌, ◌≤◌, ◌==◌, ◌&&◌, ◌||◌, not, ℕ, suc, Bool, true, false, List, [], ◌∷◌, ◌++◌, length, take, drop, get_or, nat_le, position, Option, Some, None, cond, refl, sym, ap, arith, ⊎_elim}
use Rattle.std.proofs.Math.Dec.{eqb-suc-zero}
use Rattle.std.proofs.lemmas.Bool.{cases_Bool, cond-true, cond-false, eqb-true, eqb-false, ne_eqb, leb-true, lt-ltb}
use Rattle.std.specs.Char.{is_ascii_graphic}
use Rattle.std.proofs.lemmas.List.{append-nil, get_or-take, drop_more, length-append, length-take-le, take-append-drop}
use Rattle.std.proofs.lemmas.List.Quantifiers.{position-Some}
use Rattle.std.proofs.Math.Seq.{take-append_seam, drop-append-add}
use Rattle.std.specs.List.{list_all, prefix_len}
use Rattle.ctl_relation.specs.Bytes.{colon, hash, hyphen, space, tab}
use Rattle.ctl_stanza.specs.declared.line_kind.LineKind.{LineKind}
use Rattle.ctl_stanza.specs.declared.line_kind.LineKind.TheVariants.{Blank, Field, Continuation, Faulty}
use Rattle.ctl_stanza.specs.Lines.{is_blank_byte, is_blank}
use Rattle.ctl_stanza.specs.LineKind.{is_field_name_byte, kind_after_name, kind_of}
use Rattle.ctl_stanza.specs.Fields.{strip_front, strip_end, before_stripped, value_of}
use Rattle.ctl_stanza.specs.FieldLines.{IsFieldName, IsValue, AreBlanks, FieldLinesAreTaken, FieldLinesAreKnown}

-- ---- tests that are joined

and-first : (a b : Bool) → (a && b) ≡ true → (a ≡ true) × (b ≡ true)
and-first true b e = (refl, e)
and-first false b e = absurd cc

or-no : (a b : Bool) → (a || b) ≡ false → (a ≡ false) × (b ≡ false)
or-no true b e = absurd cc
or-no false b e = (refl, e)

not-yes : (a : Bool) → not a ≡ false → a ≡ true
not-yes true e = refl
not-yes false e = absurd cc

not-no : (a : Bool) → not a ≡ true → a ≡ false
not-no true e = absurd cc
not-no false e = refl

or-neither : (a b : Bool) → a ≡ false → b ≡ false → (a || b) ≡ false
or-neither true b e h = absurd cc
or-neither false b e h = h

other-number : (a b : ℕ) → (a == b) ≡ false → a ≢ b
other-number a b differs e = eqb-false a b differs e

-- ---- blanks at the front

strip_front-blank : (b : ℕ) (text : List ℕ) → is_blank_byte b ≡ true → strip_front (b ∷ text) ≡ strip_front text
strip_front-blank b text blank =
    let one : 1 + prefix_len is_blank_byte text ≡ suc (prefix_len is_blank_byte text) = omega arith in
    ap (λ k. drop k (b ∷ text)) (cond-true _ _ _ blank ∙ one)

strip_front-other : (b : ℕ) (text : List ℕ) → is_blank_byte b ≡ false → strip_front (b ∷ text) ≡ b ∷ text
strip_front-other b text other = ap (λ k. drop k (b ∷ text)) (cond-false _ _ _ other)

strip_front-blanks : (before text : List ℕ) → AreBlanks before → strip_front (before ++ text) ≡ strip_front text
strip_front-blanks [] text blanks = refl
strip_front-blanks (b ∷ before) text blanks =
    let both = and-first (is_blank_byte b) (list_all is_blank_byte before) blanks in
    strip_front-blank b (before ++ text) both.0 ∙ strip_front-blanks before text both.1

strip_front-all : (text : List ℕ) → AreBlanks text → strip_front text ≡ []
strip_front-all text blanks = ap strip_front (sym (append-nil text)) ∙ strip_front-blanks text [] blanks

-- a text is blanks, and what is left without them
record FrontSplit (text : List ℕ) : Type 0 where
  pub before : List ℕ
  pub blanks : AreBlanks before
  pub joined : text ≡ before ++ strip_front text
  pub begins : (b : ℕ) (rest : List ℕ) → strip_front text ≡ b ∷ rest → is_blank_byte b ≡ false

front-split : (text : List ℕ) → FrontSplit text
front-split [] = record { before = []; blanks = refl; joined = refl; begins = λ b rest e. absurd (cc) }
front-split (b ∷ text) = ⊎_elim
    (λ (blank : is_blank_byte b ≡ true).
    let more = front-split text in
    let is = strip_front-blank b text blank in
    let found : FrontSplit (b ∷ text) = record {
      before = b ∷ more.before;
      blanks = ap (λ t. t && list_all is_blank_byte more.before) blank ∙ more.blanks;
      joined = ap (λ t. b ∷ t) more.joined ∙ ap (λ t. b ∷ (more.before ++ t)) (sym is);
      begins = λ c rest e. more.begins c rest (sym is ∙ e);
    } in found)
    (λ (other : is_blank_byte b ≡ false).
    let is = strip_front-other b text other in
    let found : FrontSplit (b ∷ text) = record {
      before = [];
      blanks = refl;
      joined = sym is;
      begins = λ c rest e. let same : b ∷ text ≡ c ∷ rest = sym is ∙ e in let first : b ≡ c = cc in ap is_blank_byte (sym first) ∙ other;
    } in found)
    (cases_Bool (is_blank_byte b))

-- ---- blanks at the end

strip_end-blanks : (text : List ℕ) → AreBlanks text → strip_end text ≡ []
strip_end-blanks [] blanks = refl
strip_end-blanks (b ∷ text) blanks =
    let both = and-first (is_blank_byte b) (list_all is_blank_byte text) blanks in
    ap (before_stripped b) (strip_end-blanks text both.1) ∙ cond-true _ _ _ both.0

strip_end-append : (text behind : List ℕ) → AreBlanks behind → strip_end (text ++ behind) ≡ strip_end text
strip_end-append [] behind blanks = strip_end-blanks behind blanks
strip_end-append (b ∷ text) behind blanks = ap (before_stripped b) (strip_end-append text behind blanks)

strip_end-value : (value : List ℕ) → ((rest : List ℕ) (b : ℕ) → value ≡ rest ++ b ∷ [] → is_blank_byte b ≡ false) → strip_end value ≡ value
strip_end-value [] ends = refl
strip_end-value (b ∷ []) ends = cond-false _ _ _ (ends [] b refl)
strip_end-value (b ∷ c ∷ value) ends =
    ap (before_stripped b) (strip_end-value (c ∷ value) (λ rest x e. ends (b ∷ rest) x (ap (λ t. b ∷ t) e)))

-- a text is what is left without the blanks behind it, and those
record EndSplit (text : List ℕ) : Type 0 where
  pub behind : List ℕ
  pub blanks : AreBlanks behind
  pub joined : text ≡ strip_end text ++ behind
  pub ends : (rest : List ℕ) (b : ℕ) → strip_end text ≡ rest ++ b ∷ [] → is_blank_byte b ≡ false

no-last : (rest : List ℕ) (b : ℕ) → [] ≡ rest ++ b ∷ [] → ⊥
no-last [] b e = cc
no-last (c ∷ rest) b e = cc

end-next : (b : ℕ) (text left : List ℕ) → strip_end text ≡ left → EndSplit text → EndSplit (b ∷ text)
end-next b text [] is more =
    let all : text ≡ more.behind = more.joined ∙ ap (λ t. t ++ more.behind) is in
    ⊎_elim
    (λ (blank : is_blank_byte b ≡ true).
    let none : strip_end (b ∷ text) ≡ [] = ap (before_stripped b) is ∙ cond-true _ _ _ blank in
    let found : EndSplit (b ∷ text) = record {
      behind = b ∷ more.behind;
      blanks = ap (λ t. t && list_all is_blank_byte more.behind) blank ∙ more.blanks;
      joined = ap (λ t. b ∷ t) all ∙ ap (λ t. t ++ b ∷ more.behind) (sym none);
      ends = λ rest c e. absurd (no-last rest c (sym none ∙ e));
    } in found)
    (λ (other : is_blank_byte b ≡ false).
    let one : strip_end (b ∷ text) ≡ b ∷ [] = ap (before_stripped b) is ∙ cond-false _ _ _ other in
    let found : EndSplit (b ∷ text) = record {
      behind = more.behind;
      blanks = more.blanks;
      joined = ap (λ t. b ∷ t) all ∙ ap (λ t. t ++ more.behind) (sym one);
      ends = λ rest c e. last-of-one b rest c (sym one ∙ e) other;
    } in found)
    (cases_Bool (is_blank_byte b))
  where
    last-of-one : (b : ℕ) (rest : List ℕ) (c : ℕ) → b ∷ [] ≡ rest ++ c ∷ [] → is_blank_byte b ≡ false → is_blank_byte c ≡ false
    last-of-one b [] c e other = let same : b ≡ c = cc in ap is_blank_byte (sym same) ∙ other
    last-of-one b (d ∷ rest) c e other = let more : [] ≡ rest ++ c ∷ [] = cc in absurd (no-last rest c more)
end-next b text (c ∷ left) is more =
    let whole : strip_end (b ∷ text) ≡ b ∷ c ∷ left = ap (before_stripped b) is in
    record {
      behind = more.behind;
      blanks = more.blanks;
      joined = ap (λ t. b ∷ t) (more.joined ∙ ap (λ t. t ++ more.behind) is) ∙ ap (λ t. t ++ more.behind) (sym whole);
      ends = λ rest d e. last-of-more rest d (sym whole ∙ e);
    }
  where
    last-of-more : (rest : List ℕ) (d : ℕ) → b ∷ c ∷ left ≡ rest ++ d ∷ [] → is_blank_byte d ≡ false
    last-of-more [] d e = absurd (cc)
    last-of-more (x ∷ rest) d e = let inner : c ∷ left ≡ rest ++ d ∷ [] = cc in more.ends rest d (is ∙ inner)

end-split : (text : List ℕ) → EndSplit text
end-split [] = record { behind = []; blanks = refl; joined = refl; ends = λ rest b e. absurd (no-last rest b e) }
end-split (b ∷ text) = end-next b text (strip_end text) refl (end-split text)

-- ---- what is taken for a field line is one

pub record FieldFound (line : List ℕ) (n : ℕ) : Type 0 where
  pub place : position (λ b. not (is_field_name_byte b)) line ≡ Some n
  pub some : (n == 0) ≡ false
  pub colon_at : (get_or line n 0 == colon) ≡ true
  pub no_hash : (get_or line 0 0 == hash) ≡ false
  pub no_hyphen : (get_or line 0 0 == hyphen) ≡ false

abbrev kind_with : Bool → Bool → LineKind → LineKind
kind_with blank begins other = cond blank Blank (cond begins Continuation other)

kind-inside : (blank begins : Bool) (other : LineKind) (n : ℕ) → kind_with blank begins other ≡ Field n → other ≡ Field n
kind-inside true begins other n e = absurd cc
kind-inside false true other n e = absurd cc
kind-inside false false other n e = e

abbrev kind_tests : Bool → Bool → ℕ → LineKind
kind_tests short bad m = cond short Faulty (cond bad Faulty (Field m))

tests-inside : (short bad : Bool) (m n : ℕ) → kind_tests short bad m ≡ Field n → (short ≡ false) × (bad ≡ false) × (m ≡ n)
tests-inside true bad m n e = absurd cc
tests-inside false true m n e = absurd cc
tests-inside false false m n e = (refl, refl, cc)

pub field-found : (line : List ℕ) (n : ℕ) → kind_of line ≡ Field n → FieldFound line n
field-found line n e =
    by (position (λ b. not (is_field_name_byte b)) line) refl
    (kind-inside (is_blank line) (is_blank_byte (get_or line 0 0)) (kind_after_name line (position (λ b. not (is_field_name_byte b)) line)) n e)
  where
    by : (o : Option ℕ) → position (λ b. not (is_field_name_byte b)) line ≡ o → kind_after_name line (position (λ b. not (is_field_name_byte b)) line) ≡ Field n → FieldFound line n
    by None is found = let clash : kind_after_name line None ≡ Field n = ap (kind_after_name line) (sym is) ∙ found in absurd cc
    by (Some m) is found =
        let tests : kind_after_name line (Some m) ≡ Field n = ap (kind_after_name line) (sym is) ∙ found in
        let inside = tests-inside (m == 0 || not (get_or line m 0 == colon)) (get_or line 0 0 == hash || get_or line 0 0 == hyphen) m n tests in
        let short = or-no (m == 0) (not (get_or line m 0 == colon)) inside.0 in
        let bad = or-no (get_or line 0 0 == hash) (get_or line 0 0 == hyphen) inside.1 in
        let same : m ≡ n = inside.2 in
        record {
          place = is ∙ ap Some same;
          some = ap (λ k. k == 0) (sym same) ∙ short.0;
          colon_at = ap (λ k. get_or line k 0 == colon) (sym same) ∙ not-yes (get_or line m 0 == colon) short.1;
          no_hash = bad.0;
          no_hyphen = bad.1;
        }

-- bytes that pass one by one pass together
all-at : (text : List ℕ) → ((k : ℕ) → k < length text → is_field_name_byte (get_or text k 0) ≡ true) → list_all is_field_name_byte text ≡ true
all-at [] each = refl
all-at (b ∷ text) each =
    ap (λ t. t && list_all is_field_name_byte text) (each 0 (omega arith)) ∙ all-at text (λ k lt. each (suc k) (omega arith))

pub taken : FieldLinesAreTaken
taken line n e =
    let found = field-found line n e in
    let at = position-Some (λ b. not (is_field_name_byte b)) line n 0 found.place in
    let short : n < length line = at.0 in
    let size : length (take n line) ≡ n = length-take-le n line (omega (arith, short)) in
    let other : n ≢ 0 = other-number n 0 found.some in
    let some : 0 < n = omega (arith, other) in
    let cut = front-split (drop (n + 1) line) in
    let left = strip_front (drop (n + 1) line) in
    let end = end-split left in
    let here : get_or line n 0 ≡ colon = eqb-true (get_or line n 0) colon found.colon_at in
    record {
      before = cut.before;
      behind = end.behind;
      is_name = record {
        some = omega (arith, size, some);
        bytes = all-at (take n line) (λ k lt.
            ap is_field_name_byte (get_or-take n line k 0 (omega (arith, lt, size))) ∙ not-yes (is_field_name_byte (get_or line k 0)) (at.2 k (omega (arith, lt, size))));
        begins = λ b rest is.
            let first : get_or line 0 0 ≡ b = sym (get_or-take n line 0 0 some) ∙ ap (λ t. get_or t 0 0) is in (
              other-number b hash (ap (λ x. x == hash) (sym first) ∙ found.no_hash),
              other-number b hyphen (ap (λ x. x == hyphen) (sym first) ∙ found.no_hyphen),
            );
      };
      blanks_before = cut.blanks;
      is_value = record {
        begins = λ b rest is. cut.begins b (rest ++ end.behind) (end.joined ∙ ap (λ t. t ++ end.behind) is);
        ends = end.ends;
      };
      blanks_behind = end.blanks;
      joined = sym (take-append-drop n line) ∙ ap (λ t. take n line ++ t) (drop_more line n 0 short)
          ∙ ap (λ b. take n line ++ b ∷ drop (n + 1) line) here
          ∙ ap (λ t. take n line ++ colon ∷ t) (cut.joined ∙ ap (λ t. cut.before ++ t) end.joined);
    }

-- ---- a field line is taken for one

-- no byte of names is a blank or a colon
name-byte : (b : ℕ) → is_field_name_byte b ≡ true → (is_blank_byte b ≡ false) × ((b == colon) ≡ false)
name-byte b e =
    let both = and-first (is_ascii_graphic b) (not (b == colon)) e in
    let range = and-first (nat_le 33 b) (nat_le b 126) both.0 in
    let from : 33 ≤ b = leb-true 33 b range.0 in
    let no_space : b ≢ space = λ is. omega (arith, from, is) in
    let no_tab : b ≢ tab = λ is. omega (arith, from, is) in
    (or-neither (b == space) (b == tab) (ne_eqb b space no_space) (ne_eqb b tab no_tab), not-no (b == colon) both.1)

len-name : (name rest : List ℕ) → list_all is_field_name_byte name ≡ true → prefix_len (λ b. not (not (is_field_name_byte b))) (name ++ colon ∷ rest) ≡ length name
len-name [] rest all = refl
len-name (b ∷ name) rest all =
    let both = and-first (is_field_name_byte b) (list_all is_field_name_byte name) all in
    let size : 1 + length name ≡ suc (length name) = omega arith in
    cond-true _ _ _ (ap (λ t. not (not t)) both.0) ∙ ap (λ k. 1 + k) (len-name name rest both.1) ∙ size

place-name : (name rest : List ℕ) → list_all is_field_name_byte name ≡ true → position (λ b. not (is_field_name_byte b)) (name ++ colon ∷ rest) ≡ Some (length name)
place-name name rest all =
    let k = len-name name rest all in
    let lt : prefix_len (λ b. not (not (is_field_name_byte b))) (name ++ colon ∷ rest) < length (name ++ colon ∷ rest) = omega (arith, k, length-append name (colon ∷ rest)) in
    cond-true _ _ _ (lt-ltb _ _ lt) ∙ ap Some k

at-colon : (name rest : List ℕ) → get_or (name ++ colon ∷ rest) (length name) 0 ≡ colon
at-colon [] rest = refl
at-colon (b ∷ name) rest = at-colon name rest

behind-colon : (name rest : List ℕ) → drop (length name + 1) (name ++ colon ∷ rest) ≡ rest
behind-colon name rest = drop-append-add name (colon ∷ rest) 1

take-name : (name rest : List ℕ) → take (length name) (name ++ rest) ≡ name
take-name name rest = take-append_seam name rest

value-taken : (before value behind : List ℕ) → AreBlanks before → IsValue value → AreBlanks behind → strip_end (strip_front (before ++ (value ++ behind))) ≡ value
value-taken before [] behind blanks is blanks_behind =
    ap strip_end (strip_front-blanks before behind blanks ∙ strip_front-all behind blanks_behind)
value-taken before (b ∷ value) behind blanks is blanks_behind =
    ap strip_end (strip_front-blanks before (b ∷ (value ++ behind)) blanks ∙ strip_front-other b (value ++ behind) (is.begins b value refl))
    ∙ strip_end-append (b ∷ value) behind blanks_behind ∙ strip_end-value (b ∷ value) is.ends

kind-known : (name rest : List ℕ) → IsFieldName name → kind_of (name ++ colon ∷ rest) ≡ Field (length name)
kind-known [] rest is = absurd (omega (arith, is.some))
kind-known (b ∷ name) rest is =
    let line = b ∷ (name ++ colon ∷ rest) in
    let first = and-first (is_field_name_byte b) (list_all is_field_name_byte name) is.bytes in
    let other = (name-byte b first.0).0 in
    let begins = is.begins b name refl in
    let long : (length (b ∷ name) == 0) ≡ false = eqb-suc-zero (length name) in
    let short : (length (b ∷ name) == 0 || not (get_or line (length (b ∷ name)) 0 == colon)) ≡ false =
    ap (λ t. t || not (get_or line (length (b ∷ name)) 0 == colon)) long ∙ ap (λ x. not (x == colon)) (at-colon (b ∷ name) rest) in
    let no_hash : (b == hash) ≡ false = ne_eqb b hash begins.0 in
    let no_hyphen : (b == hyphen) ≡ false = ne_eqb b hyphen begins.1 in
    let bad : (b == hash || b == hyphen) ≡ false = ap (λ t. t || b == hyphen) no_hash ∙ no_hyphen in
    let other_line : is_blank line ≡ false = ap (λ t. t && list_all is_blank_byte (name ++ colon ∷ rest)) other in
    cond-false _ _ _ other_line ∙ cond-false _ _ _ other
    ∙ ap (kind_after_name line) (place-name (b ∷ name) rest is.bytes) ∙ cond-false _ _ _ short ∙ cond-false _ _ _ bad

pub known : FieldLinesAreKnown
known line name value is =
    let rest = is.before ++ (value ++ is.behind) in
    record {
      kind = ap kind_of is.joined ∙ kind-known name rest is.is_name;
      name_is = ap (take (length name)) is.joined ∙ take-name name (colon ∷ rest);
      value_is = ap (value_of (length name)) is.joined ∙ ap (λ t. strip_end (strip_front t)) (behind-colon name rest)
          ∙ value-taken is.before value is.behind is.blanks_before is.is_value is.blanks_behind;
    }
