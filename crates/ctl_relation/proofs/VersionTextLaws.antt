-- Each text has parts, and no others, and no test of it is one of memory.
use Rattle.std.proofs.Common.{◌≡◌, ◌≢◌, ℕ, zero, suc, ◌<◌, Bool, true, false, cond, List, [], ◌∷◌, ◌++◌, Option, Some, None, length, drop, refl, sym, ap, ◌∙◌, arith, eq-eqb, append_assoc}
use Rattle.std.specs.Prelude.{◌==◌, unwrap_or, not, ◌&&◌}
use Rattle.std.specs.Option.{option_map}
use Rattle.std.specs.List.{All, list_all, slice_index_or}
use Rattle.std.proofs.lemmas.List.{append-nil}
use Rattle.std.proofs.lemmas.Bool.Decides.{nat_tests}
use Rattle.ctl_relation.specs.declared.version_fault.VersionFault.{VersionFault}
use Rattle.ctl_relation.specs.declared.version_fault.VersionFault.TheVariants as fault
use Rattle.ctl_relation.specs.Bytes.{hyphen, colon}
use Rattle.ctl_relation.specs.Version.{parts_of, text_parts, body_parts, split_first, split_last, at_last, is_epoch, is_upstream_byte, is_revision_text, is_empty_revision, tests, first_failed}
use Rattle.ctl_relation.specs.VersionText.{AreParts, TextsHaveParts, PartsAreUnique, NoTestOfMemory, epoch_text, hyphen_text}
use Rattle.ctl_relation.proofs.CutLemmas.{unlike, first_none, last_none}

-- ---- a fact of each byte

all_more : (P : ℕ → Type 0) (b : ℕ) (text : List ℕ) → P b → All P text → All P (b ∷ text)
all_more P b text first others = go
  where
    go : (k d : ℕ) → k < length (b ∷ text) → P (slice_index_or (b ∷ text) k d)
    go zero d less = first
    go (suc k) d less = others k d (omega arith)

all_none : (P : ℕ → Type 0) → All P []
all_none P = λ k d less. absurd (omega arith)

other : (b c : ℕ) → (b == c) ≡ false → b ≢ c
other b c h = grind (arith, nat_tests)

same : (b c : ℕ) → (b == c) ≡ true → b ≡ c
same b c h = grind (arith, nat_tests)

-- ---- what a search for the first or the last c finds

abbrev pub first_sides : ℕ → List ℕ → Option (List ℕ × List ℕ) → Type 0
first_sides c text None = All (λ b. b ≢ c) text
first_sides c text (Some x) = (text ≡ x.0 ++ c ∷ x.1) × All (λ b. b ≢ c) x.0

abbrev last_sides : ℕ → List ℕ → Option (List ℕ × List ℕ) → Type 0
last_sides c text None = All (λ b. b ≢ c) text
last_sides c text (Some x) = (text ≡ x.0 ++ c ∷ x.1) × All (λ b. b ≢ c) x.1

abbrev in_front : ℕ → Option (List ℕ × List ℕ) → Option (List ℕ × List ℕ)
in_front b found = option_map (λ (x : List ℕ × List ℕ). (b ∷ x.0, x.1)) found

abbrev here : List ℕ → Option (List ℕ × List ℕ)
here text = Some ([], text)

first_more : (c b : ℕ) (text : List ℕ) (found : Option (List ℕ × List ℕ)) → b ≢ c → first_sides c text found → first_sides c (b ∷ text) (in_front b found)
first_more c b text None n h = all_more (λ b. b ≢ c) b text n h
first_more c b text (Some x) n h = (ap (λ (l : List ℕ). b ∷ l) h.0, all_more (λ b. b ≢ c) b x.0 n h.1)

pub split_first-sides : (c : ℕ) (text : List ℕ) → first_sides c text (split_first c text)
split_first-sides c [] = all_none (λ b. b ≢ c)
split_first-sides c (b ∷ text) = go (b == c) refl (split_first-sides c text)
  where
    go : (t : Bool) → (b == c) ≡ t → first_sides c text (split_first c text) → first_sides c (b ∷ text) (cond t (here text) (in_front b (split_first c text)))
    go true e h = (ap (λ n. n ∷ text) (same b c e), all_none (λ b. b ≢ c))
    go false e h = first_more c b text (split_first c text) (other b c e) h

last_more : (c b : ℕ) (text : List ℕ) (found : Option (List ℕ × List ℕ)) → last_sides c text found → last_sides c (b ∷ text) (at_last c b text found)
last_more c b text None h = go (b == c) refl
  where
    go : (t : Bool) → (b == c) ≡ t → last_sides c (b ∷ text) (cond t (here text) None)
    go true e = (ap (λ n. n ∷ text) (same b c e), h)
    go false e = all_more (λ b. b ≢ c) b text (other b c e) h
last_more c b text (Some x) h = (ap (λ (l : List ℕ). b ∷ l) h.0, h.1)

split_last-sides : (c : ℕ) (text : List ℕ) → last_sides c text (split_last c text)
split_last-sides c [] = all_none (λ b. b ≢ c)
split_last-sides c (b ∷ text) = last_more c b text (split_last c text) (split_last-sides c text)

split_first-found : (c : ℕ) (before after : List ℕ) → All (λ b. b ≢ c) before → split_first c (before ++ c ∷ after) ≡ Some (before, after)
split_first-found c [] after h = ap (λ t. cond t (here after) (in_front c (split_first c after))) (eq-eqb c c refl)
split_first-found c (b ∷ before) after h =
    ap (λ t. cond t (here (before ++ c ∷ after)) (in_front b (split_first c (before ++ c ∷ after)))) (unlike b c (h 0 b (omega arith)))
    ∙ ap (in_front b) (split_first-found c before after (λ k d less. h (suc k) d (omega arith)))

split_last-found : (c : ℕ) (before after : List ℕ) → All (λ b. b ≢ c) after → split_last c (before ++ c ∷ after) ≡ Some (before, after)
split_last-found c [] after h =
    ap (at_last c c after) (last_none c after (λ k less. h k 0 less))
    ∙ ap (λ t. cond t (here after) None) (eq-eqb c c refl)
split_last-found c (b ∷ before) after h = ap (at_last c b (before ++ c ∷ after)) (split_last-found c before after h)

-- ---- each text has parts

without_epoch : (text : List ℕ) (found : Option (List ℕ × List ℕ)) → All (λ b. b ≢ colon) text → last_sides hyphen text found → AreParts text (body_parts None text found)
without_epoch text None first last = record { whole = sym (append-nil text); first_colon = first; last_hyphen = last }
without_epoch text (Some x) first last = record { whole = last.0; first_colon = first; last_hyphen = last.1 }

with_epoch : (text digits body : List ℕ) (found : Option (List ℕ × List ℕ)) → text ≡ digits ++ colon ∷ body → All (λ b. b ≢ colon) digits → last_sides hyphen body found → AreParts text (body_parts (Some digits) body found)
with_epoch text digits body None whole first last = record {
  whole = whole ∙ sym (append_assoc digits (colon ∷ []) (body ++ []) ∙ ap (λ (l : List ℕ). digits ++ colon ∷ l) (append-nil body));
  first_colon = first;
  last_hyphen = last;
}
with_epoch text digits body (Some x) whole first last = record {
  whole = whole ∙ ap (λ (l : List ℕ). digits ++ colon ∷ l) last.0 ∙ sym (append_assoc digits (colon ∷ []) (x.0 ++ hyphen ∷ x.1));
  first_colon = first;
  last_hyphen = last.1;
}

text_parts-AreParts : (text : List ℕ) (found : Option (List ℕ × List ℕ)) → first_sides colon text found → AreParts text (text_parts text found)
text_parts-AreParts text None first = without_epoch text (split_last hyphen text) first (split_last-sides hyphen text)
text_parts-AreParts text (Some x) first = with_epoch text x.0 x.1 (split_last hyphen x.1) first.0 first.1 (split_last-sides hyphen x.1)

pub texts_have_parts : TextsHaveParts
texts_have_parts text = text_parts-AreParts text (split_first colon text) (split_first-sides colon text)

-- ---- and no others

body_parts-unique : (epoch : Option (List ℕ)) (upstream : List ℕ) (revision : Option (List ℕ)) → All (λ b. b ≢ hyphen) (unwrap_or revision upstream)
    → body_parts epoch (upstream ++ hyphen_text revision) (split_last hyphen (upstream ++ hyphen_text revision)) ≡ record { epoch = epoch; upstream = upstream; revision = revision }
body_parts-unique epoch upstream None last =
    ap (λ (body : List ℕ). body_parts epoch body (split_last hyphen body)) (append-nil upstream)
    ∙ ap (body_parts epoch upstream) (last_none hyphen upstream (λ k less. last k 0 less))
body_parts-unique epoch upstream (Some revision) last = ap (body_parts epoch (upstream ++ hyphen ∷ revision)) (split_last-found hyphen upstream revision last)

parts_of-unique : (text : List ℕ) (epoch : Option (List ℕ)) (upstream : List ℕ) (revision : Option (List ℕ)) → text ≡ epoch_text epoch ++ (upstream ++ hyphen_text revision)
    → All (λ b. b ≢ colon) (unwrap_or epoch text) → All (λ b. b ≢ hyphen) (unwrap_or revision upstream) → parts_of text ≡ record { epoch = epoch; upstream = upstream; revision = revision }
parts_of-unique text None upstream revision whole first last =
    ap (text_parts text) (first_none colon text (λ k less. first k 0 less))
    ∙ ap (λ (body : List ℕ). body_parts None body (split_last hyphen body)) whole
    ∙ body_parts-unique None upstream revision last
parts_of-unique text (Some digits) upstream revision whole first last =
    let body : List ℕ = upstream ++ hyphen_text revision in
    let regrouped : text ≡ digits ++ colon ∷ body = whole ∙ append_assoc digits (colon ∷ []) body in
    ap parts_of regrouped
    ∙ ap (text_parts (digits ++ colon ∷ body)) (split_first-found colon digits body first)
    ∙ body_parts-unique (Some digits) upstream revision last

pub parts_are_unique : PartsAreUnique
parts_are_unique text parts h = sym (parts_of-unique text parts.epoch parts.upstream parts.revision h.whole h.first_colon h.last_hyphen)

-- ---- no test of memory

abbrev pub fails : VersionFault → Option VersionFault
fails found = Some found

-- the first test that a text fails behind so many of them
abbrev pub behind_test : ℕ → List ℕ → Option VersionFault
behind_test n text = first_failed (drop n (tests text (parts_of text)))

-- a test that is not one of memory, and those behind it
later_test : (t : Bool) (found : VersionFault) (later : Option VersionFault) → found ≢ fault.Memory → cond t (fails found) later ≡ Some fault.Memory → later ≡ Some fault.Memory
later_test true found later n h = absurd (n cc)
later_test false found later n h = h

pub no_test_of_memory : NoTestOfMemory
no_test_of_memory text h =
    let parts = parts_of text in
    let at_epoch = later_test (length text == 0) fault.Empty (behind_test 1 text) (λ e. cc) h in
    let at_upstream = later_test (not (is_epoch parts.epoch)) fault.Epoch (behind_test 2 text) (λ e. cc) at_epoch in
    let at_character = later_test (length parts.upstream == 0) fault.Upstream (behind_test 3 text) (λ e. cc) at_upstream in
    let at_revision = later_test (not (list_all is_upstream_byte parts.upstream && is_revision_text parts.revision)) fault.Character (behind_test 4 text) (λ e. cc) at_character in
    let at_end = later_test (is_empty_revision parts.revision) fault.Revision None (λ e. cc) at_revision in
    cc
