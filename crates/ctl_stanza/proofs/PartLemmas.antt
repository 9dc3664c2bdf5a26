-- A text that is cut behind an empty line.
use Rattle.std.proofs.Common.{◌≡◌, ◌∙◌, ◌+◌, ◌<◌, ◌==◌, ℕ, suc, true, false, List, [], ◌∷◌, ◌++◌, length, Option, Some, None, Result, Ok, Err, refl, sym, ap, arith, append_assoc, length-append, ⊎_elim}
use Rattle.std.proofs.lemmas.Bool.{cond-true, cond-false, cases_Bool}
use Rattle.ctl_stanza.specs.declared.list_kind.ListKind.{ListKind}
use Rattle.ctl_stanza.specs.declared.fault.TextFault.{TextFault}
use Rattle.ctl_stanza.specs.Lines.{lines_of, onto_first, is_blank}
use Rattle.ctl_stanza.specs.Content.{Content}
use Rattle.ctl_stanza.specs.Text.{Piece, piece, pieces_of, onto_piece, join_piece, read_pieces, read_text, with_contents, or_fault, piece_fault, piece_content}
use Rattle.ctl_stanza.specs.InParts.{joined, ReadsInParts}

-- ---- lines

onto-some : (b : ℕ) (ls : List (List ℕ)) → 0 < length (onto_first b ls)
onto-some b [] = omega arith
onto-some b (l ∷ ls) = omega arith

onto-front : (b : ℕ) (ls more : List (List ℕ)) → 0 < length ls → onto_first b (ls ++ more) ≡ onto_first b ls ++ more
onto-front b [] more some = absurd (omega (arith, some))
onto-front b (l ∷ ls) more some = refl

some-line : (b : ℕ) (text : List ℕ) → 0 < length (lines_of (b ∷ text))
some-line b text = ⊎_elim
    (λ (is : (b == 10) ≡ true). let e : lines_of (b ∷ text) ≡ [] ∷ lines_of text = cond-true _ _ _ is in rw e (omega arith))
    (λ (other : (b == 10) ≡ false). let e : lines_of (b ∷ text) ≡ onto_first b (lines_of text) = cond-false _ _ _ other in rw e (onto-some b (lines_of text)))
    (cases_Bool (b == 10))

pub some-lines : (text more : List ℕ) (b : ℕ) → 0 < length (lines_of (text ++ b ∷ more))
some-lines [] more b = some-line b more
some-lines (c ∷ text) more b = some-line c (text ++ b ∷ more)

lines-cut : (front behind : List ℕ) → lines_of (front ++ 10 ∷ behind) ≡ lines_of (front ++ 10 ∷ []) ++ lines_of behind
lines-cut [] behind = refl
lines-cut (b ∷ front) behind = ⊎_elim
    (λ (is : (b == 10) ≡ true). cond-true _ _ _ is ∙ ap (λ t. [] ∷ t) (lines-cut front behind) ∙ ap (λ t. t ++ lines_of behind) (sym (cond-true _ _ _ is)))
    (λ (other : (b == 10) ≡ false).
    cond-false _ _ _ other ∙ ap (onto_first b) (lines-cut front behind) ∙ onto-front b (lines_of (front ++ 10 ∷ [])) (lines_of behind) (some-lines front [] 10)
    ∙ ap (λ t. t ++ lines_of behind) (sym (cond-false _ _ _ other)))
    (cases_Bool (b == 10))

-- ---- pieces

onto-piece-some : (n : ℕ) (line : List ℕ) (ps : List Piece) → 0 < length (onto_piece n line ps)
onto-piece-some n line [] = omega arith
onto-piece-some n line (p ∷ ps) = omega arith

join-some : (n : ℕ) (line : List ℕ) (ls : List (List ℕ)) (ps : List Piece) → 0 < length (join_piece n line ls ps)
join-some n line [] ps = omega arith
join-some n line (l ∷ ls) ps = ⊎_elim
    (λ (is : is_blank l ≡ true). let e : join_piece n line (l ∷ ls) ps ≡ piece n (line ∷ []) ∷ ps = cond-true _ _ _ is in rw e (omega arith))
    (λ (other : is_blank l ≡ false). let e : join_piece n line (l ∷ ls) ps ≡ onto_piece n line ps = cond-false _ _ _ other in rw e (onto-piece-some n line ps))
    (cases_Bool (is_blank l))

some-pieces : (n : ℕ) (line : List ℕ) (ls : List (List ℕ)) → 0 < length (pieces_of n (line ∷ ls))
some-pieces n line ls = ⊎_elim
    (λ (is : is_blank line ≡ true). let e : pieces_of n (line ∷ ls) ≡ piece n (line ∷ []) ∷ pieces_of (suc n) ls = cond-true _ _ _ is in rw e (omega arith))
    (λ (other : is_blank line ≡ false). let e : pieces_of n (line ∷ ls) ≡ join_piece n line ls (pieces_of (suc n) ls) = cond-false _ _ _ other in rw e (join-some n line ls (pieces_of (suc n) ls)))
    (cases_Bool (is_blank line))

onto-piece-front : (n : ℕ) (line : List ℕ) (ps more : List Piece) → 0 < length ps → onto_piece n line (ps ++ more) ≡ onto_piece n line ps ++ more
onto-piece-front n line [] more some = absurd (omega (arith, some))
onto-piece-front n line (p ∷ ps) more some = refl

join-cut : (n : ℕ) (line gap : List ℕ) (xs ys : List (List ℕ)) (ps more : List Piece) → is_blank gap ≡ true → 0 < length ps
    → join_piece n line (xs ++ gap ∷ ys) (ps ++ more) ≡ join_piece n line (xs ++ gap ∷ []) ps ++ more
join-cut n line gap [] ys ps more blank some = cond-true _ _ _ blank ∙ ap (λ t. t ++ more) (sym (cond-true _ _ _ blank))
join-cut n line gap (x ∷ xs) ys ps more blank some = ⊎_elim
    (λ (is : is_blank x ≡ true). cond-true _ _ _ is ∙ ap (λ t. t ++ more) (sym (cond-true _ _ _ is)))
    (λ (other : is_blank x ≡ false). cond-false _ _ _ other ∙ onto-piece-front n line ps more some ∙ ap (λ t. t ++ more) (sym (cond-false _ _ _ other)))
    (cases_Bool (is_blank x))

some-before : (n : ℕ) (xs ys : List (List ℕ)) (gap : List ℕ) → 0 < length (pieces_of n (xs ++ gap ∷ ys))
some-before n [] ys gap = some-pieces n gap ys
some-before n (x ∷ xs) ys gap = some-pieces n x (xs ++ gap ∷ ys)

pieces-cut : (n m : ℕ) (xs ys : List (List ℕ)) (gap : List ℕ) → is_blank gap ≡ true → m ≡ n + length xs + 1
    → pieces_of n (xs ++ gap ∷ ys) ≡ pieces_of n (xs ++ gap ∷ []) ++ pieces_of m ys
pieces-cut n m [] ys gap blank e =
    let next : suc n ≡ m = omega (arith, e) in
    cond-true _ _ _ blank ∙ ap (λ k. piece n (gap ∷ []) ∷ pieces_of k ys) next ∙ ap (λ t. t ++ pieces_of m ys) (sym (cond-true _ _ _ blank))
pieces-cut n m (x ∷ xs) ys gap blank e =
    let rest = pieces-cut (suc n) m xs ys gap blank (omega (arith, e)) in
    ⊎_elim
    (λ (is : is_blank x ≡ true). cond-true _ _ _ is ∙ ap (λ t. piece n (x ∷ []) ∷ t) rest ∙ ap (λ t. t ++ pieces_of m ys) (sym (cond-true _ _ _ is)))
    (λ (other : is_blank x ≡ false).
    cond-false _ _ _ other ∙ ap (join_piece n x (xs ++ gap ∷ ys)) rest
    ∙ join-cut n x gap xs ys (pieces_of (suc n) (xs ++ gap ∷ [])) (pieces_of m ys) blank (some-before (suc n) xs [] gap)
    ∙ ap (λ t. t ++ pieces_of m ys) (sym (cond-false _ _ _ other)))
    (cases_Bool (is_blank x))

-- ---- reading

with-joined : (front : List Content) (a b : Result (List Content) TextFault) → with_contents front (joined a b) ≡ joined (with_contents front a) b
with-joined front (Ok xs) (Ok ys) = ap Ok (sym (append_assoc front xs ys))
with-joined front (Ok xs) (Err f) = refl
with-joined front (Err f) b = refl

or-joined : (o : Option TextFault) (a b : Result (List Content) TextFault) → or_fault o (joined a b) ≡ joined (or_fault o a) b
or-joined None a b = refl
or-joined (Some f) a b = refl

with-none : (r : Result (List Content) TextFault) → r ≡ with_contents [] r
with-none (Ok xs) = refl
with-none (Err f) = refl

read-cut : (kind : ListKind) (ps qs : List Piece) → read_pieces kind (ps ++ qs) ≡ joined (read_pieces kind ps) (read_pieces kind qs)
read-cut kind [] qs = with-none (read_pieces kind qs)
read-cut kind (p ∷ ps) qs =
    ap (λ r. or_fault (piece_fault kind p) (with_contents (piece_content kind p.lines) r)) (read-cut kind ps qs)
    ∙ ap (or_fault (piece_fault kind p)) (with-joined (piece_content kind p.lines) (read_pieces kind ps) (read_pieces kind qs))
    ∙ or-joined (piece_fault kind p) (with_contents (piece_content kind p.lines) (read_pieces kind ps)) (read_pieces kind qs)

pub in_parts : ReadsInParts
in_parts kind n front behind =
    let first = lines_of (front ++ 10 ∷ []) in
    let whole : lines_of (front ++ 10 ∷ 10 ∷ behind) ≡ first ++ [] ∷ lines_of behind = lines-cut front (10 ∷ behind) in
    let part : lines_of (front ++ 10 ∷ 10 ∷ []) ≡ first ++ [] ∷ [] = lines-cut front (10 ∷ []) in
    let size : n + length (lines_of (front ++ 10 ∷ 10 ∷ [])) ≡ n + length first + 1 = omega (arith, ap length part, length-append first ([] ∷ [])) in
    ap (λ ls. read_pieces kind (pieces_of n ls)) whole
    ∙ ap (read_pieces kind) (pieces-cut n (n + length (lines_of (front ++ 10 ∷ 10 ∷ []))) first (lines_of behind) [] refl size)
    ∙ read-cut kind (pieces_of n (first ++ [] ∷ [])) (pieces_of (n + length (lines_of (front ++ 10 ∷ 10 ∷ []))) (lines_of behind))
    ∙ ap (λ ls. joined (read_pieces kind (pieces_of n ls)) (read_text kind (n + length (lines_of (front ++ 10 ∷ 10 ∷ []))) behind)) (sym part)
