-- The stanzas that are read keep the lines that aren't blank.
use Rattle.std.proofs.Common.{◌≡◌, ◌⊎◌, ◌∙◌, ◌++◌, ◌+◌, ℕ, suc, not, true, List, [], ◌∷◌, length, flat_map, Option, Some, None, Result, Ok, Err, refl, sym, ap, append_assoc, inl, inr}
use Rattle.std.proofs.lemmas.List.Elements.{filter-append}
use Rattle.std.proofs.lemmas.Bool.{cond-true, cond-false}
use Rattle.ctl_stanza.specs.declared.list_kind.ListKind.{ListKind}
use Rattle.ctl_stanza.specs.declared.fault.TextFault.{TextFault}
use Rattle.ctl_stanza.specs.Lines.{text_of_lines, is_blank, lines_of}
use Rattle.ctl_stanza.specs.Content.{Content}
use Rattle.ctl_stanza.specs.Text.{Piece, piece, piece_content, piece_fault, read_pieces, with_contents, or_fault}
use Rattle.ctl_stanza.specs.Laws.{other_lines, KeepsLines}
use Rattle.ctl_stanza.proofs.PieceLemmas.{AreOther, StartsGap}
use Rattle.ctl_stanza.proofs.ByPieces.{by_pieces}

abbrev pub Read : Type 0
Read = Result (List Content) TextFault

pub option_either : {A : Type 0} (o : Option A) → (o ≡ None) ⊎ ((x : A) × (o ≡ Some x))
option_either None = inl refl
option_either (Some x) = inr (x, refl)

-- a first piece without a fault, and the others that are read
pub record ReadsFirst (front : List Content) (rest : Read) (contents : List Content) : Type 0 where
  pub others : List Content
  pub read : rest ≡ Ok others
  pub joined : contents ≡ front ++ others

pub reads_first : (fault : Option TextFault) (front contents : List Content) (rest : Read) → or_fault fault (with_contents front rest) ≡ Ok contents → ReadsFirst front rest contents
reads_first None front contents (Ok others) e = record { others = others; read = refl; joined = cc }
reads_first None front contents (Err f) e = absurd (cc)
reads_first (Some f) front contents rest e = absurd (cc)

pub text_of_lines-append : (xs ys : List (List ℕ)) → text_of_lines (xs ++ ys) ≡ text_of_lines xs ++ text_of_lines ys
text_of_lines-append [] ys = refl
text_of_lines-append (x ∷ xs) ys = ap (λ t. x ++ 10 ∷ t) (text_of_lines-append xs ys) ∙ sym (append_assoc x (10 ∷ text_of_lines xs) (text_of_lines ys))

other_lines-all : (ls : List (List ℕ)) → AreOther ls → other_lines ls ≡ ls
other_lines-all [] others = refl
other_lines-all (l ∷ ls) others = cond-true _ _ _ (ap not others.0) ∙ ap (λ t. l ∷ t) (other_lines-all ls others.1)

abbrev text_in : List Content → List ℕ
text_in contents = flat_map (λ content. content.text) contents

abbrev Keeps : ListKind → ℕ → List (List ℕ) → List Piece → Type 0
Keeps kind n ls ps = (contents : List Content) → read_pieces kind ps ≡ Ok contents → text_in contents ≡ text_of_lines (other_lines ls)

keeps_nil : (kind : ListKind) (n : ℕ) → Keeps kind n [] []
keeps_nil kind n contents e = let same : [] ≡ contents = cc in ap text_in (sym same)

keeps_gap : (kind : ListKind) (n : ℕ) (l : List ℕ) (ls : List (List ℕ)) (ps : List Piece) → is_blank l ≡ true → Keeps kind (suc n) ls ps → Keeps kind n (l ∷ ls) (piece n (l ∷ []) ∷ ps)
keeps_gap kind n l ls ps blank rest contents e =
    let first = reads_first (piece_fault kind (piece n (l ∷ []))) (piece_content kind (l ∷ [])) contents (read_pieces kind ps) e in
    ap text_in (first.joined ∙ ap (λ t. t ++ first.others) (cond-true _ _ _ blank)) ∙ rest first.others first.read
    ∙ ap text_of_lines (sym (cond-false _ _ _ (ap not blank)))

keeps_run : (kind : ListKind) (n : ℕ) (l : List ℕ) (ls rest : List (List ℕ)) (ps : List Piece) → AreOther (l ∷ ls) → StartsGap rest → Keeps kind (n + length (l ∷ ls)) rest ps
    → Keeps kind n (l ∷ (ls ++ rest)) (piece n (l ∷ ls) ∷ ps)
keeps_run kind n l ls rest ps others gap more contents e =
    let first = reads_first (piece_fault kind (piece n (l ∷ ls))) (piece_content kind (l ∷ ls)) contents (read_pieces kind ps) e in
    ap text_in (first.joined ∙ ap (λ t. t ++ first.others) (cond-false _ _ _ others.0))
    ∙ ap (λ t. text_of_lines (l ∷ ls) ++ t) (more first.others first.read)
    ∙ sym (text_of_lines-append (l ∷ ls) (other_lines rest))
    ∙ ap (λ t. text_of_lines (t ++ other_lines rest)) (sym (other_lines-all (l ∷ ls) others))
    ∙ ap text_of_lines (sym (filter-append (λ line. not (is_blank line)) (l ∷ ls) rest))

pub keeps_lines : (kind : ListKind) (n : ℕ) (text : List ℕ) → KeepsLines kind n text
keeps_lines kind n text = by_pieces (Keeps kind) (keeps_nil kind) (keeps_gap kind) (keeps_run kind) n (lines_of text)
