-- Stanzas stay of their lists' kinds.
use Rattle.std.proofs.Common.{◌≡◌, cond, ◌∙◌, ℕ, Bool, true, false, List, [], ◌∷◌, ◌++◌, Option, None, Some, Result, Ok, Err, refl, ap, sym, subst, arith, ◌+◌, ◌-◌, ◌^◌, ◌≤◌, length}
use Rattle.std.specs.Option.{option_map_or}
use Rattle.ctl_stanza.specs.declared.list_kind.ListKind.{ListKind}
use Rattle.ctl_stanza.specs.Content.{Content, content_of}
use Rattle.ctl_store.specs.Named.{at_name, without_name, change_named}
use Rattle.ctl_store.specs.State.{StanzaList, State, stanza_count, count_of_kind, status_count}
use Rattle.ctl_store.specs.Edits.{Edit, AddList, DropList, Put, Remove}
use Rattle.ctl_stanza.specs.declared.fault.TextFault.{TextFault}
use Rattle.ctl_stanza.specs.Text.{Piece, piece_fault, piece_content, with_contents, or_fault, read_pieces, is_gap}
use Rattle.ctl_store.specs.declared.limits.Limits.{Limits}
use Rattle.ctl_store.specs.Step.{after, is_same_kind, new_list, put_stanza, refusal_of, remove_stanza, takes_kind, with_stanzas, BringsItsKind}
use Rattle.ctl_store.specs.Kinds.{AreOfKind, KeepKinds}
use Rattle.ctl_store.proofs.AcceptLemmas.{put_takes, count-push, count-without, count-change, status_count-push, status_count-without, status_count-change}
use Rattle.ctl_store.specs.declared.list_class.ListClass.{ListClass}
use Rattle.ctl_store.specs.Slots.{Rises, slots_from}
use Rattle.ctl_store.specs.Keys.{KeyedList, stanza_list, stanza_lists, list_of_stanzas}
use Rattle.ctl_ordered.specs.Ordered.{OrderedEntries as Ordered, entries, next_put, without_serials}
use Rattle.std.specs.Map.{lookup}
use Rattle.indexmap.specs.IndexMap.{insert_entry}
use Rattle.ctl_store.specs.Store.{HeldList, lists_of}
use Rattle.ctl_store.specs.Inside.Sound.{InOrder, AreNumbered, IsSound}
use Rattle.ctl_store.proofs.PlaceLemmas.{Rises-slots_from, all_append, all_set, all_removed}
use Rattle.ctl_store.proofs.ListedLemmas.{InOrder-weaken, in_order_push, in_order_without, in_order_change, Changes, new_lists, without_lists, change_lists}

put_kind : (kind : ListKind) (x : Content) (xs : List Content) → x.kind ≡ kind → AreOfKind kind xs → AreOfKind kind (put_stanza x xs)
put_kind kind x xs e h = grind (arith, all_append, all_set)

removed_kind : (kind : ListKind) (name : List ℕ) (version : Option (List ℕ)) (xs : List Content) → AreOfKind kind xs → AreOfKind kind (remove_stanza name version xs)
removed_kind kind name version xs h = grind (arith, all_removed)

pub without_kinds : (name : List ℕ) (ls : List (List ℕ × StanzaList)) → KeepKinds ls → KeepKinds (without_name name ls)
without_kinds name [] h = h
without_kinds name (l ∷ ls) h = grind (arith, without_kinds name ls h.1)

-- a list that is changed keeps its kind, where the change does
abbrev pub Keeps : (StanzaList → StanzaList) → Option StanzaList → Type 0
Keeps f o = (l : StanzaList) → o ≡ Some l → AreOfKind l.kind l.stanzas → AreOfKind (f l).kind (f l).stanzas

pub change_kinds : (name : List ℕ) (f : StanzaList → StanzaList) (ls : List (List ℕ × StanzaList)) → Keeps f (at_name name ls) → KeepKinds ls → KeepKinds (change_named name f ls)
change_kinds name f [] g h = h
change_kinds name f (l ∷ ls) g h = grind (arith, change_kinds name f ls)

-- ---- an accepted edit

same_kind : (a b : ListKind) → is_same_kind a b ≡ true → a ≡ b
same_kind a b e = grind arith

takes_same : (kind : ListKind) (name : List ℕ) (ls : List (List ℕ × StanzaList)) → takes_kind kind name ls ≡ true → (l : StanzaList) → at_name name ls ≡ Some l → kind ≡ l.kind
takes_same kind name ls t l at = same_kind kind l.kind (sym (ap (λ o. option_map_or (λ (l : StanzaList). is_same_kind kind l.kind) o false) at) ∙ t)

pub put_keeps : (limits : Limits) (s : State) (list : List ℕ) (x : Content) → refusal_of limits s (Put list x) ≡ None → Keeps (with_stanzas (put_stanza x)) (at_name list s.lists)
put_keeps limits s list x e = λ l at h. put_kind l.kind x l.stanzas (takes_same x.kind list s.lists (put_takes limits s list x e) l at) h

pub remove_keeps : (name : List ℕ) (version : Option (List ℕ)) (o : Option StanzaList) → Keeps (with_stanzas (remove_stanza name version)) o
remove_keeps name version o = λ l at h. removed_kind l.kind name version l.stanzas h

-- ---- the stanzas of a text

piece_kind : (kind : ListKind) (lines : List (List ℕ)) → AreOfKind kind (piece_content kind lines)
piece_kind kind lines = by (is_gap lines)
  where
    by : (b : Bool) → AreOfKind kind (cond b [] (content_of kind lines ∷ []))
    by true = tt
    by false = (refl, tt)

pub pieces_kind : (kind : ListKind) (pieces : List Piece) (xs : List Content) → read_pieces kind pieces ≡ Ok xs → AreOfKind kind xs
pieces_kind kind [] xs e = subst (AreOfKind kind) (let same : [] ≡ xs = cc e in same) tt
pieces_kind kind (first ∷ others) xs e = by (piece_fault kind first) (read_pieces kind others) (pieces_kind kind others) e
  where
    by : (fault : Option TextFault) (read : Result (List Content) TextFault) → ((ys : List Content) → read ≡ Ok ys → AreOfKind kind ys)
        → or_fault fault (with_contents (piece_content kind first.lines) read) ≡ Ok xs → AreOfKind kind xs
    by None (Ok ys) each e = subst (AreOfKind kind) (let same : piece_content kind first.lines ++ ys ≡ xs = cc e in same) (all_append (λ (x : Content). x.kind ≡ kind) (piece_content kind first.lines) ys (piece_kind kind first.lines) (each ys refl))
    by None (Err why) each e = cc
    by (Some why) read each e = cc

pub kinds_stay : (s : State) (edit : Edit) → KeepKinds s.lists → BringsItsKind s edit → KeepKinds (after s edit).lists
kinds_stay s (AddList name kind class stanzas) h b =
    all_append (λ (l : List ℕ × StanzaList). AreOfKind l.1.kind l.1.stanzas) s.lists ((name, new_list kind class stanzas) ∷ []) h (b, tt)
kinds_stay s (DropList name) h b = without_kinds name s.lists h
kinds_stay s (Put list x) h b = grind (arith, change_kinds, put_kind)
kinds_stay s (Remove list name version) h b =
    change_kinds list (with_stanzas (remove_stanza name (Some version))) s.lists (λ l i k. removed_kind l.kind name (Some version) l.stanzas k) h
kinds_stay s edit h b = h

-- ---- what every store keeps, after an edit

-- a key that is set takes one serial at most
pub next_most : {K V : Type 0} (old : Option V) (held : Ordered K V) → next_put old held ≤ held.next + 1
next_most None held = omega arith
next_most (Some v) held = omega arith

inserted : {K X : Type 0} (eq : K → K → Bool) (k : K) (v : X) (es : List (K × X)) → length (insert_entry eq es k v) ≡ option_map_or (λ old. length es) (lookup (eq k) es) (length es + 1)
inserted eq k v [] = refl
inserted eq k v (e ∷ es) = grind (arith, inserted eq k v es)

next_is : {K X : Type 0} (old : Option X) (held : Ordered K X) (many count : ℕ) → many ≡ option_map_or (λ old. count) old (count + 1) → held.next ≡ count → next_put old held ≡ many
next_is None held many count m e = omega (arith, m, e)
next_is (Some x) held many count m e = omega (arith, m, e)

-- where none has gone, there are as many serials as entries
pub put_fresh : {K X : Type 0} (eq : K → K → Bool) (k : K) (v : X) (held : Ordered K X) → held.next ≡ length (entries held) → next_put (lookup (eq k) (entries held)) held ≡ length (insert_entry eq (entries held) k v)
put_fresh eq k v held e = next_is (lookup (eq k) (entries held)) held (length (insert_entry eq (entries held) k v)) (length (entries held)) (inserted eq k v (entries held)) e

module _ {slots : List (ℕ × (List ℕ × HeldList))} {given next statuses stanzas edits : ℕ} {limits : Limits} {marks pins : ℕ} (sound : IsSound slots given next statuses stanzas edits limits marks pins) where
  abbrev lists : List (List ℕ × HeldList)
  lists = without_serials slots

  one_more : (ls : List (List ℕ × KeyedList)) (n : ℕ) → InOrder 0 ls n ((limits.stanzas + edits) + 1) → InOrder 0 ls n (limits.stanzas + (edits + 1))
  one_more ls n h = InOrder-weaken 0 0 ls n ((limits.stanzas + edits) + 1) (limits.stanzas + (edits + 1)) (omega arith) (omega arith) h

  -- an edit of other parts
  pub sound_more : (next_mark next_pin : ℕ) → next_mark ≤ edits + 1 → next_pin ≤ 2 ^ 63 + (edits + 1) → IsSound slots given next statuses stanzas (edits + 1) limits next_mark next_pin
  sound_more next_mark next_pin few_marks few_pins = record {
    numbered = sound.numbered;
    next_is = sound.next_is;
    order = InOrder-weaken 0 0 (lists_of lists) next (limits.stanzas + edits) (limits.stanzas + (edits + 1)) (omega arith) (omega arith) sound.order;
    few = omega (arith, sound.few);
    few_marks = few_marks;
    few_pins = few_pins;
    statuses_counted = sound.statuses_counted;
    counted = sound.counted;
    kinds = sound.kinds;
    within = sound.within;
    stanzas_bounded = sound.stanzas_bounded;
    edits_bounded = sound.edits_bounded;
  }

  pub sound_add : (new : List (ℕ × (List ℕ × HeldList))) (name : List ℕ) (kind : ListKind) (class : ListClass) (xs : List Content) → AreOfKind kind xs → AreNumbered new
      → lists_of (without_serials new) ≡ lists_of lists ++ (name, list_of_stanzas next kind class xs) ∷ []
      → stanzas + length xs ≤ limits.stanzas → IsSound new (given + 1) (next + 1) (statuses + count_of_kind kind) (stanzas + length xs) (edits + 1) limits marks pins
  sound_add new name kind class xs each numbered e within = record {
    numbered = numbered;
    next_is = omega (arith, sound.next_is);
    order = subst (λ ls. InOrder 0 ls (next + 1) (limits.stanzas + (edits + 1))) (sym e) (one_more (lists_of lists ++ (name, list_of_stanzas next kind class xs) ∷ []) (next + 1) (in_order_push 0 (lists_of lists) next (limits.stanzas + edits) name (list_of_stanzas next kind class xs) refl (omega arith) (subst (λ m. Rises 0 (slots_from 0 xs) m) (let z : 0 + length xs ≡ length xs = omega arith in z) (Rises-slots_from 0 xs)) sound.order));
    few = omega (arith, sound.few);
    few_marks = omega (arith, sound.few_marks);
    few_pins = omega (arith, sound.few_pins);
    statuses_counted = sym (ap (λ ls. status_count (stanza_lists ls)) e ∙ ap status_count (new_lists (lists_of lists) name next kind class xs) ∙ status_count-push (stanza_lists (lists_of lists)) name (record { kind = kind; class = class; stanzas = xs }) ∙ ap (λ n. n + count_of_kind kind) (sym sound.statuses_counted));
    counted = sym (ap (λ ls. stanza_count (stanza_lists ls)) e ∙ ap stanza_count (new_lists (lists_of lists) name next kind class xs) ∙ count-push (stanza_lists (lists_of lists)) name (record { kind = kind; class = class; stanzas = xs }) ∙ ap (λ n. n + length xs) (sym sound.counted));
    kinds = subst KeepKinds (sym (ap stanza_lists e ∙ new_lists (lists_of lists) name next kind class xs)) (all_append (λ (l : List ℕ × StanzaList). AreOfKind l.1.kind l.1.stanzas) (stanza_lists (lists_of lists)) ((name, record { kind = kind; class = class; stanzas = xs }) ∷ []) sound.kinds (each, tt));
    within = within;
    stanzas_bounded = sound.stanzas_bounded;
    edits_bounded = sound.edits_bounded;
  }

  pub sound_drop : (new : List (ℕ × (List ℕ × HeldList))) (name : List ℕ) (l : StanzaList) → AreNumbered new → lists_of (without_serials new) ≡ without_name name (lists_of lists)
      → at_name name (stanza_lists (lists_of lists)) ≡ Some l → IsSound new given next (statuses - count_of_kind l.kind) (stanzas - length l.stanzas) (edits + 1) limits marks pins
  sound_drop new name l numbered e at = record {
    numbered = numbered;
    next_is = sound.next_is;
    order = subst (λ ls. InOrder 0 ls next (limits.stanzas + (edits + 1))) (sym e) (one_more (without_name name (lists_of lists)) next (in_order_without 0 (lists_of lists) next (limits.stanzas + edits) name sound.order));
    few = omega (arith, sound.few);
    few_marks = omega (arith, sound.few_marks);
    few_pins = omega (arith, sound.few_pins);
    statuses_counted = omega (arith, sound.statuses_counted, status_count-without name (stanza_lists (lists_of lists)) l at, ap (λ ls. status_count (stanza_lists ls)) e, ap status_count (without_lists name (lists_of lists)));
    counted = omega (arith, sound.counted, count-without name (stanza_lists (lists_of lists)) l at, ap (λ ls. stanza_count (stanza_lists ls)) e, ap stanza_count (without_lists name (lists_of lists)));
    kinds = subst KeepKinds (sym (ap stanza_lists e ∙ without_lists name (lists_of lists))) (without_kinds name (stanza_lists (lists_of lists)) sound.kinds);
    within = omega (arith, sound.within);
    stanzas_bounded = sound.stanzas_bounded;
    edits_bounded = sound.edits_bounded;
  }

  pub sound_change : (new : List (ℕ × (List ℕ × HeldList))) (name : List ℕ) (l : StanzaList) (f : KeyedList → KeyedList) (h : StanzaList → StanzaList) (after : ℕ) → Changes f → ((k : StanzaList) → (h k).kind ≡ k.kind) → ((k : KeyedList) → stanza_list (f k) ≡ h (stanza_list k)) → Keeps h (at_name name (stanza_lists (lists_of lists)))
      → AreNumbered new → lists_of (without_serials new) ≡ change_named name f (lists_of lists) → at_name name (stanza_lists (lists_of lists)) ≡ Some l → after + length l.stanzas ≡ stanzas + length (h l).stanzas → after ≤ limits.stanzas → IsSound new given next statuses after (edits + 1) limits marks pins
  sound_change new name l f h after changes kinds same keeps numbered e at count within = record {
    numbered = numbered;
    next_is = sound.next_is;
    order = subst (λ ls. InOrder 0 ls next (limits.stanzas + (edits + 1))) (sym e) (one_more (change_named name f (lists_of lists)) next (in_order_change 0 (lists_of lists) next (limits.stanzas + edits) name f changes sound.order));
    few = omega (arith, sound.few);
    few_marks = omega (arith, sound.few_marks);
    few_pins = omega (arith, sound.few_pins);
    statuses_counted = sound.statuses_counted ∙ sym (ap (λ ls. status_count (stanza_lists ls)) e ∙ ap status_count (change_lists name f h same (lists_of lists)) ∙ status_count-change name h (stanza_lists (lists_of lists)) kinds);
    counted = omega (arith, sound.counted, count, count-change name h (stanza_lists (lists_of lists)) l at, ap (λ ls. stanza_count (stanza_lists ls)) e, ap stanza_count (change_lists name f h same (lists_of lists)));
    kinds = subst KeepKinds (sym (ap stanza_lists e ∙ change_lists name f h same (lists_of lists))) (change_kinds name h (stanza_lists (lists_of lists)) keeps sound.kinds);
    within = within;
    stanzas_bounded = sound.stanzas_bounded;
    edits_bounded = sound.edits_bounded;
  }
