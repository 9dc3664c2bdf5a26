use Rattle.std.proofs.Common.{◌≡◌, ℕ, List, true, Some, Vec, Global, sym, ap, subst, ◌∙◌, rules}
use Rattle.std.specs.BTreeMap.{get, is_at}
use Rattle.std.specs.Cmp.Lexicographic.{slice_cmp, on_texts}
use Rattle.std.specs.List.{AllByRecursion}
use Rattle.std.specs.Map.{lookup}
use Rattle.std.specs.Ordering.{nat_cmp}
use Rattle.std.proofs.lemmas.List.Elements.{recursion_from_All}
use Rattle.std.proofs.lemmas.Map.Text.{is_eq-slice_cmp}
use Rattle.std.proofs.lemmas.Map.Views.{All-found}
use Rattle.std.proofs.lemmas.Slice.Eq.{bytes_eq-Decides}
use Rattle.ctl_store.specs.Store.{keyed_of}
use Rattle.ctl_policy.specs.Rows.{AreRowsOf}
use Rattle.ctl_index.specs.Inside.TablesByName.{named_own}
use Rattle.ctl_index.specs.Inside.TablesChosen.{chosen_anew}
use Rattle.ctl_index.specs.declared.named.Named.{Named}
use Rattle.ctl_index.proofs.WrittenLemmas.{Long}
use Rattle.ctl_index.proofs.RetainLemmas.{map_same_keyed, lookup_keyed, folds_same, in_middle}
use Rattle.ctl_index.proofs.choosing.choose_long.Goals as goal

same_name : (q : List ℕ) (k : Vec ℕ Global) → is_at (λ (v : Vec ℕ Global). slice_cmp nat_cmp q v.items) k ≡ true → k.items ≡ q
same_name q k t = sym ((bytes_eq-Decides q k.items).0 (sym (is_eq-slice_cmp q k.items) ∙ t))

pub returns : goal.returns
returns c = λ q.
    let h = c.args.store.now in
    let list = c.args.list in
    let kept = map_same_keyed _ (λ (k : Vec ℕ Global) v. chosen_anew h list k.items v) _ (λ k v b w f' t. search rules) _ _ c.retain.ensures.filtered in
    ap (lookup (is_at (λ (k : Vec ℕ Global). slice_cmp nat_cmp q k.items))) kept
    ∙ lookup_keyed (is_at (λ (k : Vec ℕ Global). slice_cmp nat_cmp q k.items)) (λ (k : Vec ℕ Global) v. chosen_anew h list k.items v) (chosen_anew h list q) (λ k v t. ap (λ (n : List ℕ). chosen_anew h list n v) (same_name q k t)) c.args.names.now.entries

abbrev is_found : Long → Vec ℕ Global × Named → Type 0
is_found m e = get (λ (x y : Vec ℕ Global). slice_cmp nat_cmp x.items y.items) m e.0 ≡ Some e.1

pub retain-requires : goal.retain-requires
retain-requires c = record {
  at = λ before after f' k v is folds.
      let lists = (keyed_of c.args.store.now).lists in
      let same = folds_same _ _ before f' folds (λ f k v b w f' t. search rules) in
      let m = c.args.names.now in
      let all = recursion_from_All (is_found m) m.entries (All-found (on_texts (λ (key : Vec ℕ Global). key.items)) m c.len-len.ensures.ordered) in
      let found = in_middle (is_found m) before after (k, v) (subst (λ es. AllByRecursion (is_found m) es) is all) in
      rw same (λ key value here there.
      let rows : AreRowsOf (named_own value.now).rows key.now.items lists =
      subst (λ (x : Named). AreRowsOf (named_own x).rows key.now.items lists) (sym there) (subst (λ (n : Vec ℕ Global). AreRowsOf (named_own v).rows n.items lists) (sym here) (c.requires k.items v found)) in
      search rules);
}
