use Rattle.std.proofs.Common.{◌≡◌, ℕ, List, true, Some, sym, ap, subst, ◌∙◌, rules}
use Rattle.std.specs.BTreeMap.{get, is_at}
use Rattle.std.specs.Cmp.Lexicographic.{slice_cmp, nat_list_cmp_total}
use Rattle.std.specs.List.{AllByRecursion}
use Rattle.std.specs.Map.{lookup}
use Rattle.std.specs.Ordering.{nat_cmp}
use Rattle.std.proofs.lemmas.List.Elements.{recursion_from_All}
use Rattle.std.proofs.lemmas.Map.Text.{is_eq-slice_cmp}
use Rattle.std.proofs.lemmas.Map.Views.{All-found}
use Rattle.std.proofs.lemmas.Slice.Eq.{bytes_eq-Decides}
use Rattle.ctl_store.specs.Store.{keyed_of}
use Rattle.ctl_policy.specs.Rows.{AreRowsOf}
use Rattle.ctl_index.specs.Inside.TablesByName.{named_own}
use Rattle.ctl_index.specs.Inside.TablesChosen.{chosen_anew}
use Rattle.ctl_index.specs.declared.named.Named.{Named}
use Rattle.ctl_index.proofs.RetainLemmas.{map_same_keyed, lookup_keyed, folds_same, in_middle}
use Rattle.ctl_index.proofs.choosing.choose_short.Goals as goal

same_name : (q k : List ℕ) → is_at (slice_cmp nat_cmp q) k ≡ true → k ≡ q
same_name q k t = sym ((bytes_eq-Decides q k).0 (sym (is_eq-slice_cmp q k) ∙ t))

pub returns : goal.returns
returns c = λ q.
    let h = c.args.store.now in
    let list = c.args.list in
    let kept = map_same_keyed _ (λ k v. chosen_anew h list k v) _ (λ k v b w f' t. search rules) _ _ c.retain.ensures.filtered in
    ap (lookup (is_at (slice_cmp nat_cmp q))) kept
    ∙ lookup_keyed (is_at (slice_cmp nat_cmp q)) (chosen_anew h list) (chosen_anew h list q) (λ k v t. ap (λ (n : List ℕ). chosen_anew h list n v) (same_name q k t)) c.args.names.now.entries

pub retain-requires : goal.retain-requires
retain-requires c = record {
  at = λ before after f' k v is folds.
      let lists = (keyed_of c.args.store.now).lists in
      let same = folds_same _ _ before f' folds (λ f k v b w f' t. search rules) in
      let m = c.args.names.now in
      let all = recursion_from_All (λ e. get (slice_cmp nat_cmp) m e.0 ≡ Some e.1) m.entries (All-found nat_list_cmp_total m c.len-len.ensures.ordered) in
      let found = in_middle (λ (e : List ℕ × Named). get (slice_cmp nat_cmp) m e.0 ≡ Some e.1) before after (k, v) (subst (λ es. AllByRecursion (λ (e : List ℕ × Named). get (slice_cmp nat_cmp) m e.0 ≡ Some e.1) es) is all) in
      rw same (λ key value here there.
      let rows : AreRowsOf (named_own value.now).rows key.now lists =
      subst (λ (x : Named). AreRowsOf (named_own x).rows key.now lists) (sym there) (subst (λ (n : List ℕ). AreRowsOf (named_own v).rows n lists) (sym here) (c.requires k v found)) in
      search rules);
}
