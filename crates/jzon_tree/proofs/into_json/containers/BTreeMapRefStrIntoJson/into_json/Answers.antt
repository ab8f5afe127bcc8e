use Rattle.jzon_base.proofs.Common.{ℕ, List, Bor, keys, slice_cmp, eq_by_cmp, nat_cmp, IsDistinct-from_sorted}
use Rattle.jzon_base.proofs.Common.{is_eq-slice_cmp}
use Rattle.jzon_tree.proofs.Values.PutPairs.{map_put}
use Rattle.jzon_tree.proofs.into_json.containers.BTreeMapRefStrIntoJson.into_json.Goals as goal

pub returns-clause-meant : goal.returns-clause-meant
returns-clause-meant g c = map_put (λ (key : Bor (List ℕ)). key.now)
    (eq_by_cmp (λ (x y : Bor (List ℕ)). slice_cmp nat_cmp x.now y.now)) (λ j k. is_eq-slice_cmp j.now k.now)
    g.T.IntoJson.means c.args.self.entries c.into_iter.result c.in_ok-from_pairs.field-0
    c.into_iter.ensures.into_iter_gives.0 (IsDistinct-from_sorted
    (λ (x y : Bor (List ℕ)). slice_cmp nat_cmp x.now y.now) (keys c.args.self) c.into_iter.ensures.into_iter_gives.5)
    c.in_ok-from_pairs.ensures.pairs
