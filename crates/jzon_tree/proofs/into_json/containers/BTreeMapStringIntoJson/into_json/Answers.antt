use Rattle.jzon_base.proofs.Common.{string_bytes, keys, eq_by_cmp, IsDistinct-from_sorted, is_eq-slice_cmp}
use Rattle.std.specs.String.{string_cmp}
use Rattle.jzon_tree.proofs.Values.PutPairs.{map_put}
use Rattle.jzon_tree.proofs.into_json.containers.BTreeMapStringIntoJson.into_json.Goals as goal

pub returns-clause-meant : goal.returns-clause-meant
returns-clause-meant g c = map_put string_bytes (eq_by_cmp string_cmp)
    (λ j k. is_eq-slice_cmp (string_bytes j) (string_bytes k)) g.T.IntoJson.means c.args.self.entries c.into_iter.result
    c.in_ok-from_pairs.field-0 c.into_iter.ensures.into_iter_gives.0
    (IsDistinct-from_sorted string_cmp (keys c.args.self) c.into_iter.ensures.into_iter_gives.5)
    c.in_ok-from_pairs.ensures.pairs
