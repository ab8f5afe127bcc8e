use Rattle.jzon_base.proofs.Common.{refl, string_bytes, IsPermutation-refl}
use Rattle.std.specs.String.{string_eq}
use Rattle.jzon_tree.proofs.Values.PutPairs.{map_put}
use Rattle.jzon_tree.proofs.into_json.containers.HashMapStringIntoJson.into_json.Goals as goal

pub returns-clause-meant : goal.returns-clause-meant
returns-clause-meant g c = (
  c.args.self.entries,
  IsPermutation-refl c.args.self.entries,
  map_put string_bytes string_eq (λ j k. refl) g.T.IntoJson.means c.args.self.entries c.into_iter.result
      c.in_ok-from_pairs.field-0 c.into_iter.ensures.into_iter_gives.0 c.into_iter.ensures.into_iter_gives.4
      c.in_ok-from_pairs.ensures.pairs,
)
