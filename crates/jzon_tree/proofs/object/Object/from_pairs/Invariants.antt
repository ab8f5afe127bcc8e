use Rattle.jzon_base.proofs.Common.{◌≡◌, length, zip}
use Rattle.jzon_base.specs.PairList.{put_each}
use Rattle.jzon_tree.specs.IntoJson.{PairsMean}
use Rattle.jzon_tree.specs.View.{viewed}
use Rattle.jzon_tree.proofs.object.Object.from_pairs.Given as goal

abbrev pub invariant-loop-key : goal.invariant-loop-key
invariant-loop-key g l = record {
  even : length l.values.items ≡ length l.keys.items;
  meant : PairsMean g.K.AsStr.text g.V.IntoJson.means l.yielded (viewed (zip l.keys.items l.values.items));
  put : viewed (put_each (zip l.keys.items l.values.items)) ≡ put_each (viewed (zip l.keys.items l.values.items));
}
