use Rattle.jzon_base.proofs.Common.{arith, map, subst, into_iter_items, AllZip}
use Rattle.jzon_tree.specs.View.{view}
use Rattle.jzon_tree.proofs.Values.PointwiseRelations.{AllZip-push_map, one_more, nothing_left}
use Rattle.jzon_tree.proofs.Values.Views.{view-Array}
use Rattle.jzon_tree.proofs.into_json.containers.VecIntoJson.into_json.Goals as goal

pub loop-item-preserved : goal.loop-item-preserved
loop-item-preserved g c = (
  one_more c.args.self.items c.loop-item.yielded (into_iter_items c.loop-item.item-iterator) _ c.in-Some.item
      c.loop-item.invariant.0 c.in-Some.ensures.steps.0,
  AllZip-push_map g.T.IntoJson.means view c.loop-item.yielded c.loop-item.items.items c.push.new.self.items
      c.in-Some.item c.in_ok-into_json.field-0 c.loop-item.invariant.1 c.in_ok-into_json.ensures.meant
      c.in_ok-push.ensures.items,
)

pub returns-clause-meant : goal.returns-clause-meant
returns-clause-meant g c = (
  map view c.loop-item.items.items,
  view-Array c.loop-item.items,
  subst (λ xs. AllZip g.T.IntoJson.means xs (map view c.loop-item.items.items))
      (nothing_left c.args.self.items c.loop-item.yielded (into_iter_items c.loop-item.item-iterator)
      c.loop-item.invariant.0 (omega (arith, c.in-None.ensures.steps.0, c.loop-item.item-iterator.rest.ok)))
      c.loop-item.invariant.1,
)
