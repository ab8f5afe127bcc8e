use Rattle.jzon_base.proofs.Common.{rules, ◌++◌, ◌∷◌, [], map, subst, AllZip}
use Rattle.std.proofs.Common.{take_all}
use Rattle.jzon_tree.specs.View.{view}
use Rattle.jzon_tree.proofs.Values.PointwiseRelations.{AllZip-push_map, AllZip-take_next}
use Rattle.jzon_tree.proofs.Values.Views.{view-Array}
use Rattle.jzon_tree.proofs.into_json.containers.RefSliceIntoJson.into_json.Goals as goal

pub loop-item-preserved : goal.loop-item-preserved
loop-item-preserved g c =
    let (ys, clones, each) = c.loop-item.invariant in
    let y = c.in_ok-clone.field-0 in (
      ys ++ y ∷ [],
      AllZip-take_next g.T.Clone.is_clone c.args.self.now c.loop-item.item-index ys c.item-item.result y (search rules)
          (search rules) clones c.in_ok-clone.ensures.cases,
      AllZip-push_map g.T.IntoJson.means view ys c.loop-item.items.items c.push.new.self.items y
          c.in_ok-into_json.field-0 each c.in_ok-into_json.ensures.meant c.in_ok-push.ensures.items,
    )

pub returns-clause-meant : goal.returns-clause-meant
returns-clause-meant g c =
    let (ys, clones, each) = c.loop-item.invariant in (
      ys,
      subst (λ xs. AllZip g.T.Clone.is_clone xs ys) (take_all c.loop-item.item-index c.args.self.now (search rules))
          clones,
      (map view c.loop-item.items.items, view-Array c.loop-item.items, each),
    )
