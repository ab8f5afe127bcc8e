use Rattle.jzon_base.proofs.Common.{◌≡◌, [], ◌∷◌, ◌++◌, ◌∙◌, ap, arith, length, length_push, subst, sym, zip}
use Rattle.jzon_tree.specs.IntoJson.{PairsMean}
use Rattle.jzon_tree.specs.View.{view, viewed}
use Rattle.jzon_tree.proofs.Values.PointwiseRelations.{AllZip-push}
use Rattle.jzon_tree.proofs.Values.PutPairs.{viewed-push, viewed-put_each}
use Rattle.jzon_tree.proofs.object.Object.from_pairs.Goals as goal

pub loop-key-preserved : goal.loop-key-preserved
loop-key-preserved g c =
    let m = c.loop-key.invariant in
    let ks = c.loop-key.keys.items in
    let vs = c.loop-key.values.items in
    let key = c.in_ok-key.key in
    let value = c.in_ok-into_json.field-0 in
    let pushed : viewed (zip c.push.new.self.items c.push-in-loop-key.new.self.items) ≡ viewed (zip ks vs) ++ (key, view value) ∷ [] =
    (λ i. viewed (zip (c.in_ok-push.ensures.items i) (c.in_ok-push-2.ensures.items i)))
    ∙ viewed-push ks vs key value m.even in
    record {
      even = omega (
        arith,
        m.even,
        ap length c.in_ok-push.ensures.items,
        ap length c.in_ok-push-2.ensures.items,
        length_push ks key,
        length_push vs value,
      );
      meant = subst (PairsMean g.K.AsStr.text g.V.IntoJson.means
          (c.loop-key.yielded ++ (c.in-Some.key, c.in-Some.value) ∷ [])) (sym pushed)
          (AllZip-push _ c.loop-key.yielded (viewed (zip ks vs)) (c.in-Some.key, c.in-Some.value) (key, view value) m.meant
          (c.in_ok-key.ensures.bytes ∙ c.as_str.ensures, c.in_ok-into_json.ensures.meant));
      put = viewed-put_each (zip c.push.new.self.items c.push-in-loop-key.new.self.items);
    }
