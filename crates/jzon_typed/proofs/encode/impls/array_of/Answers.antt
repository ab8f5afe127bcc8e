use Rattle.std.proofs.Common.{map, take, ◌+◌, ◌++◌, ◌∷◌, [], sym, ap, ◌∙◌, subst, arith}
use Rattle.std.proofs.lemmas.List.{take_more, take_all, map-append}
use Rattle.std.proofs.lemmas.Slice.Zip.{all_zipped_more}
use Rattle.std.specs.List.{AllZip}
use Rattle.jzon.specs.View.{view}
use Rattle.jzon.proofs.ValueLaws.{view-Array}
use Rattle.jzon_typed.proofs.encode.impls.array_of.Goals as goal

pub loop-source-preserved : goal.loop-source-preserved
loop-source-preserved g c =
    let R = g.T.ToJson.shows in
    let xs = c.args.list.now in
    let i = c.loop-source.source-index in
    let ys = c.loop-source.items.items in
    let v = c.in_ok-to_json.field-0 in
    subst (λ l. AllZip R (take (i + 1) xs) l) (sym (ap (map view) c.in_ok-push.ensures.items ∙ map-append view ys (v ∷ [])))
    (subst (λ l. AllZip R l (map view ys ++ view v ∷ []))
    (ap (λ x. take i xs ++ x ∷ []) c.source-item.is ∙ sym (take_more xs i c.source-item.result c.loop-source-test.true))
    (all_zipped_more R (take i xs) (map view ys) c.source-item.result (view v) c.loop-source.invariant
    c.in_ok-to_json.ensures.value))

pub returns-clause-value : goal.returns-clause-value
returns-clause-value g c = (
  map view c.loop-source.items.items,
  view-Array c.loop-source.items,
  subst (λ xs. AllZip g.T.ToJson.shows xs (map view c.loop-source.items.items))
      (take_all c.loop-source.source-index c.args.list.now (omega (arith, c.loop-source-test.false)))
      c.loop-source.invariant,
)
