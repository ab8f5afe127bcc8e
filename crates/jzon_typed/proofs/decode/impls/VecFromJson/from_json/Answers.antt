use Rattle.std.proofs.Common.{length, map, option_map, slice_get, refl, sym, ap, ◌∙◌, subst, arith}
use Rattle.std.proofs.lemmas.List.{length-map, take_all}
use Rattle.std.proofs.lemmas.Option.{slice_get-map, slice_get_read}
use Rattle.std.specs.List.{AllZip}
use Rattle.jzon.specs.Readers.{is_array, items}
use Rattle.jzon.specs.View.{view}
use Rattle.jzon.proofs.ValueLaws.{view-Array, items-Array}
use Rattle.jzon_typed.proofs.DecodeSteps.{index-error, memory-stays}
use Rattle.jzon_typed.proofs.FieldSteps.{zip-next}
use Rattle.jzon_typed.proofs.decode.impls.VecFromJson.from_json.Goals as goal

pub returns-in-Err-clause-error : goal.returns-in-Err-clause-error
returns-in-Err-clause-error g c =
    let xs = c.deref-item-items.result.now in
    let i = c.loop-index.index in
    let item = c.item-item.result in
    let seen = ap (λ v. items (view v)) c.in-Array.is ∙ items-Array c.in-Array.items
    ∙ ap (map view) (sym c.deref-item-items.ensures.value) in
    index-error (view c.args.value.now) (view item) i c.in-Err.error c.below_index.result (omega arith)
    c.below_index.ensures
    (ap (λ vs. slice_get vs i) seen ∙ slice_get-map view xs i
    ∙ ap (option_map view) (slice_get_read xs (length xs) i item refl c.loop-index-test.true c.item-item.is))
    c.in-Err.ensures.error

pub returns-in-Err-clause-takes : goal.returns-in-Err-clause-takes
returns-in-Err-clause-takes g c = λ taken.
    let xs = c.deref-item-items.result.now in
    let i = c.loop-index.index in
    let item = c.item-item.result in
    let seen = ap (λ v. items (view v)) c.in-Array.is ∙ items-Array c.in-Array.items
    ∙ ap (map view) (sym c.deref-item-items.ensures.value) in
    memory-stays c.in-Err.error c.below_index.result _ c.below_index.ensures (c.in-Err.ensures.takes (taken.1 i (view item)
    (ap (λ vs. slice_get vs i) seen ∙ slice_get-map view xs i
    ∙ ap (option_map view) (slice_get_read xs (length xs) i item refl c.loop-index-test.true c.item-item.is))))

pub loop-index-preserved : goal.loop-index-preserved
loop-index-preserved g c =
    zip-next g.T.FromJson.gives c.deref-item-items.result.now c.loop-index.index c.loop-index.list.items
    c.push.new.self.items c.item-item.result c.in-Ok.read c.loop-index-test.true c.item-item.is
    c.loop-index.invariant c.in-Ok.ensures.value c.in_ok-push-in-Ok.ensures.items

pub returns-clause-value : goal.returns-clause-value
returns-clause-value g c =
    let xs = c.deref-item-items.result.now in
    let seen = ap (λ v. items (view v)) c.in-Array.is ∙ items-Array c.in-Array.items
    ∙ ap (map view) (sym c.deref-item-items.ensures.value) in (
      ap (λ v. is_array (view v)) c.in-Array.is ∙ ap is_array (view-Array c.in-Array.items),
      subst (λ vs. AllZip g.T.FromJson.gives vs c.loop-index.list.items)
          (take_all c.loop-index.index (map view xs) (omega (arith, length-map xs view, c.loop-index-test.false))
          ∙ sym seen)
          c.loop-index.invariant,
    )
