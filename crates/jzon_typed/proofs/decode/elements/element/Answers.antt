use Rattle.std.proofs.Common.{◌≤◌, length, map, option_map, slice_get, refl, sym, ap, ◌∙◌, subst, arith}
use Rattle.std.proofs.lemmas.Option.{none-some, same_Some, slice_get-map, slice_get_past, slice_get_read}
use Rattle.jzon.specs.Readers.{count, items}
use Rattle.jzon.specs.View.{view}
use Rattle.jzon.proofs.ValueLaws.{count-Array, items-Array}
use Rattle.jzon_typed.proofs.DecodeSteps.{index-error, memory-stays}
use Rattle.jzon_typed.proofs.decode.elements.element.Goals as goal

pub returns-in_default-get-clause-error : goal.returns-in_default-get-clause-error
returns-in_default-get-clause-error g c =
    let size = ap (λ v. count (view v)) c.in-Array.is ∙ count-Array c.in-Array.items
    ∙ ap length (sym c.deref.ensures.value) in
    c.wrong-in_default-get.ensures (subst (λ n. n ≤ c.args.index) (sym size) c.in_default-get.ensures.lookup.3)

pub returns-in_default-get-clause-takes : goal.returns-in_default-get-clause-takes
returns-in_default-get-clause-takes g c = λ taken.
    let xs = c.deref.result.now in
    let i = c.args.index in
    let seen = ap (λ v. items (view v)) c.in-Array.is ∙ items-Array c.in-Array.items
    ∙ ap (map view) (sym c.deref.ensures.value) in
    absurd (none-some taken.0 (sym (ap (λ vs. slice_get vs i) seen ∙ slice_get-map view xs i
    ∙ ap (option_map view) (slice_get_past xs i c.in_default-get.ensures.lookup.3)) ∙ taken.1))

pub returns-in-Ok-clause-value : goal.returns-in-Ok-clause-value
returns-in-Ok-clause-value g c =
    let xs = c.deref.result.now in
    let i = c.args.index in
    let seen = ap (λ v. items (view v)) c.in-Array.is ∙ items-Array c.in-Array.items
    ∙ ap (map view) (sym c.deref.ensures.value) in (
      view c.in-Some.item.now,
      ap (λ vs. slice_get vs i) seen ∙ slice_get-map view xs i
          ∙ ap (option_map view) (slice_get_read xs (length xs) i c.in-Some.item.now refl c.in-Some.ensures.lookup.3.0 c.in-Some.ensures.lookup.1),
      c.in-Ok.ensures.value,
    )

pub returns-in-Err-clause-error : goal.returns-in-Err-clause-error
returns-in-Err-clause-error g c =
    let xs = c.deref.result.now in
    let i = c.args.index in
    let seen = ap (λ v. items (view v)) c.in-Array.is ∙ items-Array c.in-Array.items
    ∙ ap (map view) (sym c.deref.ensures.value) in
    index-error (view c.args.value.now) (view c.in-Some.item.now) i c.in-Err.error c.below_index.result (omega arith)
    c.below_index.ensures
    (ap (λ vs. slice_get vs i) seen ∙ slice_get-map view xs i
    ∙ ap (option_map view) (slice_get_read xs (length xs) i c.in-Some.item.now refl c.in-Some.ensures.lookup.3.0 c.in-Some.ensures.lookup.1))
    c.in-Err.ensures.error

pub returns-in-Err-clause-takes : goal.returns-in-Err-clause-takes
returns-in-Err-clause-takes g c = λ taken.
    let xs = c.deref.result.now in
    let i = c.args.index in
    let seen = ap (λ v. items (view v)) c.in-Array.is ∙ items-Array c.in-Array.items
    ∙ ap (map view) (sym c.deref.ensures.value) in
    let at = ap (λ vs. slice_get vs i) seen ∙ slice_get-map view xs i
    ∙ ap (option_map view) (slice_get_read xs (length xs) i c.in-Some.item.now refl c.in-Some.ensures.lookup.3.0 c.in-Some.ensures.lookup.1) in
    memory-stays c.in-Err.error c.below_index.result _ c.below_index.ensures (c.in-Err.ensures.takes
    (subst g.T.FromJson.takes (same_Some _ _ (sym taken.1 ∙ at)) taken.2))
