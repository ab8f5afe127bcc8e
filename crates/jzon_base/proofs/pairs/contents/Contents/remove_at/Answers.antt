use Rattle.jzon_base.proofs.Common.{◌≡◌, ◌<◌, ◌∙◌, Some, ap, arith, length, slice_get, slice_get_read, zip, remove}
use Rattle.jzon_base.proofs.Entries.Zips.{AreParts-zip, slice_get-zip, zip-remove}
use Rattle.std.proofs.lemmas.List.Edits.{length-remove}
use Rattle.jzon_base.proofs.pairs.contents.Contents.remove_at.Goals as goal

pub remove-key-requires : goal.remove-key-requires
remove-key-requires g c = omega (arith, (AreParts-zip _ _ _ c.self.view_is c.self.invariant).keys_length)

pub remove-requires : goal.remove-requires
remove-requires g c =
    omega (arith, c.self.inside.values.ok.0, (AreParts-zip _ _ _ c.self.view_is c.self.invariant).values_length)

pub invariant_of-self : goal.invariant_of-self
invariant_of-self g c =
    let i = c.args.position in
    let keys = c.self.inside.keys in
    let values = c.self.inside.values.items in
    let parts = AreParts-zip _ _ _ c.self.view_is c.self.invariant in
    let in_keys : i < length keys = omega (arith, parts.keys_length) in
    let in_values : i < length values = omega (arith, parts.values_length) in
    omega (
      arith,
      c.self.invariant,
      ap length c.remove-key.ensures.after,
      length-remove keys i in_keys,
      ap length c.remove.ensures.items,
      length-remove values i in_values,
    )

pub returns-clause-entry : goal.returns-clause-entry
returns-clause-entry g c =
    let i = c.args.position in
    let keys = c.self.inside.keys in
    let values = c.self.inside.values in
    let parts = AreParts-zip _ _ _ c.self.view_is c.self.invariant in
    let here : slice_get values.items i ≡ Some c.remove.result =
    slice_get_read values.items _ i _ values.ok.0 (omega (arith, values.ok.0, parts.values_length))
    c.remove.ensures.value in
    rw (← c.self.view_is) (slice_get-zip keys values.items i c.remove-key.result c.remove.result c.remove-key.ensures.key here)

pub returns-clause-after : goal.returns-clause-after
returns-clause-after g c =
    (λ j. zip (c.remove-key.ensures.after j) (c.remove.ensures.items j))
    ∙ zip-remove c.self.inside.keys c.self.inside.values.items c.args.position c.self.invariant
    ∙ ap (λ ps. remove ps c.args.position) c.self.view_is
