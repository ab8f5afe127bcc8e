use Rattle.jzon_base.proofs.Common.{◌∙◌, ap, refl, arith, slice_get_read}
use Rattle.jzon_base.specs.PairList.{set_value}
use Rattle.jzon_base.proofs.Entries.Zips.{AreParts-zip, zip-set}
use Rattle.jzon_base.proofs.pairs.contents.Contents.value_mut.Goals as goal

pub index_mut-requires : goal.index_mut-requires
index_mut-requires g c =
    omega (arith, c.self.inside.values.ok.0, (AreParts-zip _ _ _ c.self.view_is c.self.invariant).values_length)

pub returns : goal.returns
returns g c =
    let parts = AreParts-zip _ _ _ c.self.view_is c.self.invariant in
    let keys = c.self.inside.keys in
    let values = c.self.inside.values in (
      (refl, λ w. zip-set keys values.items c.args.position w ∙ ap (λ ps. set_value ps c.args.position w) c.self.view_is),
      record {
        writes_back = tt;
        value = rw (← parts.values) (slice_get_read values.items _ c.args.position _ values.ok.0
            (omega (arith, values.ok.0, parts.values_length)) c.index_mut.ensures.value);
      },
    )
