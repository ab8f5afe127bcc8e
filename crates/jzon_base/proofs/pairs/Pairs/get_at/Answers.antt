use Rattle.jzon_base.proofs.Common.{◌∙◌, sym, ap, arith, rules, slice_get_read, slice_get}
use Rattle.jzon_base.specs.PairList.{keys_of, values_of}
use Rattle.jzon_base.proofs.Entries.Zips.{AreParts-zip, slice_get-zip, zip-parts}
use Rattle.jzon_base.proofs.pairs.Pairs.get_at.Goals as goal

pub index-requires : goal.index-requires
index-requires g c =
    let parts = AreParts-zip _ _ c.args.self.now (search rules) c.behind-entries.invariant in
    omega (arith, c.behind-entries.inside.values.ok.0, parts.values_length)

pub returns : goal.returns
returns g c =
    let ps = c.args.self.now in
    let values = c.behind-entries.inside.values in
    let parts = AreParts-zip _ _ ps (search rules) c.behind-entries.invariant in
    ap (λ ps. slice_get ps c.args.position) (sym (zip-parts ps))
    ∙ slice_get-zip (keys_of ps) (values_of ps) c.args.position _ _ (search rules)
    (rw (← parts.values) (slice_get_read values.items _ c.args.position _ values.ok.0
    (omega (arith, values.ok.0, parts.values_length)) c.index.ensures))
