use Rattle.jzon_base.proofs.Common.{◌≡◌, ◌∙◌, ap, sym, zip, IfOk-weaker}
use Rattle.jzon_base.specs.PairList.{put_each}
use Rattle.jzon_base.proofs.KeyIndex.Filters.{IsDistinct-known}
use Rattle.jzon_base.proofs.Entries.PutEach.{put_each-zip}
use Rattle.jzon_base.proofs.pairs.Pairs.from_known.Goals as goal

pub returns : goal.returns
returns g c =
    let ks = c.args.keys.items in
    let vs = c.args.values.items in
    IfOk-weaker c.boxed.result (λ p. p ≡ zip c.from_known-keys.result vs) (λ p. p ≡ put_each (zip ks vs))
    (λ p e. e ∙ ap (λ ls. zip ls vs) c.from_known-keys.ensures
    ∙ sym (put_each-zip ks vs c.requires.even (IsDistinct-known ks c.args.known c.requires.known))) c.boxed.ensures
