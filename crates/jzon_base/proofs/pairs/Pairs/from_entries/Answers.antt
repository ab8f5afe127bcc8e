use Rattle.jzon_base.proofs.Common.{◌≡◌, ◌∙◌, ap, sym, zip, IsDistinct, bytes_eq, IfOk-weaker}
use Rattle.jzon_base.specs.PairList.{put_each}
use Rattle.jzon_base.proofs.Entries.PutEach.{put_each-zip}
use Rattle.jzon_base.proofs.pairs.Pairs.from_entries.Goals as goal

pub returns-then-are_distinct : goal.returns-then-are_distinct
returns-then-are_distinct g c =
    let ks = c.args.keys.items in
    let vs = c.args.values.items in
    let distinct : IsDistinct bytes_eq ks =
    rw c.as_slice.ensures.value at (c.are_distinct.ensures.0 c.if-are_distinct.true) in
    IfOk-weaker c.boxed.result (λ p. p ≡ zip c.from_distinct.result vs) (λ p. p ≡ put_each (zip ks vs))
    (λ p e. e ∙ ap (λ ls. zip ls vs) c.from_distinct.ensures
    ∙ sym (put_each-zip ks vs c.requires distinct)) c.boxed.ensures
