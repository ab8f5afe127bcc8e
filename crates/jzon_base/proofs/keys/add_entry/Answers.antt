use Rattle.jzon_base.proofs.Common.{map, on_ok_weaker}
use Rattle.jzon_base.specs.Private.Hash.{hash_of}
use Rattle.jzon_base.proofs.KeyIndex.Tables.{IsIndexOf-key}
use Rattle.jzon_base.proofs.keys.add_entry.Goals as goal

pub returns-clause-ok : goal.returns-clause-ok
returns-clause-ok c =
    let ks = c.args.keys.now in
    let name = c.args.name.now in
    let spot = rw c.in-Some.is at c.requires.spot in
    on_ok_weaker c.add.result (λ index. record {
      index = λ _. IsIndexOf-key hash_of ks name c.in-Some.spot.hash c.add.new.self spot.own index;
    }) (c.add.ensures.ok (map hash_of ks) name (c.requires.table.indexed.index spot.some) spot.spot)
