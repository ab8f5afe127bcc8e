use Rattle.jzon_base.proofs.Common.{map, on_ok_weaker}
use Rattle.jzon_base.specs.Private.Hash.{hash_of}
use Rattle.jzon_base.proofs.KeyIndex.Tables.{AreHanded-own, IsIndexOf-key}
use Rattle.jzon_base.proofs.keys.begin_index.Goals as goal

pub search-requires-clause-handed : goal.search-requires-clause-handed
search-requires-clause-handed c =
    let ks = c.args.keys.now in (
      map hash_of ks,
      c.in_ok-fill.ensures.ok,
      AreHanded-own hash_of ks c.args.name.now c.hash_of-hash.result c.hash_of-hash.ensures,
    )

pub returns-clause-ok : goal.returns-clause-ok
returns-clause-ok c =
    let ks = c.args.keys.now in
    let name = c.args.name.now in
    let h = c.hash_of-hash.result in
    on_ok_weaker c.add.result (λ index. record {
      index = λ _. IsIndexOf-key hash_of ks name h c.add.new.self c.hash_of-hash.ensures index;
    }) (c.add.ensures.ok (map hash_of ks) name c.in_ok-fill.ensures.ok c.in-Err.ensures.spot)
