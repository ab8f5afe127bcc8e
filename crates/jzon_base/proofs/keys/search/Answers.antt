use Rattle.jzon_base.proofs.Common.{◌∙◌, map, sym, eqb-false}
use Rattle.jzon_base.specs.Private.Hash.{hash_of}
use Rattle.jzon_base.proofs.KeyIndex.Tables.{AreHanded-own}
use Rattle.jzon_base.proofs.keys.search.Goals as goal

pub search-requires-clause-handed : goal.search-requires-clause-handed
search-requires-clause-handed c =
    let ks = c.args.keys.now in (
      map hash_of ks,
      c.requires.indexed.index (eqb-false _ _ (sym c.is_empty.ensures ∙ c.if-is_empty.false)),
      AreHanded-own hash_of ks c.args.name.now c.hash_of-hash.result c.hash_of-hash.ensures,
    )
