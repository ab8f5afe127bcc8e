use Rattle.std.proofs.Common.{map, refl}
use Rattle.jzon_base.proofs.KeyIndex.Tables.{AreHanded-own}
use Rattle.jzon_base_tests.proofs.runs.Sevens.find.Goals as goal

pub search-requires-clause-handed : goal.search-requires-clause-handed
search-requires-clause-handed c =
    let ks = c.self.inside.keys.items in
    rw c.as_slice.ensures.value (map (λ _. 7) ks, c.self.invariant.0, AreHanded-own (λ _. 7) ks c.args.name.now 7 refl)
