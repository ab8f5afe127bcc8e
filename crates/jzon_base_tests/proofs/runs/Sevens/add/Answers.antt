use Rattle.std.proofs.Common.{map, refl, sym}
use Rattle.jzon_base.proofs.KeyIndex.Tables.{IsIndexOf-key}
use Rattle.jzon_base.proofs.KeyIndex.Indexes.{IsDistinct-missing}
use Rattle.jzon_base_tests.proofs.runs.Sevens.add.Goals as goal

pub invariant_of-self-2 : goal.invariant_of-self-2
invariant_of-self-2 c =
    let ks = c.self.inside.keys.items in
    let name = c.args.name.now in
    let added = rw (c.as_slice-in-Err.ensures.value, c.reserve.ensures.items) at c.in_ok-add-in-Err.ensures.ok in
    let spot = rw (c.as_slice.ensures.value, c.reserve.ensures.items) at c.in-Err.ensures.spot in
    let absent = rw (c.as_slice.ensures.value, c.reserve.ensures.items) at c.in-Err.ensures.position in
    rw (c.push_reserved.ensures.items, c.reserve.ensures.items, c.in_ok-key.ensures.bytes) (
      IsIndexOf-key (λ _. 7) ks name 7 c.add.new.self refl (added (map (λ _. 7) ks) name c.self.invariant.0 spot),
      IsDistinct-missing name ks c.self.invariant.1 (sym absent),
    )
