use Rattle.jzon_base.proofs.Common.{◌∙◌, length, refl, ap, arith, length-set}
use Rattle.jzon_base.specs.Private.Runs.{all_entries}
use Rattle.jzon_base.proofs.KeyIndex.Refills.{AreRefilled-none, AreRefilled-more, AreRefilled-all}
use Rattle.jzon_base.proofs.keys.runs.Runs.refill.Goals as goal

pub loop-at-init : goal.loop-at-init
loop-at-init c = record {
  count = refl;
  refilled = AreRefilled-none c.args.keys.now c.self.inside.runs.items (omega (
    arith,
    ap (λ rs. length (all_entries rs)) c.self.view_is,
  ));
}

pub loop-at-preserved : goal.loop-at-preserved
loop-at-preserved c =
    let rs = c.loop-at.self-inside.runs.items in
    record {
      count = length-set rs c.loop-at.at c.refill-from.new.self ∙ c.loop-at.invariant.count;
      refilled = AreRefilled-more c.args.keys.now rs c.loop-at.from c.refill-from.result c.loop-at.at
          c.index_mut.result.now c.refill-from.new.self (omega (arith, c.loop-at.invariant.count))
          c.index_mut.ensures.value c.loop-at.invariant.refilled c.refill-from.ensures.end
          c.refill-from.ensures.entries c.refill-from.ensures.sorted;
    }

pub returns : goal.returns
returns c = AreRefilled-all c.args.keys.now c.loop-at.self-inside.runs.items c.loop-at.from c.loop-at.at
    (omega (arith, c.loop-at.invariant.count)) c.loop-at.invariant.refilled
