use Rattle.jzon_base.proofs.Common.{◌≡◌, ◌∙◌, arith, get_or, sym}
use Rattle.jzon_pointer.proofs.LocatePlain.{skim_string}
use Rattle.jzon_pointer.proofs.locate.item_end.Goals as goal

pub loop-at-preserved-in-loop-at-3 : goal.loop-at-preserved-in-loop-at-3
loop-at-preserved-in-loop-at-3 c =
    let quote : get_or c.args.bytes.now c.loop-at.at 0 ≡ 34 = grind (arith) in
    let passed = skim_string c.args.bytes.now c.loop-at.depth c.loop-at.at c.string_end-at.result c.loop-at-test.true quote
    c.string_end-at.ensures.rest in
    (c.loop-at.invariant.0 ∙ sym passed, omega arith, omega arith, omega arith)
