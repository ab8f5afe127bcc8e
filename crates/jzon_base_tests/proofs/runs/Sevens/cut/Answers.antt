use Rattle.std.proofs.Common.{arith}
use Rattle.jzon_base.proofs.KeyIndex.Indexes.{IsDistinct-remove}
use Rattle.jzon_base.proofs.KeyIndex.Tables.{IsIndexOf-cut}
use Rattle.jzon_base_tests.proofs.runs.Sevens.cut.Goals as goal

pub invariant_of-self : goal.invariant_of-self
invariant_of-self c =
    let inside = c.self.inside in
    rw (c.remove.ensures.items, c.cut.ensures) (
      IsIndexOf-cut (λ _. 7) inside.keys.items inside.index c.args.at (omega arith)
          c.self.invariant.0,
      IsDistinct-remove inside.keys.items c.args.at (omega arith)
          c.self.invariant.1,
    )
