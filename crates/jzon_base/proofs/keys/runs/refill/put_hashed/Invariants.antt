use Rattle.jzon_base.proofs.Common.{◌≡◌, take}
use Rattle.jzon_base.specs.Private.Keys.{hashed_from}
use Rattle.jzon_base.proofs.keys.runs.refill.put_hashed.Given as goal

abbrev pub invariant-loop-at : goal.invariant-loop-at
invariant-loop-at l = take l.at l.entries ≡ hashed_from l.from (take l.at l.rest)
