use Rattle.jzon_base.proofs.Common.{take, IsDistinct, All, bytes_eq}
use Rattle.jzon_base.specs.Private.Filter.{HasWordBit}
use Rattle.jzon_base.proofs.keys.few.are_distinct.Given as goal

abbrev pub invariant-loop-at : goal.invariant-loop-at
invariant-loop-at l = record {
  distinct : IsDistinct bytes_eq (take l.at l.keys);
  bits : All (HasWordBit l.word) (take l.at l.keys);
}
