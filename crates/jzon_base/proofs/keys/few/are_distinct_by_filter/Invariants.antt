use Rattle.jzon_base.proofs.Common.{take, IsDistinct, bytes_eq}
use Rattle.jzon_base.specs.Private.Filter.{HaveBits}
use Rattle.jzon_base.proofs.keys.few.are_distinct_by_filter.Given as goal

abbrev pub invariant-loop-at : goal.invariant-loop-at
invariant-loop-at l = record {
  distinct : IsDistinct bytes_eq (take l.at l.keys);
  bits : HaveBits (take l.at l.keys) l.filter.words;
}
