use Rattle.std.proofs.Common.{◌≡◌, ◌++◌}
use Rattle.jzon.specs.Entries.{entries_of}
use Rattle.jzon.specs.PairList.{keys_of}
use Rattle.jzon.proofs.KeyOrder.{texts_of}
use Rattle.jzon_writer_tests.proofs.sorting.keys_in_order.Given as goal

-- the keys so far, and those that are left
abbrev pub invariant-loop-key : goal.invariant-loop-key
invariant-loop-key l = texts_of l.keys.items ++ keys_of l.key-iterator ≡ keys_of (entries_of l.object)
