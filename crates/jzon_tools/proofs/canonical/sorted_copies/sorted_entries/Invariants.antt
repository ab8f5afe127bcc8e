use Rattle.std.proofs.Common.{◌≡◌, ◌++◌, map}
use Rattle.jzon.specs.Entries.{entries_of}
use Rattle.jzon_tools.specs.Canonical.{pointed}
use Rattle.jzon_tools.proofs.canonical.sorted_copies.sorted_entries.Given as goal

-- the entries so far, and those that are left
abbrev pub invariant-loop-key : goal.invariant-loop-key
invariant-loop-key l = map pointed l.entries.items ++ l.key-iterator ≡ entries_of l.object
