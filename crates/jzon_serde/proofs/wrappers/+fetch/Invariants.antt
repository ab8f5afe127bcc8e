use Rattle.std.proofs.Common.{◌≡◌, ◌+◌, ◌*◌, length}
use Rattle.jzon_serde.proofs.wrappers.+fetch.Given as goal

abbrev pub decreases-fetch : goal.decreases-fetch
decreases-fetch g l = 2 * l.depth

abbrev pub decreases-fetch_items : goal.decreases-fetch_items
decreases-fetch_items g l = 2 * l.depth + 1

abbrev pub decreases-fetch_entries : goal.decreases-fetch_entries
decreases-fetch_entries g l = 2 * l.depth + 1

abbrev pub invariant-fetch_entries-loop : goal.invariant-fetch_entries-loop
invariant-fetch_entries-loop g l = length l.values.items ≡ length l.keys.items
