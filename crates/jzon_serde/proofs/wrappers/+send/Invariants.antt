use Rattle.std.proofs.Common.{◌+◌, ◌*◌}
use Rattle.jzon_serde.proofs.wrappers.+send.Given as goal

abbrev pub decreases-send : goal.decreases-send
decreases-send g l = 2 * l.depth

abbrev pub decreases-send_items : goal.decreases-send_items
decreases-send_items g l = 2 * l.depth + 1

abbrev pub decreases-send_entries : goal.decreases-send_entries
decreases-send_entries g l = 2 * l.depth + 1
