use Rattle.std.proofs.Common.{◌*◌, ◌+◌, length}
use Rattle.std.specs.Option.{option_copied}
use Rattle.jzon_pointer.specs.Pointer.{tokens_left}
use Rattle.jzon_tools.proofs.edit.+change.Given as goal

abbrev pub decreases-change_at : goal.decreases-change_at
decreases-change_at g l = 2 * length (tokens_left (option_copied l.left))

abbrev pub decreases-change_element : goal.decreases-change_element
decreases-change_element g l = 2 * length (tokens_left (option_copied l.rest)) + 1

abbrev pub decreases-change_member : goal.decreases-change_member
decreases-change_member g l = 2 * length (tokens_left (option_copied l.rest)) + 1
