-- What a `View` shows.
use Rattle.std.specs.Prelude.{Option, option_map}
use Rattle.jzon_tree.specs.Readers.{or_null}
use Rattle.jzon_tree.specs.Value.{Value}
use Rattle.jzon_tree.specs.View.{view}
use Rattle.jzon_tree.specs.declared.view.View.{View}

-- the value, or none if it is missing
abbrev pub shown : View → Option Value
shown v = option_map (λ w. view w.now) v.value

-- the value, or null if it is missing
abbrev pub seen : View → Value
seen v = or_null (shown v)
