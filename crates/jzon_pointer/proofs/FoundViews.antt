-- What a value is seen to be.
use Rattle.jzon.proofs.ValueLaws.{view-Null, view-Boolean, view-Short, view-String, view-Number, view-Array, view-Object, count-Array, count-Object}

pub ruleset describing = (view-Null, view-Boolean, view-Short, view-String, view-Number, view-Array, view-Object, count-Array, count-Object)
