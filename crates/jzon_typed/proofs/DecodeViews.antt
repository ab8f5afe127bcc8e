-- What a reader is seen to read, and a writer to put.
use Rattle.jzon.proofs.ValueLaws.{view-Null, view-Object, find-view_object, viewed-put}

pub ruleset reading = (view-Null, view-Object, find-view_object)

pub ruleset writing = (viewed-put)
