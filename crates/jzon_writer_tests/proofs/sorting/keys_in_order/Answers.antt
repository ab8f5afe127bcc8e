use Rattle.jzon.specs.Entries.{entries_of}
use Rattle.jzon.specs.PairList.{keys_of}
use Rattle.jzon.proofs.KeyOrder.{key_taken, keys_taken}
use Rattle.jzon_writer_tests.proofs.sorting.keys_in_order.Goals as goal

pub loop-key-preserved : goal.loop-key-preserved
loop-key-preserved c =
    key_taken c.loop-key.keys.items c.loop-key.key-iterator (keys_of (entries_of c.args.object.now))
    c.loop-key.invariant
    c.push.new.self.items c.in-Some.key c.next.new.self _ c.in_ok-push.ensures.items c.in-Some.ensures.steps

pub returns : goal.returns
returns c =
    keys_taken c.loop-key.keys.items c.loop-key.key-iterator (keys_of (entries_of c.args.object.now))
    c.loop-key.invariant
    c.in-None.ensures.steps.0
