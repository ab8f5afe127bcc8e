use Rattle.jzon_base_tests.proofs.pairs.known_of.Goals as goal

pub loop-name-init : goal.loop-name-init
loop-name-init c = rw c.new-keys.ensures.items c.new-known.ensures
