use Rattle.jzon_examples.proofs.cookbook.depth.+longest.Given as goal

abbrev pub decreases-longest : goal.decreases-longest
decreases-longest l = l.depth
