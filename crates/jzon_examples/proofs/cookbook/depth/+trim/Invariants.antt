use Rattle.jzon_examples.proofs.cookbook.depth.+trim.Given as goal

abbrev pub decreases-trim : goal.decreases-trim
decreases-trim l = l.depth
