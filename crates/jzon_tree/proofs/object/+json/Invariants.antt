use Rattle.jzon_tree.proofs.object.+json.Given as goal

abbrev pub invariant-drop_values-loop-value : goal.invariant-drop_values-loop-value
invariant-drop_values-loop-value l = goal.no_deeper-drop_values-loop-value l

abbrev pub decreases-drop_values-loop-value : goal.decreases-drop_values-loop-value
decreases-drop_values-loop-value l = goal.left-drop_values-loop-value l
