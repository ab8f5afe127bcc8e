-- What an iterator over entries with mutable values has left.
use Rattle.std.specs.Prelude.{ℕ, List}
use Rattle.std.specs.List.{zip}
use Rattle.std.specs.Slice.Iter as slice
use Rattle.jzon_base.specs.declared.pairs.iter_mut.IterMut.{IterMut}

-- the entries that are still to be yielded, in order
abbrev pub iter_mut_rest : {V : Type 0} → IterMut V → List (List ℕ × V)
iter_mut_rest s = zip s.keys (slice.iter_mut_rest s.values)
