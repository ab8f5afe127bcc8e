-- The types of the parts of values, as the logic represents them (`the_row` of a type), for clauses on what is written
-- through a `&mut`. Such a clause, `writes_back`, has the checker's form `ensures* .. sem 𝓛`, and says what the
-- receiver is once the returned reference is no longer used. std's `Lends R S receiver result f` says that it is `f w`,
-- for the last value `w` to which the reference referred; `R` and `S` are the rows of both types. `LendsIf .. f x` says
-- so of `Some`, and that the receiver is `x` at `None`; `LendsIfOk` says the same of `Ok` and `Err`, and `LendsSoOk`
-- with relations in place of `f` and `x`.
use denote.RattleType.{RattleType}
use Rattle.std.specs.contracts.alloc.Global as global
use Rattle.std.specs.contracts.vec.Vec as vec
use Rattle.std.specs.contracts.impls.GlobalAllocator.TheImpl.{ghosts}

-- a `Vec` of R
abbrev pub vec_row : RattleType → RattleType
vec_row R = vec.the_row R global.the_row ghosts
