-- What several writes add, one after the other.
use Rattle.std.proofs.Common.{ℕ, ◌+◌, List, ◌++◌, length, arith, Option, Result, Ok, Err, OnOk, OnErr}
use Rattle.std.proofs.lemmas.List.{length-append}
use Rattle.std.proofs.Math.Seq.{take-append-add, take-length}
use Rattle.std.proofs.KnownBytes.{Appends-trans}
use Rattle.std.specs.Io.KnownBytes.{Appends}
use Rattle.jzon.specs.PartialWrites.{AppendsBeginning}
use Rattle.jzonfmt.specs.Run.{WritesWhole}

-- the whole is a prefix of itself
pub whole_beginning : (a b : Option (List ℕ)) (bs : List ℕ) → Appends a b bs → AppendsBeginning a b bs
whole_beginning a b bs p = (length bs, omega arith, rw take-length p)

-- a write, by its result
pub written : {E : Type 0} (r : Result (Unit {0}) E) (a b : Option (List ℕ)) (bs : List ℕ) → OnOk r (Appends a b bs)
    → OnErr r (AppendsBeginning a b bs) → WritesWhole bs r a b
written (Ok u) a b bs p q = p
written (Err e) a b bs p q = q

-- a second write after one of everything
pub then_written : {E : Type 0} (r : Result (Unit {0}) E) (a b c : Option (List ℕ)) (bs cs : List ℕ) → Appends a b bs
    → OnOk r (Appends b c cs) → OnErr r (AppendsBeginning b c cs) → WritesWhole (bs ++ cs) r a c
then_written (Ok u) a b c bs cs p q h = Appends-trans a b c bs cs p q
then_written (Err e) a b c bs cs p q (n, h, w) =
    (length bs + n, omega (arith, h, length-append bs cs), rw take-append-add (Appends-trans a b c bs _ p w))
