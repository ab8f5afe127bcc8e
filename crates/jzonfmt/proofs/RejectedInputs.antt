-- What a rejected input leaves: the fault that reports it, and a writer that holds what it held.
use Rattle.std.proofs.Common.{inl, inr, ◌≡◌, ℕ, List, Option, Result, Ok, Err, sym, subst}
use Rattle.std.specs.Prelude.{IsUtf8, chars}
use Rattle.std.specs.Result.{IsErrAnd}
use Rattle.std.specs.Io.KnownBytes.{Consumes, IsAtEnd}
use Rattle.std.proofs.KnownBytes.{Keeps-refl}
use Rattle.jzon.specs.Error.{Error}
use Rattle.jzon.specs.Error.TheVariants.{UnexpectedCharacter, UnexpectedEndOfJson, ExceededDepthLimit}
use Rattle.jzon.specs.Error.TheVariants.{FailedUtf8Parsing, WrongType, OutOfMemory, DuplicateKey, InexactNumber}
use Rattle.jzon.specs.Reading.{Reading}
use Rattle.jzon.specs.Answer.{IsErrorUnlessMemory}
use Rattle.jzonfmt.specs.Run.{fault_of, ReadsInput, Answers}
use Rattle.jzonfmt.specs.declared.engine.Layout.{Layout}
use Rattle.jzonfmt.specs.declared.engine.RunFault.{RunFault}
use Rattle.jzonfmt.specs.declared.engine.RunFault.TheVariants.{Read, NotUtf8, Json, Write, Memory}

answers_fault : (T : Type 0) (reading : Reading) (layout : Layout) (input : List ℕ) (e : Error) (w : Option (List ℕ))
    → IsUtf8 input → IsErrorUnlessMemory reading (chars input) e
    → Answers {T = T} reading layout input (Err (fault_of e)) w w
answers_fault T reading layout input OutOfMemory w u h = Keeps-refl w
answers_fault T reading layout input (UnexpectedCharacter c l k) w u (inl e) = absurd (cc)
answers_fault T reading layout input (UnexpectedCharacter c l k) w u (inr h) = ((u, h), Keeps-refl w)
answers_fault T reading layout input UnexpectedEndOfJson w u (inl e) = absurd (cc)
answers_fault T reading layout input UnexpectedEndOfJson w u (inr h) = ((u, h), Keeps-refl w)
answers_fault T reading layout input ExceededDepthLimit w u (inl e) = absurd (cc)
answers_fault T reading layout input ExceededDepthLimit w u (inr h) = ((u, h), Keeps-refl w)
answers_fault T reading layout input FailedUtf8Parsing w u (inl e) = absurd (cc)
answers_fault T reading layout input FailedUtf8Parsing w u (inr h) = ((u, h), Keeps-refl w)
answers_fault T reading layout input (WrongType s) w u (inl e) = absurd (cc)
answers_fault T reading layout input (WrongType s) w u (inr h) = ((u, h), Keeps-refl w)
answers_fault T reading layout input (DuplicateKey l k) w u (inl e) = absurd (cc)
answers_fault T reading layout input (DuplicateKey l k) w u (inr h) = ((u, h), Keeps-refl w)
answers_fault T reading layout input (InexactNumber l k) w u (inl e) = absurd (cc)
answers_fault T reading layout input (InexactNumber l k) w u (inr h) = ((u, h), Keeps-refl w)

-- the error of the text, reported as a fault
pub answers_error : {T : Type 0} (reading : Reading) (layout : Layout) (input : List ℕ) (e : Error)
    (result : Result T RunFault) (w : Option (List ℕ)) → IsUtf8 input
    → IsErrorUnlessMemory reading (chars input) e → IsErrAnd result (λ f. f ≡ fault_of e)
    → Answers reading layout input result w w
answers_error reading layout input e (Ok v) w u h r = absurd r
answers_error {T = T} reading layout input e (Err f) w u h r = subst
    (λ g. Answers {T = T} reading layout input (Err g) w w) (sym r) (answers_fault T reading layout input e w u h)

-- the input was read to its end, whatever the result is
pub reads_all : {T : Type 0} (r : Result T RunFault) (old new : Option (List ℕ)) (input : List ℕ)
    → Consumes old new input × IsAtEnd new → ReadsInput r old new input
reads_all (Ok v) old new input h = h
reads_all (Err (Read e)) old new input h = h.0
reads_all (Err NotUtf8) old new input h = h
reads_all (Err (Json e)) old new input h = h
reads_all (Err (Write e)) old new input h = h
reads_all (Err Memory) old new input h = h.0
