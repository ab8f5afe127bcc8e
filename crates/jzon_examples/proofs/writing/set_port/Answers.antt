use Rattle.std.proofs.Common.{◌≡◌, ◌≢◌, ℕ, List, codes, true, Some, OnOk, Result, Ok, Err, pos, ap, ◌∙◌}
use Rattle.jzon.specs.Changers.{with_entry}
use Rattle.jzon.specs.Decimal.{integer_parts}
use Rattle.jzon.specs.PairList.{find}
use Rattle.jzon.specs.Readers.{entries, is_object}
use Rattle.jzon.specs.Value.{Value, number}
use Rattle.jzon.proofs.ValueLaws.{find-with_entry_same, find-with_entry_other}
use Rattle.jzon_examples.proofs.writing.set_port.Goals as goal

written : {E : Type 0} (r : Result (Unit {0}) E) (k : List ℕ) (n new old : Value)
    → OnOk r ((v : Value) × (v ≡ n) × (new ≡ with_entry k v old)) → OnOk r (is_object old ≡ true)
    → OnOk r (find k (entries new) ≡ Some n)
written (Ok done) k n new old (v, is, put) object =
    ap (λ w. find k (entries w)) put ∙ find-with_entry_same k v old object ∙ ap (λ (w : Value). Some w) is
written (Err e) k n new old h object = tt

others : {E : Type 0} (r : Result (Unit {0}) E) (k : List ℕ) (n new old : Value)
    → OnOk r ((v : Value) × (v ≡ n) × (new ≡ with_entry k v old))
    → OnOk r ((j : List ℕ) → j ≢ k → find j (entries new) ≡ find j (entries old))
others (Ok done) k n new old (v, is, put) =
    λ j apart. ap (λ w. find j (entries w)) put ∙ find-with_entry_other j k v old apart
others (Err e) k n new old h = tt

pub returns-clause-written : goal.returns-clause-written
returns-clause-written c =
    written _ (codes "port") (number (integer_parts (pos c.args.port))) _ _ c.insert.ensures.ok c.insert.ensures.object

pub returns-clause-others : goal.returns-clause-others
returns-clause-others c = others _ (codes "port") (number (integer_parts (pos c.args.port))) _ _ c.insert.ensures.ok
