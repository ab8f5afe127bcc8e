use Rattle.jzon_base.proofs.Common.{◌≡◌, ◌∙◌, ◌+◌, sym, ap, length, rules, length_push, zip, iter_rest}
use Rattle.jzon_base.proofs.Entries.Zips.{zip-last}
use Rattle.jzon_base.proofs.pairs.iter.IterDoubleEndedIterator.next_back.Goals as goal

pub returns-clause-steps : goal.returns-clause-steps
returns-clause-steps g c =
    sym c.self.view_is
    ∙ zip-last c.self.inside.keys c.next_back.new.self (iter_rest c.self.inside.values)
    (iter_rest c.next_back-2.new.self) c.in_ok-next_back.field-0.now c.in_ok-next_back-2.field-0.now c.in_ok-next_back.ensures.steps
    c.in_ok-next_back-2.ensures.steps c.self.invariant

pub returns-clause-goes : goal.returns-clause-goes
returns-clause-goes g c =
    let left = zip c.next_back.new.self (iter_rest c.next_back-2.new.self) in
    let shorter : length c.args.self.now ≡ length left + 1 = ap length (returns-clause-steps g c)
    ∙ length_push left (c.in_ok-next_back.field-0.now, c.in_ok-next_back-2.field-0.now) in
    search (rules, shorter)
