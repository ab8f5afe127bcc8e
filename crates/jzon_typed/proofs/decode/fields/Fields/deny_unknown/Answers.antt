use Rattle.std.proofs.Common.{map, not, refl, sym, ap, ◌∙◌}
use Rattle.std.specs.List.{find as first}
use Rattle.jzon.specs.PairList.{keys_of}
use Rattle.jzon.specs.Readers.{entries}
use Rattle.jzon_typed.specs.DecodeFields.{read_from}
use Rattle.jzon_pointer.specs.Names.{is_among}
use Rattle.jzon_typed.proofs.FieldSteps.{keys-seen, unknown-none, unknown-refused, unknown-some, unknown-there}
use Rattle.jzon_typed.proofs.decode.fields.Fields.deny_unknown.Goals as goal

pub returns-in-Some-clause-error : goal.returns-in-Some-clause-error
returns-in-Some-clause-error c =
    let among = is_among (map (λ n. n.now) c.args.known.now) in
    let o = c.args.self.now.object.now in
    let seen = ap (first (λ j. not (among j))) (keys-seen o) ∙ sym c.in-Some.ensures in
    c.unknown.ensures (read_from c.args.self.now) refl
    (unknown-there among (entries (read_from c.args.self.now)) c.in-Some.key.now seen)
    (unknown-refused among (keys_of (entries (read_from c.args.self.now))) c.in-Some.key.now seen)

pub returns-in-Some-clause-accepts : goal.returns-in-Some-clause-accepts
returns-in-Some-clause-accepts c =
    let among = is_among (map (λ n. n.now) c.args.known.now) in
    let o = c.args.self.now.object.now in
    let seen = ap (first (λ j. not (among j))) (keys-seen o) ∙ sym c.in-Some.ensures in (
      λ e. absurd (cc),
      λ all. sym (unknown-some among (keys_of (entries (read_from c.args.self.now))) c.in-Some.key.now seen) ∙ all,
    )

pub returns-in-None-clause-accepts : goal.returns-in-None-clause-accepts
returns-in-None-clause-accepts c =
    let among = is_among (map (λ n. n.now) c.args.known.now) in
    let o = c.args.self.now.object.now in
    let seen = ap (first (λ j. not (among j))) (keys-seen o) ∙ sym c.in-None.ensures in (
      λ e. unknown-none among (keys_of (entries (read_from c.args.self.now))) seen,
      λ all. refl,
    )
