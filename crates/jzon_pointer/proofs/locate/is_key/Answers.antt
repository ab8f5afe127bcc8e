use Rattle.std.proofs.Common.{◌∙◌, arith, false, sym, true≢false}
use Rattle.std.proofs.lemmas.Result.{IfOk-weaker}
use Rattle.std.proofs.lemmas.Str.Pattern.{contains_char}
use Rattle.jzon_pointer.proofs.LocateQuotes.{names_plain, reads_none, reads_quoted}
use Rattle.jzon_pointer.proofs.locate.is_key.Goals as goal

pub returns-in_default-clause-names : goal.returns-in_default-clause-names
returns-in_default-clause-names c =
    reads_none c.args.text.now c.args.start c.args.end c.args.token.now false c.in_default.ensures.cases

pub returns-then-contains-clause-names : goal.returns-then-contains-clause-names
returns-then-contains-clause-names c =
    IfOk-weaker c.is_escaped_key.result _ _ (λ is named. reads_quoted c.args.text.now c.args.start c.args.end c.args.token.now
    c.in-Some.quoted.now is c.in-Some.ensures.cases.0 named) c.is_escaped_key.ensures.names

pub returns-clause-names : goal.returns-clause-names
returns-clause-names c =
    let quoted = c.in-Some.quoted.now in
    let found = contains_char 92 quoted c.contains.result c.contains.ensures.cases (omega arith) in
    reads_quoted c.args.text.now c.args.start c.args.end c.args.token.now quoted c.is_plain_key.result
    c.in-Some.ensures.cases.0
    (names_plain quoted c.args.token.now c.is_plain_key.result
    (λ i less e. true≢false (sym (found.1 i less e) ∙ c.if-contains.false)) c.is_plain_key.ensures)
