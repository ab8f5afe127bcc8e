use Rattle.std.proofs.Common.{not, sym, ap, ◌∙◌, arith, true≢false}
use Rattle.std.proofs.lemmas.Str.Pattern.{contains_char}
use Rattle.jzon_pointer.proofs.TokenSteps.{token_key-plain}
use Rattle.jzon_pointer.proofs.token.is_plain.Goals as goal

pub returns : goal.returns
returns c = λ plain.
    let token = c.args.token.now in
    let tilde = contains_char 126 token c.contains.result c.contains.ensures.cases (omega arith) in
    token_key-plain token (λ i less e. true≢false (sym plain ∙ ap not (tilde.1 i less e)))
