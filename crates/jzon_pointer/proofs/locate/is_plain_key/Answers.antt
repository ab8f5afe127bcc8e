use Rattle.std.proofs.Common.{◌∙◌, ◌∷◌, ◌++◌, [], sym, ap, arith}
use Rattle.jzon_base.proofs.Common.{encode_ascii}
use Rattle.jzon_pointer.proofs.locate.is_plain_key.Goals as goal

pub returns-in_default : goal.returns-in_default
returns-in_default c = λ key e.
    absurd (c.in_default.ensures.cases (key ++ 34 ∷ [])
    (e ∙ sym (ap (λ z. z ++ (key ++ 34 ∷ [])) (encode_ascii 34 (omega arith)))))
