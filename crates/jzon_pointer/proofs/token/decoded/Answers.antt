use Rattle.std.proofs.Common.{Some, ◌∷◌, [], ◌++◌, option_map, sym, ap, ◌∙◌, arith, rules}
use Rattle.std.proofs.lemmas.Str.Pattern.{split_parts, strip_prefix_char}
use Rattle.jzon_pointer.specs.Pointer.{after_tilde}
use Rattle.jzon_pointer.proofs.TokenSteps.{escape-read, escape-refused, bad-escape, token_key-plain}
use Rattle.jzon_pointer.proofs.token.decoded.Goals as goal

pub escapes-preserved-in-Some-strip_prefix : goal.escapes-preserved-in-Some-strip_prefix
escapes-preserved-in-Some-strip_prefix c =
    let rest = c.escapes.rest.now in
    let after = c.in-Some.after.now in
    let cut = rw c.in-Some.is at (split_parts 126 rest c.split_once.result c.split_once.ensures.cases (omega arith)) in
    let zero = rw c.in-Some-strip_prefix.is at (strip_prefix_char 48 after c.strip_prefix.result c.strip_prefix.ensures.cases (omega arith)) in
    let made = c.push-in-Some-strip_prefix.ensures c.if-not-push-2.false
    ∙ ap (λ bs. bs ++ 126 ∷ []) (c.push.ensures c.if-not-push.false) in (
      escape-read c.args.token.now c.escapes.key.bytes rest c.in-Some.plain.now after
          c.in-Some-strip_prefix.more.now _ 126 c.escapes.invariant.0 cut.0 cut.1 (ap after_tilde zero) made,
      search rules,
    )

pub escapes-preserved : goal.escapes-preserved
escapes-preserved c =
    let rest = c.escapes.rest.now in
    let after = c.in-Some.after.now in
    let cut = rw c.in-Some.is at (split_parts 126 rest c.split_once.result c.split_once.ensures.cases (omega arith)) in
    let one = rw c.in-Some-strip_prefix-2.is at (strip_prefix_char 49 after c.strip_prefix-in_default-strip_prefix.result c.strip_prefix-in_default-strip_prefix.ensures.cases (omega arith)) in
    let made = c.push-in-Some-strip_prefix-2.ensures c.if-not-push-3.false
    ∙ ap (λ bs. bs ++ 47 ∷ []) (c.push.ensures c.if-not-push.false) in (
      escape-read c.args.token.now c.escapes.key.bytes rest c.in-Some.plain.now after
          c.in-Some-strip_prefix-2.more.now _ 47 c.escapes.invariant.0 cut.0 cut.1 (ap after_tilde one) made,
      search rules,
    )

pub returns-in_default-strip_prefix-2 : goal.returns-in_default-strip_prefix-2
returns-in_default-strip_prefix-2 c =
    let rest = c.escapes.rest.now in
    let after = c.in-Some.after.now in
    let cut = rw c.in-Some.is at (split_parts 126 rest c.split_once.result c.split_once.ensures.cases (omega arith)) in
    let zero = rw c.in_default-strip_prefix.is at (strip_prefix_char 48 after c.strip_prefix.result c.strip_prefix.ensures.cases (omega arith)) in
    let one = rw c.in_default-strip_prefix-2.is at (strip_prefix_char 49 after c.strip_prefix-in_default-strip_prefix.result c.strip_prefix-in_default-strip_prefix.ensures.cases (omega arith)) in
    sym (escape-refused c.args.token.now c.escapes.key.bytes rest c.in-Some.plain.now after
    c.escapes.invariant.0 cut.0 cut.1 (bad-escape after zero one))

pub returns : goal.returns
returns c =
    let rest = c.escapes.rest.now in
    let lacks = rw c.in_default.is at (split_parts 126 rest c.split_once.result c.split_once.ensures.cases (omega arith)) in
    ap (λ bs. Some bs) (c.push-2.ensures c.if-not-push-4.false)
    ∙ sym (c.escapes.invariant.0 ∙ ap (option_map (λ k. c.escapes.key.bytes ++ k)) (token_key-plain rest lacks))
