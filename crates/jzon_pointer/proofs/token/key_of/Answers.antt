use Rattle.std.proofs.Common.{Some, ◌∷◌, [], ◌++◌, option_map, string_bytes, sym, ap, ◌∙◌, arith, rules}
use Rattle.std.proofs.lemmas.Str.Pattern.{split_parts, strip_prefix_char}
use Rattle.jzon_pointer.specs.Pointer.{after_tilde}
use Rattle.jzon_pointer.proofs.TokenSteps.{escape-read, escape-refused, bad-escape, token_key-plain}
use Rattle.jzon_pointer.proofs.token.key_of.Goals as goal

pub escapes-preserved-in-Some-strip_prefix : goal.escapes-preserved-in-Some-strip_prefix
escapes-preserved-in-Some-strip_prefix c =
    let rest = c.escapes.rest.now in
    let after = c.in-Some.after.now in
    let cut = rw c.in-Some.is at (split_parts 126 rest c.split_once.result c.split_once.ensures.cases (omega arith)) in
    let zero = rw c.in-Some-strip_prefix.is at (strip_prefix_char 48 after c.strip_prefix.result c.strip_prefix.ensures.cases (omega arith)) in
    let made = c.in_ok-push.ensures.bytes
    ∙ ap (λ bs. string_bytes c.push_str.new.self ++ bs) (c.in_ok-push.ensures.ascii (omega arith))
    ∙ ap (λ bs. bs ++ 126 ∷ []) c.in_ok-push_str.ensures.bytes in (
      escape-read c.args.token.now (string_bytes c.escapes.key) rest c.in-Some.plain.now after
          c.in-Some-strip_prefix.more.now _ 126 c.escapes.invariant.0 cut.0 cut.1 (ap after_tilde zero) made,
      search rules,
    )

pub escapes-preserved : goal.escapes-preserved
escapes-preserved c =
    let rest = c.escapes.rest.now in
    let after = c.in-Some.after.now in
    let cut = rw c.in-Some.is at (split_parts 126 rest c.split_once.result c.split_once.ensures.cases (omega arith)) in
    let one = rw c.in-Some-strip_prefix-2.is at (strip_prefix_char 49 after c.strip_prefix-in_default-strip_prefix.result c.strip_prefix-in_default-strip_prefix.ensures.cases (omega arith)) in
    let made = c.in_ok-push-2.ensures.bytes
    ∙ ap (λ bs. string_bytes c.push_str.new.self ++ bs) (c.in_ok-push-2.ensures.ascii (omega arith))
    ∙ ap (λ bs. bs ++ 47 ∷ []) c.in_ok-push_str.ensures.bytes in (
      escape-read c.args.token.now (string_bytes c.escapes.key) rest c.in-Some.plain.now after
          c.in-Some-strip_prefix-2.more.now _ 47 c.escapes.invariant.0 cut.0 cut.1 (ap after_tilde one) made,
      search rules,
    )

pub returns-in_default-strip_prefix-2 : goal.returns-in_default-strip_prefix-2
returns-in_default-strip_prefix-2 c =
    let rest = c.escapes.rest.now in
    let after = c.in-Some.after.now in
    let cut = rw c.in-Some.is at (split_parts 126 rest c.split_once.result c.split_once.ensures.cases (omega arith)) in
    let zero = rw c.in_default-strip_prefix.is at (strip_prefix_char 48 after c.strip_prefix.result c.strip_prefix.ensures.cases (omega arith)) in
    let one = rw c.in_default-strip_prefix-2.is at (strip_prefix_char 49 after c.strip_prefix-in_default-strip_prefix.result c.strip_prefix-in_default-strip_prefix.ensures.cases (omega arith)) in
    sym (escape-refused c.args.token.now (string_bytes c.escapes.key) rest c.in-Some.plain.now after
    c.escapes.invariant.0 cut.0 cut.1 (bad-escape after zero one))

pub returns : goal.returns
returns c =
    let rest = c.escapes.rest.now in
    let lacks = rw c.in_default.is at (split_parts 126 rest c.split_once.result c.split_once.ensures.cases (omega arith)) in
    ap (λ bs. Some bs) c.in_ok-push_str-2.ensures.bytes
    ∙ sym (c.escapes.invariant.0 ∙ ap (option_map (λ k. string_bytes c.escapes.key ++ k)) (token_key-plain rest lacks))
