-- refused for its depth or its operands
use Rattle.std.proofs.Common.{◌<◌, length, sym, ◌∙◌, arith}
use Rattle.std.specs.Str.{chars}
use Rattle.fx_expr.specs.Tree.{tree}
use Rattle.fx_expr.proofs.ReadingLemmas.{refused_deep, refused_many}
use Rattle.fx_expr.proofs.reading.parsed.Goals as goal

pub returns-in-Err-Refused-whole : goal.returns-in-Err-Refused-whole
returns-in-Err-Refused-whole c =
    refused_deep (chars c.args.text.now) c.in-Ok.tokens.items c.in_ok-paths.paths.items c.in-Ok.ensures
    (rw c.as_slice.ensures.value at (sym c.is_expression.ensures ∙ c.if-not-is_expression.false))
    (rw (c.in-Err-Refused-whole.field-0-is, c.as_slice-3.ensures.value, c.as_slice-4.ensures.value) at c.in-Err-Refused-whole.ensures)

pub returns-then-len-gt-PATH_LIMIT : goal.returns-then-len-gt-PATH_LIMIT
returns-then-len-gt-PATH_LIMIT c =
    let long : 256 < length c.in_ok-paths.paths.items = omega (arith, c.len.ensures, c.if-len-gt-PATH_LIMIT.true) in
    refused_many (chars c.args.text.now) c.in-Ok.tokens.items c.in_ok-paths.paths.items (tree c.in-Ok-whole.expr) c.in-Ok.ensures
    (rw c.as_slice.ensures.value at (sym c.is_expression.ensures ∙ c.if-not-is_expression.false))
    (rw (c.as_slice-3.ensures.value, c.as_slice-4.ensures.value) at c.in-Ok-whole.ensures)
    (rw c.as_slice-2.ensures.value at (c.in_ok-paths.ensures.many long))
