use Rattle.std.proofs.Common.{length, arith, Err, subst, sym, ap, List, ℕ}
use Rattle.std.specs.Prelude.{chars}
use Rattle.std.specs.Str.{IsCharBoundary}
use Rattle.fx_shapes.proofs.TextLemmas.{few_chars}
use Rattle.fx_shapes.proofs.letters.piece_of.Goals as goal

pub unreachable-requires : goal.unreachable-requires
unreachable-requires c =
    let text = sym c.as_str-text.ensures.text in
    let start = subst (λ (t : List ℕ). IsCharBoundary t c.args.range.0) text c.requires.start in
    let end = subst (λ (t : List ℕ). IsCharBoundary t c.args.range.1) text c.requires.end in
    let few = few_chars c.as_str-text.result.now c.args.range.0 c.args.range.1 c.as_str-text.utf8 c.requires.order start end in
    let same = ap (λ (t : List ℕ). length (chars t)) c.range.ensures.value in
    omega (arith, few, same, c.as_str-text.ensures.short, c.in-Err-TooLong.ensures.too_long.0 (ap Err c.in-Err-TooLong.field-0-is))
