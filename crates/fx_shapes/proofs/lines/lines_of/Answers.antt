use Rattle.std.proofs.Common.{List, [], ℕ, length, subst, ◌∷◌, arith}
use Rattle.std.proofs.lemmas.List.Elements.{All-nil, All-cons, All-same}
use Rattle.std.proofs.lemmas.Str.{IsCharBoundary-start, IsCharBoundary-end}
use Rattle.fx_shapes.specs.Letters.{IsPiece}
use Rattle.fx_shapes.proofs.lines.lines_of.Goals as goal

pub returns-clause-pieces : goal.returns-clause-pieces
returns-clause-pieces c =
    let text = c.as_str-text.result.now in
    let whole : IsPiece text (0, length text) = record {
      order = omega arith;
      start = IsCharBoundary-start text c.as_str-text.utf8;
      end = IsCharBoundary-end text;
    } in
    let here = subst (λ (t : List ℕ). IsPiece t (0, length text)) c.as_str-text.ensures.text whole in
    All-same (IsPiece c.args.text.now) c.in_ok-whole.whole.items ((0, length text) ∷ []) c.in_ok-whole.ensures.items
    (All-cons (IsPiece c.args.text.now) (0, length text) [] here (All-nil (IsPiece c.args.text.now)))
