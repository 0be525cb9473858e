-- the cut text has at most 4,096 characters
use Rattle.std.proofs.Common.{◌≤◌, length}
use Rattle.std.specs.Str.{chars}
use Rattle.std.specs.String.{string_bytes}
use Rattle.fx_expr.proofs.Outcomes.{if_ok}
use Rattle.fx_expr.proofs.TextLemmas.{cut_short}
use Rattle.fx_expr.proofs.meaning.cut.Goals as goal

pub returns-clause-short : goal.returns-clause-short
returns-clause-short c =
    if_ok c.joined_front.result _ (λ both. length (chars (string_bytes both)) ≤ 4096) c.joined_front.ensures
    (λ both is. rw is (cut_short 4096 c.args.left.now c.args.right.now c.utf8.left c.utf8.right))
