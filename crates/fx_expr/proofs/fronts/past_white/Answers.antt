use Rattle.fx_expr.proofs.RunLemmas.{low_white, run_behind, run_ends}
use Rattle.fx_expr.proofs.fronts.past_white.Goals as goal

pub split_at-requires : goal.split_at-requires
split_at-requires c = run_ends _ low_white c.args.text.now c.white_count.result
    (rw c.as_bytes.ensures.value at c.white_count.ensures.count)
    (rw c.as_bytes.ensures.value at c.white_count.ensures.within) c.utf8.text

pub returns : goal.returns
returns c = run_behind _ low_white c.args.text.now _ c.white_count.result
    (rw c.as_bytes.ensures.value at c.white_count.ensures.count) c.utf8.text c.split_at.ensures.back
