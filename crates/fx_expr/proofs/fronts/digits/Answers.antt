use Rattle.fx_expr.proofs.RunLemmas.{low_digit, run_behind, run_ends, run_front}
use Rattle.fx_expr.proofs.fronts.digits.Goals as goal

pub split_at-requires : goal.split_at-requires
split_at-requires c = run_ends _ low_digit c.args.text.now c.digit_count.result
    (rw c.as_bytes.ensures.value at c.digit_count.ensures.count)
    (rw c.as_bytes.ensures.value at c.digit_count.ensures.within) c.utf8.text

pub returns-clause-digits : goal.returns-clause-digits
returns-clause-digits c = run_front _ low_digit c.args.text.now _ c.digit_count.result
    (rw c.as_bytes.ensures.value at c.digit_count.ensures.count) c.utf8.text c.split_at.ensures.front

pub returns-clause-rest : goal.returns-clause-rest
returns-clause-rest c = run_behind _ low_digit c.args.text.now _ c.digit_count.result
    (rw c.as_bytes.ensures.value at c.digit_count.ensures.count) c.utf8.text c.split_at.ensures.back
