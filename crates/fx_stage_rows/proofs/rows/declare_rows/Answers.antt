use Rattle.std.proofs.Common.{Result, Ok, Err, OnErr}
use Rattle.fx_stage_rows.proofs.RowLemmas.{first_passed}
use Rattle.fx_stage_rows.proofs.rows.declare_rows.Goals as goal

on_err : {T E P : Type 0} (result : Result T E) → P → OnErr result P
on_err (Ok value) holds = tt
on_err (Err error) holds = holds

pub returns-in_err-declare_all-clause-err : goal.returns-in_err-declare_all-clause-err
returns-in_err-declare_all-clause-err c =
    on_err c.from_residual.result
    (first_passed c.args.class c.args.store.now c.declare_all.new.self c.declare_all.ensures.first)
