-- one sheet more, one that is refused, and no more
use Rattle.std.proofs.Common.{◌∙◌, arith}
use Rattle.fx_load_parts.proofs.SheetLemmas.{ends, goes_on, told_on}
use Rattle.fx_load_parts.proofs.sheets.read_sheets.Goals as goal

pub returns-in_err-fetch_sheet-clause-says : goal.returns-in_err-fetch_sheet-clause-says
returns-in_err-fetch_sheet-clause-says g c = λ files e.
    told_on files c.args.names.now c.loop-file.file c.index-names-file.result c.as_str.result.now
    c.loop-file.sheets.items c.in_err-fetch_sheet.field-0.0 c.from_residual.result c.loop-file-test.true c.index-names-file.is
    c.as_str.ensures (c.in_err-fetch_sheet.ensures.says files (c.loop-file.invariant.held ∙ e))
    (c.loop-file.invariant.completes files e) c.from_residual.ensures.1

pub loop-file-preserved : goal.loop-file-preserved
loop-file-preserved g c = record {
  held = c.fetch_sheet.ensures.held ∙ c.loop-file.invariant.held;
  later = omega (arith, c.fetch_sheet.ensures.cause.later, c.loop-file.invariant.later);
  completes = λ files e.
      goes_on files c.args.names.now c.loop-file.file c.index-names-file.result c.loop-file.sheets.items c.push.new.self.items
      c.in_ok-fetch_sheet.field-0 c.loop-file-test.true c.index-names-file.is
      (rw c.as_str.ensures at (c.in_ok-fetch_sheet.ensures.says files (c.loop-file.invariant.held ∙ e)))
      c.in_ok-push.ensures.items (c.loop-file.invariant.completes files e);
}

pub returns-clause-says : goal.returns-clause-says
returns-clause-says g c = λ files e.
    ends files c.args.names.now c.loop-file.file c.loop-file.sheets.items c.loop-file-test.false
    (c.loop-file.invariant.completes files e)
