use Rattle.std.proofs.Common.{arith, take, sym, ◌∙◌, ap}
use Rattle.fx_doc_runs.proofs.Flowing.{blank_in, found_in}
use Rattle.fx_doc_runs.proofs.runs.first_of.Goals as goal

pub returns-then-count-piece : goal.returns-then-count-piece
returns-then-count-piece c = blank_in c.args.piece.now c.as_bytes.result.now c.args.position
    c.white_length-count.result c.white_length-count.ensures.count c.as_bytes.ensures.value (omega (
      arith,
      c.if-count-piece.true,
    ))

pub returns : goal.returns
returns c = found_in c.args.piece.now c.as_bytes.result.now (take c.white_length-count.result c.as_bytes-2.result.now)
    c.args.position c.after_bytes.result c.white_length-count.result c.requires.low c.white_length-count.ensures.count
    c.as_bytes.ensures.value
    (λ e. omega (arith, e, c.if-count-piece.false)) (ap (take c.white_length-count.result) (c.as_bytes-2.ensures.value
    ∙ sym c.as_bytes.ensures.value)) c.after_bytes.ensures
