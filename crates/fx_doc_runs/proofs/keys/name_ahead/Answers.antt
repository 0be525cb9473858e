use Rattle.std.proofs.Common.{arith, sym, ◌∙◌}
use Rattle.fx_doc_runs.proofs.Keying.{name_is}
use Rattle.fx_doc_runs.proofs.keys.name_ahead.Goals as goal

pub returns : goal.returns
returns c = name_is c.args.text.now c.as_bytes.result.now c.in_ok-name.name.now c.in_ok-name.rest.now c.name_length-count.result c.name_length-count.ensures.count c.as_bytes.ensures.value c.in_ok-name.ensures.front c.in_ok-name.ensures.back
    (sym c.begins_name.ensures ∙ c.if-not-begins_name.false) (omega (
      arith,
      c.in_ok-name.ensures.front_len,
      c.if-count-gt-TEXT_LIMIT.false,
    ))
