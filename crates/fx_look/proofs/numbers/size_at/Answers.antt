use Rattle.std.proofs.Common.{◌∙◌, sym, ap, Some, w64, SFits, rules}
use Rattle.std.proofs.lemmas.Int.{to_z-of_z}
use Rattle.fx_look.proofs.NumberLemmas.{short_size}
use Rattle.fx_look.proofs.numbers.size_at.Goals as goal

pub returns-then-is_short_whole : goal.returns-then-is_short_whole
returns-then-is_short_whole c =
    let fits : SFits w64 c.from.result = search rules in
    ap Some (to_z-of_z w64 c.from.result fits ∙ c.from.ensures)
    ∙ sym (short_size c.args.text.now c.capped_number.result (sym c.is_short_whole.ensures ∙ c.if-is_short_whole.true) c.capped_number.ensures)
