-- The table has the answer for each byte.
use Rattle.std.proofs.Common.{◌≡◌, ◌+◌, ◌<◌, get_or, ap, ◌∙◌, arith}
use Rattle.std.proofs.lemmas.List.FromFn.{get_or-map-range_with_len}
use Rattle.fx_text.specs.Identifiers.{is_later}
use Rattle.fx_text.proofs.identifiers.is_later.Goals as goal

pub returns-in-Some : goal.returns-in-Some
returns-in-Some c =
    let later = c.in-Some.later.now in
    let within : c.args.byte < 256 = omega (arith, c.ranges.byte.fits) in
    let here : 0 + c.args.byte ≡ c.args.byte = omega arith in
    c.in-Some.ensures.lookup.1
    ∙ ap (λ at. get_or c.later_table.result.now at later) c.from.ensures
    ∙ ap (λ table. get_or table c.args.byte later) c.later_table.ensures
    ∙ get_or-map-range_with_len is_later 0 256 c.args.byte c.args.byte later within here
