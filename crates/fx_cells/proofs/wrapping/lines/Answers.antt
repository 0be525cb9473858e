-- Each turn takes the first line off what is left.
-- The places stay within the text, and what is left begins at a character.
use Rattle.std.proofs.Common.{◌+◌, ◌<◌, length, drop, sym, subst, arith}
use Rattle.std.proofs.lemmas.Str.{IsCharBoundary-from_drop}
use Rattle.std.specs.Str.{chars}
use Rattle.fx_cells.specs.Wrapping.{IsWrapping}
use Rattle.fx_cells.proofs.Cutting.{Wrapped, cut_in, wrapped_more, wrapped_all}
use Rattle.fx_cells.proofs.Standing.{all_lines}
use Rattle.fx_cells.proofs.wrapping.lines.Goals as goal

pub overflow_add-start : goal.overflow_add-start
overflow_add-start c =
    let cut = c.first_line-cut.ensures in
    let i = cut_in _ _ _ _ _ c.loop-ranges.invariant.0 cut.2 in
    let order = i.order in
    let within = i.rest.within in
    let place = c.loop-ranges.invariant.1.place in
    omega arith

pub returns-then-cut-rest : goal.returns-then-cut-rest
returns-then-cut-rest c =
    let cut = c.first_line-cut.ensures in
    let i = cut_in _ _ _ _ _ c.loop-ranges.invariant.0 cut.2 in
    let all =
    subst (λ rs. IsWrapping c.args.columns (chars c.args.text.now) rs) (sym c.in_ok-push.ensures.items)
    (wrapped_all _ _ _ _ _ _ _ _ cut.2 i c.if-cut-rest.true c.loop-ranges.invariant.1) in
    record { wrapping = all; standing = all_lines _ _ _ c.utf8.text all }

pub overflow_add-start-in-loop-ranges : goal.overflow_add-start-in-loop-ranges
overflow_add-start-in-loop-ranges c =
    let cut = c.first_line-cut.ensures in
    let i = cut_in _ _ _ _ _ c.loop-ranges.invariant.0 cut.2 in
    let within = i.rest.within in
    let place = c.loop-ranges.invariant.1.place in
    omega arith

pub range_from-rest-requires : goal.range_from-rest-requires
range_from-rest-requires c =
    let cut = c.first_line-cut.ensures in
    let i = cut_in _ _ _ _ _ c.loop-ranges.invariant.0 cut.2 in
    λ h. IsCharBoundary-from_drop _ _ i.rest.within i.rest.text

pub loop-ranges-smaller : goal.loop-ranges-smaller
loop-ranges-smaller c =
    let cut = c.first_line-cut.ensures in
    let i = cut_in _ _ _ _ _ c.loop-ranges.invariant.0 cut.2 in
    let within = i.rest.within in
    let before : c.first_line-cut.result.next < length c.loop-ranges.rest.now = omega arith in
    let some : 0 < c.first_line-cut.result.next = i.some (omega arith) in
    let len = c.range_from-rest.ensures.len in
    omega arith

pub loop-ranges-preserved : goal.loop-ranges-preserved
loop-ranges-preserved c =
    let cut = c.first_line-cut.ensures in
    let i = cut_in _ _ _ _ _ c.loop-ranges.invariant.0 cut.2 in
    let within = i.rest.within in
    let before : c.first_line-cut.result.next < length c.loop-ranges.rest.now = omega arith in (
      c.range_from-rest.utf8,
      subst (λ rest. Wrapped c.args.columns c.args.text.now rest (c.loop-ranges.start + c.first_line-cut.result.next) c.push.new.self.items) (sym c.range_from-rest.ensures.value)
          (subst (λ rs. Wrapped c.args.columns c.args.text.now (drop c.first_line-cut.result.next c.loop-ranges.rest.now) (c.loop-ranges.start + c.first_line-cut.result.next) rs) (sym c.in_ok-push.ensures.items)
          (wrapped_more _ _ _ _ _ _ _ _ cut.2 i before c.loop-ranges.invariant.1)),
    )
