-- Each turn reads the front of the rest; at the end nothing is left.
-- Where a turn stops, the rest still has some reading.
use Rattle.std.proofs.Common.{◌≡◌, ℕ, ◌<◌, List, drop, length, sym, ◌∙◌, subst, arith}
use Rattle.std.proofs.lemmas.Bool.{eqb-true, eqb-false}
use Rattle.fx_css.specs.declared.parts.Numbered.{Numbered}
use Rattle.fx_css.specs.Numbered.{shown}
use Rattle.fx_css.specs.Cutting.{turn_at}
use Rattle.fx_css.proofs.Turns.{turn_shorter, read_more, read_stops, read_all}
use Rattle.fx_css.specs.declared.sheets.Form.TheVariants.{Sheet}
use Rattle.fx_css.proofs.Answered.{memory_read, stops_read}
use Rattle.fx_css.proofs.sheets.read_rules.Goals as goal

above : (n : ℕ) → (n ≡ 0 → ⊥) → 0 < n
above n h = grind (arith, h)

smaller : (rest left : List Numbered) (n : ℕ) → (length rest ≡ 0 → ⊥) → left ≡ drop n rest → drop n rest ≡ (turn_at rest).rest → length left < length rest
smaller rest left n h e f = subst (λ y. length y < length rest) (sym (e ∙ f)) (turn_shorter rest (above (length rest) h))

pub returns-in_err-with_capacity : goal.returns-in_err-with_capacity
returns-in_err-with_capacity c = memory_read Sheet (shown c.args.whole) c.from_residual.result c.from_residual.ensures.1

pub loop-rest-smaller : goal.loop-rest-smaller
loop-rest-smaller c = smaller (shown c.loop-rest.rest) (shown c.behind-rest.result) c.in_ok-taken.taken (eqb-false (length (shown c.loop-rest.rest)) 0 (sym c.loop-rest-test.ensures)) c.behind-rest.ensures c.in_ok-taken.ensures.rest

pub loop-rest-preserved : goal.loop-rest-preserved
loop-rest-preserved c =
    read_more c.loop-rest.draft.rules.items c.read_turn.new.draft.rules.items c.loop-rest.draft.warnings.items c.read_turn.new.draft.warnings.items (shown c.loop-rest.rest) (shown c.behind-rest.result) (shown c.args.whole) c.loop-rest.invariant
    (c.behind-rest.ensures ∙ c.in_ok-taken.ensures.rest) c.in_ok-taken.ensures.rules c.in_ok-taken.ensures.warnings c.in_ok-taken.ensures.within

pub returns-in_err-taken : goal.returns-in_err-taken
returns-in_err-taken c =
    stops_read (shown c.args.whole) c.from_residual-in_err-taken.result c.in_err-taken.field-0.0 c.from_residual-in_err-taken.ensures.1
    (read_stops c.loop-rest.draft.rules.items c.loop-rest.draft.warnings.items (shown c.loop-rest.rest) (shown c.args.whole) c.in_err-taken.field-0.0 c.loop-rest.invariant c.in_err-taken.ensures.limit)

pub returns : goal.returns
returns c = read_all c.loop-rest.draft.rules.items c.loop-rest.draft.warnings.items (shown c.loop-rest.rest) (shown c.args.whole) c.loop-rest.invariant (eqb-true (length (shown c.loop-rest.rest)) 0 (sym c.loop-rest-test.ensures))
