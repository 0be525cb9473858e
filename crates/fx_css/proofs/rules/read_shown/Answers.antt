-- What is left over, or a rule: each clause is the turn's.
-- A rule's clauses speak of its reading.
use Rattle.std.proofs.Common.{◌≡◌, ℕ, ◌+◌, ◌^◌, ◌<◌, ◌≤◌, ◌++◌, drop, map, length, sym, ◌∙◌, ap, subst, append-nil, arith}
use Rattle.std.proofs.lemmas.List.{drop-drop}
use Rattle.fx_css.specs.declared.parts.Part.{Part}
use Rattle.fx_css.specs.Numbered.{shown}
use Rattle.fx_css.specs.Rules.{past_rules}
use Rattle.fx_css.specs.Cutting.{Turn, shown_turn, rule_turn, block_length}
use Rattle.fx_css.specs.Sheets.{IsStop}
use Rattle.fx_css.proofs.NumberedLemmas.{length_shown}
use Rattle.fx_css.proofs.Bodies.{passed}
use Rattle.fx_css.proofs.Shown.{leftover_is, rule_is, kept_is}
use Rattle.fx_css.proofs.rules.read_shown.Goals as goal

pub returns-then-at-len-clause-rules : goal.returns-then-at-len-clause-rules
returns-then-at-len-clause-rules c =
    let e = leftover_is c.args.start (shown c.args.part) c.opening-at.result c.opening-at.ensures.at (c.if-at-len.true ∙ c.len.ensures) in
    sym (ap (λ (t : Turn). c.args.draft.now.rules.items ++ map (λ r. r.rule) t.readings) e ∙ append-nil c.args.draft.now.rules.items)

pub returns-then-at-len-clause-warnings : goal.returns-then-at-len-clause-warnings
returns-then-at-len-clause-warnings c =
    let e = leftover_is c.args.start (shown c.args.part) c.opening-at.result c.opening-at.ensures.at (c.if-at-len.true ∙ c.len.ensures) in
    c.in_ok-push.ensures.items ∙ sym (ap (λ (t : Turn). c.args.draft.now.warnings.items ++ t.warnings) e)

pub returns-then-at-len-clause-within : goal.returns-then-at-len-clause-within
returns-then-at-len-clause-within c =
    let e = leftover_is c.args.start (shown c.args.part) c.opening-at.result c.opening-at.ensures.at (c.if-at-len.true ∙ c.len.ensures) in
    ap (λ (t : Turn). past_rules (length c.args.draft.now.rules.items) t.readings) e

pub returns-in_err-read_rule-clause-limit : goal.returns-in_err-read_rule-clause-limit
returns-in_err-read_rule-clause-limit c =
    let e = kept_is c.args.start (shown c.args.part) (shown c.front-heading.result) (shown c.behind-rest.result) (shown c.front.result) c.text.result.now c.opening-at.result c.closing-end.result c.in_ok-selectors.field-0 c.in-Some.selectors c.opening-at.ensures.at (λ e. c.if-at-len.false (e ∙ sym c.len.ensures)) c.front-heading.ensures c.behind-rest.ensures c.text.ensures c.in_ok-selectors.ensures c.in-Some.is c.closing-end.ensures.at c.front.ensures in
    passed (past_rules (length c.args.draft.now.rules.items) (shown_turn c.args.start (shown c.args.part)).readings) c.from_residual-in_err-read_rule.result c.in_err-read_rule.field-0.0 c.from_residual-in_err-read_rule.ensures.1
    (subst (λ (t : Turn). IsStop (past_rules (length c.args.draft.now.rules.items) t.readings) c.in_err-read_rule.field-0.0) (sym e) c.in_err-read_rule.ensures.limit)

pub returns-clause-rest : goal.returns-clause-rest
returns-clause-rest c =
    let e = kept_is c.args.start (shown c.args.part) (shown c.front-heading.result) (shown c.behind-rest.result) (shown c.front.result) c.text.result.now c.opening-at.result c.closing-end.result c.in_ok-selectors.field-0 c.in-Some.selectors c.opening-at.ensures.at (λ e. c.if-at-len.false (e ∙ sym c.len.ensures)) c.front-heading.ensures c.behind-rest.ensures c.text.ensures c.in_ok-selectors.ensures c.in-Some.is c.closing-end.ensures.at c.front.ensures in
    sym (ap (λ (t : Turn). t.rest) e ∙ (ap (λ y. drop (c.closing-end.result + 1) y) c.behind-rest.ensures ∙ drop-drop (c.closing-end.result + 1) (c.opening-at.result + 1) (shown c.args.part)))

pub returns-clause-rules : goal.returns-clause-rules
returns-clause-rules c =
    let e = kept_is c.args.start (shown c.args.part) (shown c.front-heading.result) (shown c.behind-rest.result) (shown c.front.result) c.text.result.now c.opening-at.result c.closing-end.result c.in_ok-selectors.field-0 c.in-Some.selectors c.opening-at.ensures.at (λ e. c.if-at-len.false (e ∙ sym c.len.ensures)) c.front-heading.ensures c.behind-rest.ensures c.text.ensures c.in_ok-selectors.ensures c.in-Some.is c.closing-end.ensures.at c.front.ensures in
    c.in_ok-read_rule.ensures.rules ∙ sym (ap (λ (t : Turn). c.args.draft.now.rules.items ++ map (λ r. r.rule) t.readings) e)

pub returns-clause-warnings : goal.returns-clause-warnings
returns-clause-warnings c =
    let e = kept_is c.args.start (shown c.args.part) (shown c.front-heading.result) (shown c.behind-rest.result) (shown c.front.result) c.text.result.now c.opening-at.result c.closing-end.result c.in_ok-selectors.field-0 c.in-Some.selectors c.opening-at.ensures.at (λ e. c.if-at-len.false (e ∙ sym c.len.ensures)) c.front-heading.ensures c.behind-rest.ensures c.text.ensures c.in_ok-selectors.ensures c.in-Some.is c.closing-end.ensures.at c.front.ensures in
    c.in_ok-read_rule.ensures.warnings ∙ sym (ap (λ (t : Turn). c.args.draft.now.warnings.items ++ t.warnings) e)

pub returns-clause-within : goal.returns-clause-within
returns-clause-within c =
    let e = kept_is c.args.start (shown c.args.part) (shown c.front-heading.result) (shown c.behind-rest.result) (shown c.front.result) c.text.result.now c.opening-at.result c.closing-end.result c.in_ok-selectors.field-0 c.in-Some.selectors c.opening-at.ensures.at (λ e. c.if-at-len.false (e ∙ sym c.len.ensures)) c.front-heading.ensures c.behind-rest.ensures c.text.ensures c.in_ok-selectors.ensures c.in-Some.is c.closing-end.ensures.at c.front.ensures in
    ap (λ (t : Turn). past_rules (length c.args.draft.now.rules.items) t.readings) e ∙ c.in_ok-read_rule.ensures.within

pub returns-in_default-clause-rest : goal.returns-in_default-clause-rest
returns-in_default-clause-rest c =
    let e = rule_is c.args.start (shown c.args.part) (shown c.front-heading.result) (shown c.behind-rest.result) c.text.result.now c.opening-at.result c.in_ok-selectors.field-0 c.opening-at.ensures.at (λ e. c.if-at-len.false (e ∙ sym c.len.ensures)) c.front-heading.ensures c.behind-rest.ensures c.text.ensures c.in_ok-selectors.ensures ∙ ap (λ y. rule_turn c.args.start (shown c.front-heading.result) (shown c.behind-rest.result) y) c.in_default.is in
    sym (ap (λ (t : Turn). t.rest) e
    ∙ (ap (λ y. drop (block_length 0 (shown c.behind-rest.result)) y) c.behind-rest.ensures
    ∙ (drop-drop (block_length 0 (shown c.behind-rest.result)) (c.opening-at.result + 1) (shown c.args.part)
    ∙ ap (λ y. drop (c.opening-at.result + 1 + y) (shown c.args.part)) (sym c.block_length.ensures.length))))

pub returns-in_default-clause-rules : goal.returns-in_default-clause-rules
returns-in_default-clause-rules c =
    let e = rule_is c.args.start (shown c.args.part) (shown c.front-heading.result) (shown c.behind-rest.result) c.text.result.now c.opening-at.result c.in_ok-selectors.field-0 c.opening-at.ensures.at (λ e. c.if-at-len.false (e ∙ sym c.len.ensures)) c.front-heading.ensures c.behind-rest.ensures c.text.ensures c.in_ok-selectors.ensures ∙ ap (λ y. rule_turn c.args.start (shown c.front-heading.result) (shown c.behind-rest.result) y) c.in_default.is in
    sym (ap (λ (t : Turn). c.args.draft.now.rules.items ++ map (λ r. r.rule) t.readings) e ∙ append-nil c.args.draft.now.rules.items)

pub returns-in_default-clause-warnings : goal.returns-in_default-clause-warnings
returns-in_default-clause-warnings c =
    let e = rule_is c.args.start (shown c.args.part) (shown c.front-heading.result) (shown c.behind-rest.result) c.text.result.now c.opening-at.result c.in_ok-selectors.field-0 c.opening-at.ensures.at (λ e. c.if-at-len.false (e ∙ sym c.len.ensures)) c.front-heading.ensures c.behind-rest.ensures c.text.ensures c.in_ok-selectors.ensures ∙ ap (λ y. rule_turn c.args.start (shown c.front-heading.result) (shown c.behind-rest.result) y) c.in_default.is in
    c.in_ok-push-2.ensures.items ∙ sym (ap (λ (t : Turn). c.args.draft.now.warnings.items ++ t.warnings) e)

pub returns-in_default-clause-within : goal.returns-in_default-clause-within
returns-in_default-clause-within c =
    let e = rule_is c.args.start (shown c.args.part) (shown c.front-heading.result) (shown c.behind-rest.result) c.text.result.now c.opening-at.result c.in_ok-selectors.field-0 c.opening-at.ensures.at (λ e. c.if-at-len.false (e ∙ sym c.len.ensures)) c.front-heading.ensures c.behind-rest.ensures c.text.ensures c.in_ok-selectors.ensures ∙ ap (λ y. rule_turn c.args.start (shown c.front-heading.result) (shown c.behind-rest.result) y) c.in_default.is in
    ap (λ (t : Turn). past_rules (length c.args.draft.now.rules.items) t.readings) e

short : (at end part rest : ℕ) → at ≤ part → (at ≡ part → ⊥) → end ≤ rest → part < 2 ^ 63 → rest < 2 ^ 63 → at + 1 + (end + 1) < 2 ^ 64
short at end part rest a n e p r = grind (arith, n)

shorter : (part : Part) → part.number + length part.bytes.now < 2 ^ 63 → length (shown part) < 2 ^ 63
shorter part h = omega (arith, length_shown part, h)

pub overflow_add-result-4 : goal.overflow_add-result-4
overflow_add-result-4 c =
    let h = short c.opening-at.result c.closing-end.result (length (shown c.args.part)) (length (shown c.behind-rest.result)) c.opening-at.ensures.within (λ e. c.if-at-len.false (e ∙ sym c.len.ensures)) c.closing-end.ensures.within
    (shorter c.args.part c.args.part.within) (shorter c.behind-rest.result c.behind-rest.result.within) in
    omega (arith, h)
