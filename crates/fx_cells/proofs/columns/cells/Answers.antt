-- Each turn takes the next character of the text.
-- The sum fits, since a text has no more cells than bytes.
use Rattle.std.proofs.Common.{◌≡◌, ℕ, ◌+◌, ◌<◌, ◌≤◌, List, length, get_or, drop, sym, ap, subst, ◌∙◌, arith}
use Rattle.std.proofs.lemmas.Iterator.{YieldsList-from_chars}
use Rattle.std.proofs.lemmas.List.{at_drop_all, length_push}
use Rattle.std.proofs.lemmas.List.Sums.{sum_by-drop_more}
use Rattle.std.proofs.lemmas.Iterator.Consumers.{YieldsList-turn, YieldsList-end}
use Rattle.std.proofs.lemmas.Str.{encodes-chars}
use Rattle.std.specs.Str.{chars}
use Rattle.fx_cells.specs.Columns.{cell_width, cells_of}
use Rattle.fx_cells.proofs.Widths.{cells_of-le}
use Rattle.fx_cells.proofs.columns.cells.Goals as goal

-- one more character of what is left
one_more : (cs : List ℕ) (n c : ℕ) → (n < length cs) × (c ≡ get_or cs n c) → cells_of (drop n cs) ≡ cell_width c + cells_of (drop (n + 1) cs)
one_more cs n c h = sum_by-drop_more cell_width cs n c h.0 ∙ ap (λ x. cell_width x + cells_of (drop (n + 1) cs)) (sym h.1)

pub overflow_add-total : goal.overflow_add-total
overflow_add-total c =
    let t = YieldsList-turn (YieldsList-from_chars c.args.text.now c.utf8.text cc) c.loop-c.yielded _ c.loop-c.yielded_by _ _ c.in-Some.c c.in-Some.is c.next.ensures.steps in
    let e = one_more _ _ _ t in
    let most : cells_of (chars c.args.text.now) ≤ length c.args.text.now = subst (λ n. cells_of (chars c.args.text.now) ≤ n) (ap length (encodes-chars c.args.text.now c.utf8.text)) (cells_of-le (chars c.args.text.now)) in
    omega arith

pub loop-c-preserved : goal.loop-c-preserved
loop-c-preserved c =
    let t = YieldsList-turn (YieldsList-from_chars c.args.text.now c.utf8.text cc) c.loop-c.yielded _ c.loop-c.yielded_by _ _ c.in-Some.c c.in-Some.is c.next.ensures.steps in
    let e = one_more _ _ _ t in
    let n = length_push c.loop-c.yielded c.in-Some.c in
    rw n (omega arith)

pub returns : goal.returns
returns c =
    let t = YieldsList-end (YieldsList-from_chars c.args.text.now c.utf8.text cc) c.loop-c.yielded _ c.loop-c.yielded_by _ _ c.in-None.is c.next.ensures.steps in
    omega (arith, at_drop_all cells_of (chars c.args.text.now) (length c.loop-c.yielded) (omega (arith, t.1)))
