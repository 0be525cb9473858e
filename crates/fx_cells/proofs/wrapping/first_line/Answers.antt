-- Each turn takes the next character of the text.
-- Where it does not fit, the line is known; at the end the whole text fits.
use Rattle.std.proofs.Common.{◌≡◌, ◌+◌, ◌<◌, ◌≤◌, length, sym, ap, ◌∙◌, arith}
use Rattle.std.proofs.lemmas.Iterator.{YieldsList-from_chars}
use Rattle.std.proofs.lemmas.List.{length_push}
use Rattle.std.proofs.lemmas.Iterator.Consumers.{YieldsList-turn, YieldsList-end}
use Rattle.std.proofs.lemmas.Str.{encodes-chars}
use Rattle.std.specs.Str.{chars}
use Rattle.fx_cells.specs.Columns.{cell_width}
use Rattle.fx_cells.specs.Wrapping.{bytes_of}
use Rattle.fx_cells.proofs.Spaces.{bytes_of-take-le}
use Rattle.fx_cells.proofs.Scanning.{scanned_more, scanned_step}
use Rattle.fx_cells.proofs.Cutting.{cut_is, cut_whole, place_within}
use Rattle.fx_cells.proofs.wrapping.first_line.Goals as goal

pub cut_before-requires : goal.cut_before-requires
cut_before-requires c =
    let t = YieldsList-turn (YieldsList-from_chars c.args.text.now c.utf8.text cc) c.loop-c.yielded _ c.loop-c.yielded_by _ _ c.in-Some.c c.in-Some.is c.next.ensures.steps in
    let same : bytes_of (chars c.args.text.now) ≡ length c.args.text.now = ap length (encodes-chars c.args.text.now c.utf8.text) in
    λ x e. let p = place_within _ _ _ _ _ _ x _ t c.loop-c.invariant (sym c.last_space-space.ensures ∙ e) in omega arith

pub returns-then-room-width : goal.returns-then-room-width
returns-then-room-width c =
    let t = YieldsList-turn (YieldsList-from_chars c.args.text.now c.utf8.text cc) c.loop-c.yielded _ c.loop-c.yielded_by _ _ c.in-Some.c c.in-Some.is c.next.ensures.steps in
    let wide : c.loop-c.room < cell_width c.in-Some.c = omega arith in
    cut_is _ _ _ _ _ _ _ c.last_space-space.result c.cut_before.result (encodes-chars c.args.text.now c.utf8.text) t c.loop-c.invariant wide
    c.last_space-space.ensures c.cut_before.ensures.at_space c.cut_before.ensures.inside_word c.cut_before.ensures.too_wide

pub overflow_add-at : goal.overflow_add-at
overflow_add-at c =
    let t = YieldsList-turn (YieldsList-from_chars c.args.text.now c.utf8.text cc) c.loop-c.yielded _ c.loop-c.yielded_by _ _ c.in-Some.c c.in-Some.is c.next.ensures.steps in
    let same : bytes_of (chars c.args.text.now) ≡ length c.args.text.now = ap length (encodes-chars c.args.text.now c.utf8.text) in
    let fits : cell_width c.in-Some.c ≤ c.loop-c.room = omega arith in
    let s = scanned_more _ _ _ _ _ _ _ t c.loop-c.invariant fits in
    let p = s.place in
    let b = bytes_of-take-le (length c.loop-c.yielded + 1) (chars c.args.text.now) in
    omega (arith, c.len_utf8-at.ensures.value)

pub loop-c-preserved : goal.loop-c-preserved
loop-c-preserved c =
    let t = YieldsList-turn (YieldsList-from_chars c.args.text.now c.utf8.text cc) c.loop-c.yielded _ c.loop-c.yielded_by _ _ c.in-Some.c c.in-Some.is c.next.ensures.steps in
    let fits : cell_width c.in-Some.c ≤ c.loop-c.room = omega arith in
    scanned_step _ _ _ _ _ _ _ t c.loop-c.invariant fits _ _ _ _ (length_push c.loop-c.yielded c.in-Some.c) c.width_of-width.ensures.width c.len_utf8-at.ensures.value c.last_space-space.ensures

pub returns : goal.returns
returns c =
    let t = YieldsList-end (YieldsList-from_chars c.args.text.now c.utf8.text cc) c.loop-c.yielded _ c.loop-c.yielded_by _ _ c.in-None.is c.next.ensures.steps in
    cut_whole _ _ _ _ _ _ t.1 c.loop-c.invariant
