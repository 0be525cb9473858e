use Rattle.std.proofs.Common.{◌∙◌, ap, length, sym}
use Rattle.std.proofs.lemmas.List.{map-id}
use Rattle.std.proofs.lemmas.Iterator.{YieldsList-from_chars}
use Rattle.std.proofs.lemmas.Iterator.Consumers.{YieldsList-turn, YieldsList-end}
use Rattle.std.specs.Str.{chars}
use Rattle.fx_base.specs.Positions.{start, after_all}
use Rattle.fx_doc_grammar.proofs.Turns.{place_more}
use Rattle.fx_doc_drafts.proofs.Texts.{chars_fewer}
use Rattle.fx_doc.proofs.Loops.{line_small, column_small}
use Rattle.fx_doc.proofs.bytes.position_behind.Goals as goal

pub after-position-requires-clause-line : goal.after-position-requires-clause-line
after-position-requires-clause-line c =
    let road = YieldsList-from_chars c.args.text.now c.utf8.text cc in
    let t = YieldsList-turn road c.loop-c.yielded _ c.loop-c.yielded_by _ _ c.in-Some.c c.in-Some.is c.next.ensures.steps in
    line_small (chars c.args.text.now) c.loop-c.yielded c.loop-c.position (length c.args.text.now) t.0 (chars_fewer c.args.text.now c.utf8.text) c.requires c.loop-c.invariant

pub after-position-requires-clause-column : goal.after-position-requires-clause-column
after-position-requires-clause-column c =
    let road = YieldsList-from_chars c.args.text.now c.utf8.text cc in
    let t = YieldsList-turn road c.loop-c.yielded _ c.loop-c.yielded_by _ _ c.in-Some.c c.in-Some.is c.next.ensures.steps in
    column_small (chars c.args.text.now) c.loop-c.yielded c.loop-c.position (length c.args.text.now) t.0 (chars_fewer c.args.text.now c.utf8.text) c.requires c.loop-c.invariant

pub loop-c-preserved : goal.loop-c-preserved
loop-c-preserved c = c.after-position.ensures ∙ place_more c.loop-c.yielded c.in-Some.c c.loop-c.position c.loop-c.invariant

pub returns : goal.returns
returns c =
    let road = YieldsList-from_chars c.args.text.now c.utf8.text cc in
    let t = YieldsList-end road c.loop-c.yielded _ c.loop-c.yielded_by _ _ c.in-None.is c.next.ensures.steps in
    c.loop-c.invariant ∙ ap (after_all start) (sym (map-id c.loop-c.yielded) ∙ t.0)
