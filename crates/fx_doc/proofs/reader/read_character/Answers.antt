use Rattle.std.proofs.Common.{◌≡◌, ◌∙◌, ap, sym, subst, Some, Err, Option}
use Rattle.fx_doc_grammar.specs.Machine.{State, step, sign_position}
use Rattle.fx_doc_runs.specs.Views.{view, stepped, Steps}
use Rattle.fx_doc.specs.Reads.{IsStep}
use Rattle.fx_doc_drafts.specs.declared.drafts.Halt.{Halt}
use Rattle.fx_doc.proofs.Depths.{long_of}
use Rattle.fx_doc.proofs.reader.read_character.Goals as goal

pub returns-in-Err-Long : goal.returns-in-Err-Long
returns-in-Err-Long c =
    let x = long_of (step c.args.position (view c.args.reader.now) c.args.c) (subst (λ (h : Halt). Steps (step c.args.position (view c.args.reader.now) c.args.c) c.step.new.reader (Err h)) c.in-Err-Long.field-0-is c.in-Err-Long.ensures) in
    (x.0, x.1, x.2, c.sign_position-sign.ensures)

pub returns-in-Ok-true : goal.returns-in-Ok-true
returns-in-Ok-true c =
    let e : Some (view c.step.new.reader) ≡ step c.args.position (view c.args.reader.now) c.args.c = ap (stepped c.step.new.reader) (sym c.in-Ok-true.field-0-test) ∙ c.in-Ok-true.ensures in
    subst (λ (o : Option State). IsStep o c.args.position (sign_position c.args.position (view c.args.reader.now).mode) c.step.new.reader c.within_depth.result) e
    (c.within_depth.ensures c.args.position (sign_position c.args.position (view c.args.reader.now).mode))
