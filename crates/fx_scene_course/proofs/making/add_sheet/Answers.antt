-- one file too many, or the sheet in it
use Rattle.std.proofs.Common.{◌∙◌, ap, subst, arith, ℕ, List}
use Rattle.fx_css_types.specs.declared.sheets.Sheet.{Sheet}
use Rattle.fx_load_parts.specs.Says.{SaysSuch}
use Rattle.fx_load_parts.specs.Sheets.{IsSheetIn}
use Rattle.fx_scene_course.specs.Courses.{with_file}
use Rattle.fx_scene_course.specs.Views.{course_view}
use Rattle.fx_scene_course.proofs.ActLemmas.{counted, kept_on, too_many}
use Rattle.fx_scene_course.proofs.making.add_sheet.Goals as goal

pub returns-then-count-ge-MOST_FETCHES-clause-done : goal.returns-then-count-ge-MOST_FETCHES-clause-done
returns-then-count-ge-MOST_FETCHES-clause-done g c = λ files e.
    too_many files c.args.place c.args.node c.args.target (course_view c.args.course.now) (course_view c.add_flaw.new.course)
    (omega (arith, c.if-count-ge-MOST_FETCHES.true, counted c.args.course.now.files c.len-count.result c.len-count.ensures))
    c.in_ok-add_flaw.ensures.ok

pub returns-clause-done : goal.returns-clause-done
returns-clause-done g c = λ files e.
    let IsSaid : List ℕ → Type 0 =
    λ name. SaysSuch {A = Sheet} {B = Sheet} (λ sheet. sheet) (IsSheetIn files c.len-count.result name) c.fetch_sheet-sheet.result in
    kept_on files c.args.place c.args.node c.args.target (course_view c.args.course.now) (course_view c.add_file.new.course)
    (course_view c.keep_sheet.new.course) c.len-count.result c.fetch_sheet-sheet.result c.keep_sheet.result
    (counted c.args.course.now.files c.len-count.result c.len-count.ensures)
    (omega (arith, c.if-count-ge-MOST_FETCHES.false))
    (subst IsSaid c.as_str.ensures (c.fetch_sheet-sheet.ensures.says files e))
    (c.in_ok-add_file.ensures.ok ∙ ap (with_file (course_view c.args.course.now)) c.in_ok-copy.ensures) c.keep_sheet.ensures
