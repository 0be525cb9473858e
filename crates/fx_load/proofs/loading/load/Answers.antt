-- the script, the sheets or the scene is refused, a further file isn't fetched, or all of them are read
use Rattle.std.proofs.Common.{Vec, map, ◌∙◌}
use Rattle.std.specs.Global.{Global}
use Rattle.fx_css_types.specs.declared.sheets.Sheet.{Sheet}
use Rattle.fx_doc.specs.Views.{reading}
use Rattle.fx_doc_runs.specs.declared.document.Document.{Document}
use Rattle.fx_load.specs.Loads.{loaded_of}
use Rattle.fx_load.proofs.LoadLemmas.{all_told, fetch_stops, scene_stops, script_stops, sheets_stop}
use Rattle.fx_load_parts.specs.Views.{run_of}
use Rattle.fx_script_commands.specs.Requests.{line_view}
use Rattle.fx_script_commands.specs.declared.commands.Line.{Line}
use Rattle.fx_load.proofs.loading.load.Goals as goal

pub returns-in_err-lines-clause-says : goal.returns-in_err-lines-clause-says
returns-in_err-lines-clause-says g c = λ files e.
    script_stops {A = Vec Line Global} (run_of c.args.run.now) files (λ lines. map line_view lines.items) c.in_err-lines.field-0.0
    c.from_residual.result (c.in_err-lines.ensures.says files e) c.from_residual.ensures.1

pub returns-in_err-sheets-clause-says : goal.returns-in_err-sheets-clause-says
returns-in_err-sheets-clause-says g c = λ files e.
    sheets_stop {A = Vec Sheet Global} (run_of c.args.run.now) files (map line_view c.in_ok-lines.lines.items)
    (λ sheets. sheets.items) c.in_err-sheets.field-0.0 c.from_residual-in_err-sheets.result
    (c.in_ok-lines.ensures.says files e) (c.in_err-sheets.ensures.says files (c.in_ok-lines.ensures.held ∙ e))
    c.from_residual-in_err-sheets.ensures.1

pub returns-in_err-document-clause-says : goal.returns-in_err-document-clause-says
returns-in_err-document-clause-says g c = λ files e.
    scene_stops {A = Document} (run_of c.args.run.now) files (map line_view c.in_ok-lines.lines.items)
    c.in_ok-sheets.sheets.items reading c.in_err-document.field-0.0 c.from_residual-in_err-document.result
    (c.in_ok-lines.ensures.says files e) (c.in_ok-sheets.ensures.says files (c.in_ok-lines.ensures.held ∙ e))
    (c.in_err-document.ensures.says files (c.in_ok-sheets.ensures.held ∙ (c.in_ok-lines.ensures.held ∙ e)))
    c.from_residual-in_err-document.ensures.1

pub returns-in_err-scene-clause-says : goal.returns-in_err-scene-clause-says
returns-in_err-scene-clause-says g c = λ files e.
    fetch_stops (run_of c.args.run.now) files c.in_err-scene.field-0.0 c.from_residual-in_err-scene.result
    c.from_residual-in_err-scene.ensures.1

pub returns-clause-says : goal.returns-clause-says
returns-clause-says g c = λ files e.
    all_told (run_of c.args.run.now) files (map line_view c.in_ok-lines.lines.items) c.in_ok-sheets.sheets.items
    (reading c.in_ok-document.document) c.in_ok-names_of.field-0.items c.in_ok-scene.scene.files.items
    c.in_ok-sheet_tasks.field-0.items c.in_ok-scene.scene.tasks.items c.loaded_by.result
    (c.in_ok-lines.ensures.says files e) (c.in_ok-sheets.ensures.says files (c.in_ok-lines.ensures.held ∙ e))
    (c.in_ok-document.ensures.says files (c.in_ok-sheets.ensures.held ∙ (c.in_ok-lines.ensures.held ∙ e)))
    c.in_ok-names_of.ensures c.in_ok-sheet_tasks.ensures
    (c.in_ok-scene.ensures.made files
    (c.in_ok-document.ensures.held ∙ (c.in_ok-sheets.ensures.held ∙ (c.in_ok-lines.ensures.held ∙ e))))
    c.loaded_by.ensures.loaded c.loaded_by.ensures.err
