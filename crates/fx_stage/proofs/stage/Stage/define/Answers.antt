use Rattle.std.proofs.Common.{◌≡◌, ◌∙◌, ◌++◌, ◌∷◌, [], ℕ, List, Result, is_some, map, ap, subst, sym}
use Rattle.std.specs.Map.{lookup}
use Rattle.std.specs.Str.{bytes_eq}
use Rattle.fx_script_commands.specs.Requests.{Numbered, line_view, requests_of}
use Rattle.fx_stage_types.specs.declared.answers.Outcome.{Outcome}
use Rattle.fx_stage_types.specs.declared.answers.StageError.{StageError}
use Rattle.fx_stage_model.specs.Lines.{define, with_action}
use Rattle.fx_stage_model.specs.Taking.{IsTaken}
use Rattle.fx_stage_model.specs.World.{World}
use Rattle.fx_stage.specs.Kept.{seen}
use Rattle.fx_stage.proofs.NamingLemmas.{copied_some, define_refused, define_taken, lines_back, on_err, on_ok}
use Rattle.fx_stage.proofs.stage.Stage.define.Goals as goal

pub returns-then-is_some : goal.returns-then-is_some
returns-then-is_some c =
    let known =
    ap (λ (x : World). is_some (lookup (bytes_eq c.args.name) x.names.actions)) (sym c.self.view_is)
    ∙ sym (ap is_some c.get.ensures) ∙ copied_some c.get.result ∙ sym c.is_some.ensures ∙ c.if-is_some.true in
    define_refused c.args.name (requests_of (map line_view c.args.lines.items)) c.args.self.now known

pub returns : goal.returns
returns c =
    let s = c.self.inside in
    let name = c.args.name in
    let numbered = map line_view c.args.lines.items in
    let requests = requests_of numbered in
    let view : List (List ℕ × List Numbered) → World = λ actions.
    seen s.store s.graph s.free.entries s.labels.entries actions s.run.items s.written.entries s.pointer s.button s.window in
    let w = view s.actions.entries in
    let v = view c.add.new.self.entries in
    let new =
    sym (ap is_some c.get.ensures) ∙ copied_some c.get.result ∙ sym c.is_some.ensures ∙ c.if-is_some.false in
    let same = c.in-Ok.ensures ∙ sym (lines_back numbered) in
    let made : c.add.new.self.entries ≡ s.actions.entries ++ (name, c.in-Ok.action) ∷ [] → v ≡ with_action name requests w =
    λ is. ap view is ∙ ap (λ (lines : List Numbered). view (s.actions.entries ++ (name, lines) ∷ [])) same in
    let taken =
    define_taken name requests w v c.add.result new (on_ok c.add.result c.add.ensures.ok made)
    (on_err c.add.result c.add.ensures.err (ap view)) in
    subst (λ (x : World). IsTaken (define name requests x) x v c.plain.result) c.self.view_is
    (subst (λ (r : Result Outcome StageError). IsTaken (define name requests w) w v r) (sym c.plain.ensures) taken)
