-- what isn't text, and what has too many lines
use Rattle.std.proofs.Common.{ℕ, List, Err, sym, ◌∙◌, ap, subst}
use Rattle.std.specs.Str.{chars}
use Rattle.fx_base.specs.Positions.{after_all, start}
use Rattle.fx_load_parts.specs.Faults.{Fault, fault_at}
use Rattle.fx_scene_flaws.specs.declared.flaws.FaultKind.TheVariants as kind
use Rattle.fx_load_parts.proofs.ScriptLemmas.{IsFaultOf, script_refused}
use Rattle.fx_load_parts.proofs.scripts.refused.Goals as goal

pub returns-in-NotUtf8-clause-says : goal.returns-in-NotUtf8-clause-says
returns-in-NotUtf8-clause-says c =
    let fault = subst (IsFaultOf c.args.name.now c.args.bytes.now) c.in-NotUtf8.is
    (script_refused c.args.name.now c.args.bytes.now c.args.error c.requires.fault) in
    let position = c.place_behind-position.ensures ∙ ap (λ (front : List ℕ). after_all start (chars front)) c.split_at.ensures.front in
    fault ∙ ap (λ (f : Fault). Err f)
    (sym (c.at.ensures ∙ ap (fault_at kind.NotUtf8 c.args.name.now) position))

pub returns-in-TooManyLines-clause-says : goal.returns-in-TooManyLines-clause-says
returns-in-TooManyLines-clause-says c =
    let fault = subst (IsFaultOf c.args.name.now c.args.bytes.now) c.in-TooManyLines.is
    (script_refused c.args.name.now c.args.bytes.now c.args.error c.requires.fault) in
    fault ∙ ap (λ (f : Fault). Err f) (sym c.at-in-TooManyLines.ensures)
