-- what the reader of scripts says is what the definition gives
use Rattle.std.proofs.Common.{◌≡◌, length, map, vec_len, arith}
use Rattle.std.proofs.lemmas.List.{length-map}
use Rattle.fx_load_parts.proofs.ScriptLemmas.{few_read, script_is}
use Rattle.fx_load_parts.proofs.scripts.read_script.Goals as goal
use Rattle.fx_script_commands.specs.Requests.{line_view}

pub returns-in-Ok-clause-says : goal.returns-in-Ok-clause-says
returns-in-Ok-clause-says c =
    script_is c.args.name.now c.args.bytes.now (map line_view c.in-Ok.lines.items) c.in-Ok.ensures.read

pub returns-in-Ok-clause-few : goal.returns-in-Ok-clause-few
returns-in-Ok-clause-few c =
    let few = few_read c.args.bytes.now (map line_view c.in-Ok.lines.items) c.in-Ok.ensures.read in
    let long : length c.in-Ok.lines.items ≡ vec_len c.in-Ok.lines = cc in
    omega (arith, few, length-map c.in-Ok.lines.items line_view, long)
