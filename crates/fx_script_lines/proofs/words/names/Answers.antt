-- each turn takes a name, and the last name stands behind the last dot
use Rattle.std.proofs.Common.{◌∙◌, rules}
use Rattle.fx_script_lines.proofs.TakingLemmas.{last_refused, name_refused, name_turn, names_end}
use Rattle.fx_script_lines.proofs.words.names.Goals as goal

pub returns-in-Err : goal.returns-in-Err
returns-in-Err c =
    name_refused c.loop-name.names.items c.loop-name.rest.now c.args.word.now c.in-Some.name.now c.in-Some.others.now
    c.in-Err.stop c.in-Some.ensures c.in-Err.ensures c.loop-name.invariant.all

pub loop-name-preserved : goal.loop-name-preserved
loop-name-preserved c =
    let turn = name_turn c.loop-name.names.items c.push.new.self.items c.loop-name.rest.now c.args.word.now
    c.in-Some.name.now c.in-Some.others.now c.in-Ok.name c.in-Some.ensures c.in-Ok.ensures
    c.in_ok-push.ensures.items c.loop-name.invariant.good c.loop-name.invariant.all in
    record { good = turn.0; all = turn.1; utf8 = search rules }

pub returns-in-Err-read_name : goal.returns-in-Err-read_name
returns-in-Err-read_name c =
    last_refused c.loop-name.names.items c.loop-name.rest.now c.args.word.now c.in-Err-read_name.stop
    c.in_default.ensures c.in-Err-read_name.ensures c.loop-name.invariant.all

pub returns : goal.returns
returns c =
    names_end c.loop-name.names.items c.from_vec.result c.loop-name.rest.now c.args.word.now c.in-Ok-read_name.name
    c.in_default.ensures c.in-Ok-read_name.ensures (c.from_vec.ensures ∙ c.in_ok-push-2.ensures.items)
    c.loop-name.invariant.good c.loop-name.invariant.all
