-- no space is left at the end
use Rattle.std.proofs.Common.{None, Some, sym, ◌∙◌, lit<, rules}
use Rattle.std.proofs.lemmas.Str.Pattern.{strip_suffix_char}
use Rattle.fx_script_commands.proofs.BraceLemmas.{last_space, no_last_space}
use Rattle.fx_script_commands.proofs.braces.before_spaces.Goals as goal

pub returns : goal.returns
returns c =
    sym (no_last_space c.loop-others.rest.now (strip_suffix_char 32 c.loop-others.rest.now None c.in_default.ensures.cases (lit< tt)))
    ∙ c.loop-others.invariant.spaces

pub loop-others-preserved : goal.loop-others-preserved
loop-others-preserved c = record {
  spaces =
      sym (last_space c.loop-others.rest.now c.in-Some.others.now
      (strip_suffix_char 32 c.loop-others.rest.now (Some c.in-Some.others) c.in-Some.ensures.cases (lit< tt)))
      ∙ c.loop-others.invariant.spaces;
  utf8 = search rules;
}
