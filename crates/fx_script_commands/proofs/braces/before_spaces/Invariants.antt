-- what is left is text, and has the same in front of its last spaces
use Rattle.std.proofs.Common.{◌≡◌, length}
use Rattle.std.specs.Str.{IsUtf8}
use Rattle.fx_script_commands.specs.Braces.{before_spaces}
use Rattle.fx_script_commands.proofs.braces.before_spaces.Given as goal

abbrev pub invariant-loop-others : goal.invariant-loop-others
invariant-loop-others l = record {
  spaces : before_spaces l.rest ≡ before_spaces l.text;
  utf8 : IsUtf8 l.rest;
}

abbrev pub decreases-loop-others : goal.decreases-loop-others
decreases-loop-others l = length l.rest
