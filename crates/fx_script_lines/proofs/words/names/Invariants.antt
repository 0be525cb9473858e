-- the names so far are good, and with those that are left they are all
use Rattle.std.proofs.Common.{◌≡◌, ◌++◌, true, length}
use Rattle.std.specs.List.{list_all}
use Rattle.std.specs.Str.{IsUtf8}
use Rattle.fx_script_lines.specs.Taking.{is_name, names_in}
use Rattle.fx_script_lines.proofs.words.names.Given as goal

abbrev pub invariant-loop-name : goal.invariant-loop-name
invariant-loop-name l = record {
  good : list_all is_name l.names.items ≡ true;
  all : l.names.items ++ names_in l.rest ≡ names_in l.word;
  utf8 : IsUtf8 l.rest;
}

abbrev pub decreases-loop-name : goal.decreases-loop-name
decreases-loop-name l = length l.rest
