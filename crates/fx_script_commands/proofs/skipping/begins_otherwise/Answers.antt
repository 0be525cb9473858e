-- a line whose first letter is another
use Rattle.std.proofs.Common.{ap, ◌∙◌, sym}
use Rattle.std.specs.Option.{option_copied}
use Rattle.fx_script_commands.proofs.SkipLemmas.{not_end}
use Rattle.fx_script_commands.proofs.skipping.begins_otherwise.Goals as goal

pub returns-in-Some : goal.returns-in-Some
returns-in-Some c tells =
    not_end c.args.text.now c.in-Some.first.now (ap option_copied (sym c.in-Some.is) ∙ c.first.ensures.value)
    (c.is_other.ensures.other tells) (c.is_other.ensures.space tells)
