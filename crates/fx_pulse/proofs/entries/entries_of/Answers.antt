use Rattle.std.proofs.Common.{ap, length, subst, sym, ◌∙◌, [], get_or}
use Rattle.std.specs.List.{AllZip}
use Rattle.fx_layout_sweeps.specs.Nodes.{parents}
use Rattle.fx_pulse_model.specs.Lines.{path_of}
use Rattle.fx_pulse_model.specs.Pictures.{IsEntry}
use Rattle.fx_pulse.specs.Drawing.{drawn}
use Rattle.fx_pulse_touched.proofs.ToldLemmas.{told_at, told_long}
use Rattle.fx_pulse.proofs.entries.entries_of.Goals as goal

pub loop-place-init : goal.loop-place-init
loop-place-init c =
    let boxes = c.args.laid.boxes.now in
    let path = path_of (parents boxes) in
    record {
      made = subst (λ es. AllZip (IsEntry (drawn c.args.laid)) [] es) (sym c.new-entries.ensures.items) tt;
      each = ap length c.requires.paths ∙ told_long path (length boxes);
      rest = λ k after within.
          ap (λ l. get_or l k []) c.requires.paths ∙ told_at path (length boxes) k [] within;
    }
