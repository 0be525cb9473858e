use Rattle.fx_anim.specs.Line.{stopped}
use Rattle.fx_anim.proofs.LineLemmas.{seen_within, set_line}
use Rattle.fx_anim.proofs.timelines.Timelines.stop.Goals as goal

pub returns : goal.returns
returns c =
    set_line c.args.self.now.lines.items c.args.id c.index_mut.result.now c.stop.new.self _ stopped
    (seen_within c.args.self.now.lines.items c.args.id c.requires) c.index_mut.ensures.value c.stop.ensures
