use Rattle.std.proofs.Common.{◌<◌, length}
use Rattle.fx_anim.specs.Line.{begun}
use Rattle.fx_anim.proofs.LineLemmas.{line_at_is, on_err, on_ok, same_line, seen_within, set_line}
use Rattle.fx_anim.proofs.timelines.Timelines.play.Goals as goal

pub returns : goal.returns
returns c =
    let within : c.args.id < length c.args.self.now.lines.items =
    seen_within c.args.self.now.lines.items c.args.id c.requires in
    record {
      ok = on_ok c.begin.result
          (λ is. set_line c.args.self.now.lines.items c.args.id c.index_mut.result.now c.begin.new.self _ begun within
          c.index_mut.ensures.value is) c.begin.ensures.ok;
      err = on_err c.begin.result
          (λ is. same_line c.args.self.now.lines.items c.args.id c.index_mut.result.now c.begin.new.self _ within
          c.index_mut.ensures.value is) c.begin.ensures.err;
      empty = rw (line_at_is c.args.self.now.lines.items c.args.id c.index_mut.result.now _ within c.index_mut.ensures.value)
          c.begin.ensures.empty;
      only = c.begin.ensures.only;
    }
