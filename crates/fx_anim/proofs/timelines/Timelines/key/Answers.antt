use Rattle.std.proofs.Common.{◌<◌, ◌≡◌, ◌∙◌, ap, length, w64}
use Rattle.std.specs.Prelude.{unsigned_abs}
use Rattle.std.proofs.lemmas.Int.{to_z-of_z}
use Rattle.fx_anim.specs.Line.{with_frame}
use Rattle.fx_anim.specs.Shown.{frame_of}
use Rattle.fx_anim.proofs.LineLemmas.{line_at_is, on_err, on_ok, same_line, seen_within, set_line}
use Rattle.fx_anim.proofs.timelines.Timelines.key.Goals as goal

pub returns : goal.returns
returns c =
    let within : c.args.id < length c.args.self.now.lines.items =
    seen_within c.args.self.now.lines.items c.args.id c.requires.id in
    let at_is : c.milliseconds-at.result ≡ unsigned_abs c.args.at =
    c.milliseconds-at.ensures ∙ ap unsigned_abs (to_z-of_z w64 c.args.at c.ranges.at) in
    record {
      ok = on_ok c.put.result
          (λ is. set_line c.args.self.now.lines.items c.args.id c.index_mut.result.now c.put.new.self _
          (with_frame (frame_of c.args.at c.args.name c.args.value)) within c.index_mut.ensures.value is)
          (rw at_is at c.put.ensures.ok);
      err = on_err c.put.result
          (λ is. same_line c.args.self.now.lines.items c.args.id c.index_mut.result.now c.put.new.self _ within
          c.index_mut.ensures.value is) c.put.ensures.err;
      playing = rw (line_at_is c.args.self.now.lines.items c.args.id c.index_mut.result.now _ within c.index_mut.ensures.value)
          c.put.ensures.playing;
      full = rw (line_at_is c.args.self.now.lines.items c.args.id c.index_mut.result.now _ within c.index_mut.ensures.value)
          (rw at_is at c.put.ensures.full);
      never_empty = c.put.ensures.never_empty;
    }
