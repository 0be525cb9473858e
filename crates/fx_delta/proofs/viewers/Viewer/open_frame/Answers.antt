-- a frame line has a size that a picture can have
use Rattle.std.proofs.Common.{◌≡◌, true, false, ap, sym, ◌∙◌, Err}
use Rattle.fx_delta.specs.Lines.{words}
use Rattle.fx_delta.specs.Pictures.{is_size}
use Rattle.fx_delta.proofs.ReadingLemmas.{frame_in-is_size}
use Rattle.fx_delta.proofs.viewers.Viewer.open_frame.Goals as goal

pub returns-in-Err-Size : goal.returns-in-Err-Size
returns-in-Err-Size c =
    let fits : is_size c.in-Some.frame.width c.in-Some.frame.height ≡ true =
    frame_in-is_size (words c.args.line.now) c.in-Some.frame (sym c.requires ∙ c.in-Some.is) in
    let fails : is_size c.in-Some.frame.width c.in-Some.frame.height ≡ false =
    c.in-Err-Size.ensures.size.0 (ap Err c.in-Err-Size.field-0-is) in
    absurd (cc)
