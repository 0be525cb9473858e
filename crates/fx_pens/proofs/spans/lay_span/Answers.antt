use Rattle.std.proofs.Common.{◌≡◌, ◌+◌, ◌-◌, ◌∙◌, ℕ, List, get_or, length, cond, ap, sym, arith}
use Rattle.std.proofs.lemmas.List.{length-map}
use borrow.Rule.Slice.PartMut.{mid_of, mid_len}
use Rattle.fx_base.specs.Pixel.{blended}
use Rattle.fx_pens.proofs.SpanLemmas.{length-put, span_changed}
use Rattle.fx_pens.proofs.DotLemmas.{span_count}
use Rattle.fx_pens.proofs.CutLemmas.{narrow}
use Rattle.fx_pens.proofs.spans.lay_span.Goals as goal

pub returns : goal.returns
returns g c =
    let pen = c.args.pen.now in
    let row = c.args.row.now in
    let from = c.args.from in
    let to = c.args.to in
    let within = c.requires.pen.within in
    let right = c.requires.right in
    let part = c.lay_color.new.row in
    let long : length part ≡ to - from =
    ap (λ (l : List ℕ). length l) c.lay_color.ensures ∙ (length-map (mid_of from (to - from) row) (blended pen.color) ∙ mid_len from to row (omega arith)) in
    record {
      long = length-put from to row part c.requires.rises (omega arith) long;
      pixels = λ x b. span_changed from to pen.color row part c.requires.rises (omega arith) c.lay_color.ensures x b
          ∙ ap (λ t. cond t (blended pen.color (get_or row x 0)) (get_or row x 0)) (narrow pen.left pen.right from to x c.requires.left c.requires.right);
      count = c.add.ensures ∙ ap (λ n. c.args.painted.now + n) (sym (span_count from to pen.left pen.right c.requires.left c.requires.rises c.requires.right));
    }
