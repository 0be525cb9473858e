use Rattle.fx_layout_laws.proofs.Twins.{same_widths}
use Rattle.fx_layout_laws.proofs.laws.alike_widths.Goals as goal

pub returns : goal.returns
returns c = λ alike ones others one_looks other_looks one_window other_window one other one_nodes other_nodes first second same i j is.
    same_widths
    (record {
      alike = alike;
      ones = ones;
      one_looks = one_looks;
      one_window = one_window;
      one = one;
      others = others;
      other_looks = other_looks;
      other_window = other_window;
      other = other;
    })
    (record { one_nodes = one_nodes; other_nodes = other_nodes; first = first; second = second; same = same })
    i j is
