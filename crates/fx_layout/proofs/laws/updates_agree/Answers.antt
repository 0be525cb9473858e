use Rattle.fx_layout.proofs.Agree.{agreed}
use Rattle.fx_layout.proofs.laws.updates_agree.Goals as goal

pub returns : goal.returns
returns c = λ olds nodes old_looks looks old_window window listed old new old_tree old_keys tree was same update.
    agreed
    (record {
      olds = olds;
      old_looks = old_looks;
      old_window = old_window;
      nodes = nodes;
      looks = looks;
      window = window;
      listed = listed;
      old = old;
      new = new;
    })
    (record {
      old_tree = old_tree;
      old_keys = old_keys;
      tree = tree;
      was = was;
      same = same;
      update = update;
    })
