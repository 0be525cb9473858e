use Rattle.std.proofs.Common.{◌≡◌, drop}
use Rattle.fx_base.specs.Names.{numbers}
use Rattle.fx_store_pairs.specs.Gathering.{KnowsItsNames, with_names}
use Rattle.fx_store_pairs.proofs.grouping.Members.add_all.Given as goal

abbrev pub invariant-loop-name : goal.invariant-loop-name
invariant-loop-name l = record {
  added :
      with_names (numbers (drop l.name-index l.names)) (numbers l.self.names.items)
      ≡ with_names (numbers l.names) (numbers l.fn.self.names.items);
  known : KnowsItsNames l.self;
}
