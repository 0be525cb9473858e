use Rattle.std.proofs.lemmas.Result.{err_from_is_err_and}
use Rattle.fx_store.proofs.AgainLemmas.{again_done, again_short, again_unmade}
use Rattle.fx_store.proofs.store.Store.set_again.Goals as goal

pub returns-in_err-give_again-clause-applied : goal.returns-in_err-give_again-clause-applied
returns-in_err-give_again-clause-applied g c =
    let p = err_from_is_err_and c.from_residual.result c.from_residual.ensures.1 in
    rw (p.1, p.2)
    (again_unmade c.args.self.now c.give_again.new.self c.args.name c.args.value.now c.in_err-give_again.field-0.0
    c.args.work.now.evaluated c.requires.allowed c.in_err-give_again.ensures.memory c.in_err-give_again.ensures.err)

pub returns-in_err-catch_up-clause-applied : goal.returns-in_err-catch_up-clause-applied
returns-in_err-catch_up-clause-applied g c =
    let p = err_from_is_err_and c.from_residual-in_err-catch_up.result c.from_residual-in_err-catch_up.ensures.1 in
    rw (p.1, p.2)
    (again_short c.args.self.now c.give_again.new.self c.catch_up.new.self c.args.name c.args.value.now _ _
    c.requires.allowed
    c.requires.same c.in_ok-give_again.ensures.ok c.catch_up.ensures.part c.catch_up.ensures.cost)

pub returns-clause-applied : goal.returns-clause-applied
returns-clause-applied g c =
    again_done c.args.self.now c.give_again.new.self c.catch_up.new.self c.args.name c.args.value.now c.silent.result _
    _
    c.requires.allowed c.requires.same c.in_ok-give_again.ensures.ok c.in_ok-give_again.ensures.values
    c.in_ok-catch_up.ensures.ok
    (record {
      added_is = c.silent.ensures.added;
      invalid = c.silent.ensures.invalid;
      changed =
          c.silent.ensures.changed;
    })
    c.catch_up.ensures.cost
