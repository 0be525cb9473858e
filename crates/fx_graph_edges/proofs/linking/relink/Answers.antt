use Rattle.std.proofs.Common.{List, ℕ, sym, subst, arith}
use Rattle.std.proofs.lemmas.Result.{err_from_is_err_and}
use Rattle.fx_graph_model.specs.Users.{Links}
use Rattle.fx_graph_model.proofs.Edges.{mirrors_same, mirrors_bound}
use Rattle.fx_graph_edges.proofs.linking.relink.Goals as goal

pub reserve_links-requires : goal.reserve_links-requires
reserve_links-requires c = λ name member. omega (arith, c.requires.operands name member, c.requires.mirrors.rows)

pub returns-in_err-reserve_links-clause-err : goal.returns-in_err-reserve_links-clause-err
returns-in_err-reserve_links-clause-err c =
    let p = err_from_is_err_and c.from_residual.result c.from_residual.ensures.1 in
    rw p.1
    (mirrors_same c.args.entries.now c.args.users.now c.reserve_links.new.users c.requires.mirrors c.reserve_links.ensures.rows c.reserve_links.ensures.same)

pub release_at-requires-clause-used : goal.release_at-requires-clause-used
release_at-requires-clause-used c = λ operand member.
    omega (arith, c.requires.used operand member, c.requires.mirrors.rows, c.reserve_links.ensures.rows)

pub link-requires-clause-known : goal.link-requires-clause-known
link-requires-clause-known c = λ operand member.
    omega (arith, c.requires.operands operand member, c.requires.mirrors.rows, c.reserve_links.ensures.rows, c.release_at.ensures.unlinked.rows)

pub link-requires-clause-room : goal.link-requires-clause-room
link-requires-clause-room c = λ operand member.
    omega (arith, c.in_ok-reserve_links.ensures.ok.room operand member, c.release_at.ensures.grown operand)

pub returns-clause-ok : goal.returns-clause-ok
returns-clause-ok c = λ entry same.
    let kept = mirrors_same c.args.entries.now c.args.users.now c.reserve_links.new.users c.requires.mirrors c.reserve_links.ensures.rows c.reserve_links.ensures.same in
    mirrors_bound c.args.entries.now c.reserve_links.new.users c.release_at.new.users c.link.new.users c.args.name entry kept c.release_at.ensures.unlinked
    (subst (λ (xs : List ℕ). Links c.args.name xs c.release_at.new.users c.link.new.users) (sym same) c.link.ensures) c.requires.known
