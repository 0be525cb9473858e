use Rattle.std.proofs.Common.{nat_eq, refl}
use Rattle.std.specs.Cmp.Lexicographic.{pointwise}
use Rattle.std.proofs.lemmas.Bool.Decides.{Decides-eqb, same_from_decides}
use Rattle.std.proofs.lemmas.Slice.Eq.{slice_eq-Decides}
use Rattle.fx_damage.proofs.changes.has_path.Goals as goal

pub returns : goal.returns
returns c =
    let old = c.args.old.now.path in
    let now = c.args.now.now.path in
    same_from_decides c.same_lists.result (pointwise nat_eq old now) c.same_lists.ensures
    (slice_eq-Decides Decides-eqb old now (pointwise nat_eq old now) refl)
