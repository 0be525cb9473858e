use Rattle.std.proofs.Common.{◌≡◌, ◌∙◌, sym, true, nat_eq}
use Rattle.std.specs.Cmp.Lexicographic.{pointwise}
use Rattle.std.proofs.lemmas.Bool.Decides.{same_from_decides}
use Rattle.fx_picture.specs.Sameness.{is_same_shape}
use Rattle.fx_picture.proofs.SamenessLemmas.{Decides-shapes}
use Rattle.fx_damage.proofs.changes.stays.Goals as goal

pub returns-then-has_path : goal.returns-then-has_path
returns-then-has_path c =
    let old = c.args.old.now in
    let now = c.args.now.now in
    let path : pointwise nat_eq old.path now.path ≡ true = sym c.has_path.ensures ∙ c.if-has_path.true in
    rw path (same_from_decides c.same_lists.result (pointwise is_same_shape old.shapes now.shapes) c.same_lists.ensures (Decides-shapes old.shapes now.shapes))
