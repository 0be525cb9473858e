use Rattle.std.proofs.Common.{ap, sym, ◌∙◌}
use Rattle.std.proofs.lemmas.Bool.{true≢false}
use Rattle.fx_pulse_model.specs.Scenes.{Scene}
use Rattle.fx_pulse_touched.specs.Sights.{seen}
use Rattle.fx_pulse_touched.proofs.SceneLemmas.{same_scene, same_unmarked}
use Rattle.fx_pulse_touched.proofs.comparing.is_untouched.Goals as goal

pub returns-clause-is : goal.returns-clause-is
returns-clause-is c = λ is.
    same_scene (seen c.args.last) (seen c.args.scene) c.args.touched.now.styles.items c.args.touched.now.boxes.items
    c.requires.last c.requires.scene c.requires.shape c.requires.touched (c.is_none_marked.ensures.styles is)
    (c.is_none_marked.ensures.boxes is) (c.are_same_flags.ensures.0 c.if-not-are_same_flags.false)

pub returns-clause-only : goal.returns-clause-only
returns-clause-only c = λ same.
    let none =
    same_unmarked (seen c.args.last) (seen c.args.scene) c.args.touched.now.styles.items
    c.args.touched.now.boxes.items c.requires.touched same in
    c.is_none_marked.ensures.only none.0 none.1

pub returns-then-not-are_same_flags-clause-only : goal.returns-then-not-are_same_flags-clause-only
returns-then-not-are_same_flags-clause-only c = λ same.
    absurd (true≢false
    (sym (c.are_same_flags.ensures.1 (ap (λ (s : Scene). s.disabled) same)) ∙ c.if-not-are_same_flags.true))
