use Rattle.std.proofs.Common.{ap, length, subst, sym, ◌+◌, ◌∙◌, ◌≡◌, IfSome}
use Rattle.std.specs.Option.{option_copied, option_map}
use Rattle.fx_pulse_touched.specs.Marks.{places_of}
use Rattle.fx_pulse_touched.specs.Sights.{seen}
use Rattle.fx_style.specs.Lasts.{AreStylesOf}
use Rattle.fx_style.specs.Rules.{kept_of, needs, worked}
use Rattle.fx_pulse_kept.specs.Keeping.{AreStylesBefore}
use Rattle.fx_pulse_kept.proofs.LastLemmas.{told_last}
use Rattle.fx_pulse_kept.proofs.StyleLemmas.{apart, before}
use Rattle.fx_pulse_kept.proofs.kept.restyle.Goals as goal

pub update-requires-clause-before : goal.update-requires-clause-before
update-requires-clause-before g c = before (seen c.args.following.scene) c.requires.scene

pub update-requires-clause-keys : goal.update-requires-clause-keys
update-requires-clause-keys g c = apart (seen c.args.following.scene) c.requires.scene

pub update-requires-clause-last : goal.update-requires-clause-last
update-requires-clause-last g c =
    let last = option_map seen c.args.following.last in
    let scene = seen c.args.following.scene in
    let kept = c.args.kept.now in
    let marks = c.in_ok-marks.marks.items in
    let olds = option_copied c.styles_before.result in
    let places : c.as_slice-3.result.now ≡ places_of marks =
    c.as_slice-3.ensures.value ∙ (c.in_ok-places.ensures ∙ ap places_of c.as_slice.ensures.value) in
    let told : IfSome olds (AreStylesBefore last marks) =
    subst (λ l. IfSome olds (AreStylesBefore last l)) c.as_slice-2.ensures.value c.styles_before.ensures in
    subst (λ l. IfSome olds (AreStylesOf scene.sheets scene.styles l kept.looks kept.rest)) (sym places)
    (told_last last scene c.args.touched.now marks kept
    (record {
      is = c.requires.scene;
      was = c.requires.was;
      quiet = c.requires.quiet;
      marks_are = c.in_ok-marks.ensures;
    }) olds told)

pub returns-clause-cost : goal.returns-clause-cost
returns-clause-cost g c =
    let facts = c.args.following.scene.styles.now in
    let places : c.as_slice-3.result.now ≡ places_of c.in_ok-marks.marks.items =
    c.as_slice-3.ensures.value ∙ (c.in_ok-places.ensures ∙ ap places_of c.as_slice.ensures.value) in
    subst (λ l. c.update.new.work ≡ record c.args.work.now {
      styled = c.args.work.now.styled + worked (needs l (kept_of c.args.kept.now facts)) (length facts);
    }) places c.in_ok-update.ensures.cost
