use Rattle.std.proofs.Common.{◌≡◌, List, length, map, subst, ◌∙◌, ap}
use Rattle.std.specs.Prelude.{IfSome}
use Rattle.fx_style.specs.declared.kept.Fresh.{Fresh}
use Rattle.fx_style.specs.Changes.{NamesChanges}
use Rattle.fx_style.specs.Parting.{IsParted}
use Rattle.fx_style.specs.Rules.{kept_of}
use Rattle.fx_style.specs.Turns.{ArePut}
use Rattle.fx_style.proofs.ChangeLemmas.{changes_done}
use Rattle.fx_style.proofs.DoneLemmas.{ok_both, ok_then, right_keys, update_done}
use Rattle.fx_style.proofs.styles.Styles.update_in.Goals as goal

pub put-requires-clause-right : goal.put-requires-clause-right
put-requires-clause-right g c =
    let old = c.args.self.now in
    let facts = c.args.scene.facts.now in
    right_keys c.args.scene.sheets.now facts c.args.restyle.now
    (kept_of old facts) old.looks old.rest c.in_ok-fresh.fresh
    c.in_ok-fresh.ensures.right

pub returns-clause-styles : goal.returns-clause-styles
returns-clause-styles g c =
    let old = c.args.self.now in
    ok_then c.put.result
    (λ put. update_done c.args.scene.sheets.now c.args.scene.facts.now c.args.restyle.now old c.put.new.self
    c.in_ok-fresh.fresh
    c.in_ok-fresh.ensures.right put)
    c.put.ensures.put

pub returns-clause-changed : goal.returns-clause-changed
returns-clause-changed g c =
    let fresh = c.in_ok-fresh.fresh in
    let places = c.in_ok-changed.changed.items in
    let stay = c.stays-stay.result in
    let seen : c.as_slice.result.now ≡ fresh = c.as_slice.ensures in
    ok_both c.put.result
    (λ (p : ArePut c.args.self.now c.put.new.self fresh (length c.args.scene.facts.now) ×
    (c.put.new.self.changed ≡ places)) looks.
    changes_done stay c.args.self.now c.put.new.self fresh (length c.args.scene.facts.now) places p.0 p.1 looks
    (λ may. subst (λ (l : List Fresh). NamesChanges c.args.self.now.looks l places) seen
    (c.in_ok-changed.ensures.named may))
    (λ off. c.in_ok-changed.ensures.all off ∙ ap (map (λ (f : Fresh). f.at)) seen))
    (ok_both c.put.result (λ put changed. (put, changed)) c.put.ensures.put c.put.ensures.changed)
    c.put.ensures.looks

pub returns-in-Some-clause-styles : goal.returns-in-Some-clause-styles
returns-in-Some-clause-styles g c =
    ok_then c.update_parts.result
    (λ f. f c.args.restyle.now (subst (λ o. IfSome o (λ p. IsParted c.args.scene.sheets.now c.args.scene.facts.now
    c.args.restyle.now c.args.self.now p.there.items p.left.items)) c.in-Some.is c.in_ok-parts.ensures))
    c.update_parts.ensures.styles

pub returns-in-Some-clause-cost : goal.returns-in-Some-clause-cost
returns-in-Some-clause-cost g c =
    ok_then c.update_parts.result
    (λ f. f c.args.restyle.now (subst (λ o. IfSome o (λ p. IsParted c.args.scene.sheets.now c.args.scene.facts.now
    c.args.restyle.now c.args.self.now p.there.items p.left.items)) c.in-Some.is c.in_ok-parts.ensures))
    c.update_parts.ensures.cost
