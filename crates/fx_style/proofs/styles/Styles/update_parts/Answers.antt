use Rattle.std.proofs.Common.{◌+◌, ℕ, Bool, false, List, get_or, length, refl, ◌∙◌, ap, subst, add_assoc}
use Rattle.fx_base.specs.declared.work.Work.{Work}
use Rattle.fx_style.specs.declared.kept.Fresh.{Fresh}
use Rattle.fx_style.specs.Changes.{NamesChanges}
use Rattle.fx_style.specs.Rewriting.{rewritten_at}
use Rattle.fx_style.specs.Rules.{kept_of, needs, worked}
use Rattle.fx_style.specs.Turns.{AreRightBelow}
use Rattle.fx_style.proofs.DoneLemmas.{right_keys}
use Rattle.fx_style.proofs.PartedLemmas.{parts_changed, parts_cost, parts_done}
use Rattle.fx_style.proofs.styles.Styles.update_parts.Goals as goal

pub put-requires-clause-right : goal.put-requires-clause-right
put-requires-clause-right g c =
    let old = c.args.self.now in
    let facts = c.args.scene.facts.now in
    right_keys c.args.scene.sheets.now facts c.as_slice.result.now (kept_of old facts) old.looks old.rest
    c.in_ok-fresh.fresh c.in_ok-fresh.ensures.right

pub returns-clause-styles : goal.returns-clause-styles
returns-clause-styles g c = λ restyle parted.
    let sheets = c.args.scene.sheets.now in
    let facts = c.args.scene.facts.now in
    let old = c.args.self.now in
    let mid = c.put.new.self in
    let fresh = c.in_ok-fresh.fresh in
    parts_done sheets facts restyle old mid c.rewrite.new.self c.args.parts.now.there.items c.args.parts.now.left.items
    fresh c.requires.before
    (record {
      right = subst (λ (l : List ℕ). AreRightBelow sheets facts l (kept_of old facts) old.looks old.rest fresh
          (length facts)) c.as_slice.ensures.value c.in_ok-fresh.ensures.right;
      put = c.in_ok-put.ensures.put;
      long = c.rewrite.ensures.long;
      looks = λ at. c.rewrite.ensures.looks at
          ∙ ap (λ (m : List Bool). rewritten_at m facts mid.looks at) c.as_slice-there.ensures.value;
      rest = c.rewrite.ensures.rest;
    })
    parted

pub returns-clause-changed : goal.returns-clause-changed
returns-clause-changed g c =
    let facts = c.args.scene.facts.now in
    let old = c.args.self.now in
    let places = c.in_ok-changed.changed.items in
    parts_changed facts old c.put.new.self c.rewrite.new.self c.as_slice-there.result.now c.in_ok-fresh.fresh places
    c.rewrite.ensures.looks
    (c.rewrite.ensures.changed ∙ c.in_ok-put.ensures.changed)
    (c.in_ok-put.ensures.looks refl)
    (subst (λ (l : List Fresh). NamesChanges old.looks l places) c.as_slice-2.ensures c.in_ok-changed.ensures.named)
    c.in_ok-changed.ensures.lengths

pub returns-clause-cost : goal.returns-clause-cost
returns-clause-cost g c = λ restyle parted.
    let facts = c.args.scene.facts.now in
    let old = c.args.self.now in
    let there = c.args.parts.now.there.items in
    let left = c.args.parts.now.left.items in
    let kept = kept_of old facts in
    let count = length facts in
    let before = c.args.work.now.styled in
    let marks = c.as_slice-there.result.now in
    c.rewrite.ensures.cost
    ∙ ap (λ (w : Work g.row.L.Denot). record w {
      styled = w.styled + worked (λ at. get_or marks at false) count;
    }) c.in_ok-fresh.ensures.cost
    ∙ ap (λ (n : ℕ). record c.args.work.now { styled = n })
    (add_assoc before (worked (needs c.as_slice.result.now kept) count) (worked (λ at. get_or marks at false) count)
    ∙ ap (λ (n : ℕ). before + n)
    (ap (λ (l : List ℕ). worked (needs l kept) count + worked (λ at. get_or marks at false) count)
    c.as_slice.ensures.value
    ∙ ap (λ (m : List Bool). worked (needs left kept) count + worked (λ at. get_or m at false) count)
    c.as_slice-there.ensures.value
    ∙ parts_cost c.args.scene.sheets.now facts restyle old there left parted))
