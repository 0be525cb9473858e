use Rattle.std.proofs.Common.{length, ◌∙◌, ap}
use Rattle.std.specs.Prelude.{slice_get}
use Rattle.fx_style.specs.Kept.{Kept, fresh_at, planned_at}
use Rattle.fx_style.proofs.PutLemmas.{all_fresh, none_some, put_different, put_there}
use Rattle.fx_style.proofs.styles.Styles.put.Goals as goal

pub put_in-requires : goal.put_in-requires
put_in-requires c =
    let old = c.args.self.now in
    let fresh = c.args.fresh in
    let is = c.old.view_is ∙ c.replace-old.ensures.value in
    let there = c.requires.stay c.if-stay.true in
    record {
      keys = put_different c.args.facts.now old.looks c.old.inside.looks.items old.rest c.old.inside.rest.items fresh
          c.requires.keys (ap (λ (k : Kept). length k.looks) is ∙ there.0)
          (ap (λ (k : Kept). length k.rest) is ∙ there.1) c.requires.right
          (λ at below. ap (λ (k : Kept). planned_at k.looks k.rest fresh at) is);
    }

pub returns-then-stay-clause-put : goal.returns-then-stay-clause-put
returns-then-stay-clause-put c =
    let old = c.args.self.now in
    let fresh = c.args.fresh in
    let is = c.old.view_is ∙ c.replace-old.ensures.value in
    let there = c.requires.stay c.if-stay.true in
    put_there c.args.facts.now old c.put_in.result c.old.inside.looks.items c.old.inside.rest.items fresh
    c.args.changed.items (ap (λ (k : Kept). length k.looks) is ∙ there.0)
    (ap (λ (k : Kept). length k.rest) is ∙ there.1)
    (λ at below. ap (λ (k : Kept). planned_at k.looks k.rest fresh at) is)
    (λ at below none. ap (λ (k : Kept). slice_get k.looks at) is)
    c.put_in.ensures

pub put_in-requires-2 : goal.put_in-requires-2
put_in-requires-2 c =
    let old = c.args.self.now in
    let fresh = c.args.fresh in
    let looks = c.in_ok-looks.looks.items in
    let rest = c.in_ok-rest.rest.items in
    record {
      keys = put_different c.args.facts.now old.looks looks old.rest rest fresh c.requires.keys c.in_ok-looks.ensures
          c.in_ok-rest.ensures c.requires.right
          (λ at below. all_fresh old.looks looks old.rest rest fresh at (c.requires.all c.if-stay.false at below));
    }

pub returns-clause-put : goal.returns-clause-put
returns-clause-put c =
    let old = c.args.self.now in
    let fresh = c.args.fresh in
    let looks = c.in_ok-looks.looks.items in
    let rest = c.in_ok-rest.rest.items in
    put_there c.args.facts.now old c.put_in-2.result looks rest fresh c.args.changed.items c.in_ok-looks.ensures
    c.in_ok-rest.ensures
    (λ at below. all_fresh old.looks looks old.rest rest fresh at (c.requires.all c.if-stay.false at below))
    (λ at below none. absurd (none_some (fresh_at fresh at) none (c.requires.all c.if-stay.false at below)))
    c.put_in-2.ensures
