use Rattle.std.proofs.Common.{◌≡◌, ◌++◌, ◌∷◌, [], ◌<◌, ◌+◌, List, get_or, length, set, take, refl, sym, ◌∙◌, ap, arith}
use Rattle.std.proofs.lemmas.List.{get_or-set_other, length-set, take_more}
use Rattle.fx_look.specs.declared.looks.Look.{Look}
use Rattle.fx_style.specs.declared.kept.Fresh.{Fresh}
use Rattle.fx_style.specs.declared.kept.Rest.{Rest}
use Rattle.fx_style.specs.Kept.{put_looks, put_rest, rest_of}
use Rattle.fx_style.proofs.ChangeLemmas.{looks-push}
use Rattle.fx_style.proofs.putting.put_all.Goals as goal

rest-push : (rest : List Rest) (fs : List Fresh) (f : Fresh)
    → set (put_rest rest fs) f.at (rest_of f.entry) ≡ put_rest rest (fs ++ f ∷ [])
rest-push rest [] f = refl
rest-push rest (g ∷ gs) f = rest-push (set rest g.at (rest_of g.entry)) gs f

pub loop-place-preserved : goal.loop-place-preserved
loop-place-preserved c =
    let all = c.args.fresh.now in
    let place = c.loop-place.place in
    let inv = c.loop-place.invariant in
    let read = c.index-fresh-place.result in
    let one = get_or c.loop-place.fresh place read in
    let within : place < length all = omega (arith, c.loop-place-test.true, c.requires) in
    let more : take place all ++ one ∷ [] ≡ take (place + 1) all =
    ap (λ (f : Fresh). take place all ++ f ∷ []) (inv.left place read (omega arith))
    ∙ sym (take_more all place read within) in
    record {
      looks = c.put_one.ensures.looks
          ∙ ap (λ (l : List Look). set l one.at one.entry.style.look) inv.looks
          ∙ looks-push c.args.looks.now (take place all) one
          ∙ ap (put_looks c.args.looks.now) more;
      rest = c.put_one.ensures.rest
          ∙ ap (λ (l : List Rest). set l one.at (rest_of one.entry)) inv.rest
          ∙ rest-push c.args.rest.now (take place all) one
          ∙ ap (put_rest c.args.rest.now) more;
      left = λ k d past.
          get_or-set_other c.loop-place.fresh place k c.put_one.new.one d (λ e. omega (arith, past, e))
          ∙ inv.left k d (omega (arith, past));
      long = length-set c.loop-place.fresh place c.put_one.new.one ∙ inv.long;
    }
