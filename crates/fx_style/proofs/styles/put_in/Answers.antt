use Rattle.std.proofs.Common.{◌∙◌, List, ap, subst, sym}
use Rattle.std.proofs.lemmas.List.{with_items_is}
use Rattle.fx_style.specs.declared.kept.Rest.{Rest}
use Rattle.fx_style.specs.Kept.{HaveDifferentKeys, put_rest}
use Rattle.fx_style.proofs.styles.put_in.Goals as goal

pub invariant_of-result : goal.invariant_of-result
invariant_of-result c =
    subst HaveDifferentKeys
    (sym (with_items_is c.args.rest c.put.new.rest (c.put.auto.rest ∙ c.as_mut_slice-2.ensures.len)
    ∙ c.put.ensures.rest
    ∙ ap (λ (rest : List Rest). put_rest rest c.args.fresh) c.as_mut_slice-2.ensures.value))
    c.requires.keys
