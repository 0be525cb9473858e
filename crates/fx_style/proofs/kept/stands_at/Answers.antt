use Rattle.std.proofs.Common.{sym, ◌∙◌}
use Rattle.std.proofs.lemmas.Bool.{false≢true}
use Rattle.fx_style.proofs.KeyLemmas.{key_found, key_is, key_place, key_within}
use Rattle.fx_style.proofs.kept.stands_at.Goals as goal

pub returns-in-Some : goal.returns-in-Some
returns-in-Some c =
    let rest = c.args.rest.now in
    let one = c.in-Some.one.now in
    let there = sym c.in-Some.ensures in (
      λ holds. key_place rest c.args.key c.args.at one c.requires there (sym c.is_key.ensures ∙ holds),
      λ is. c.is_key.ensures ∙ key_is one.key c.args.key (key_found rest c.args.key c.args.at one is there),
    )

pub returns-in-None : goal.returns-in-None
returns-in-None c = (
  λ never. absurd (false≢true never),
  λ is. absurd (key_within c.args.rest.now c.args.key c.args.at is (sym c.in-None.ensures)),
)
