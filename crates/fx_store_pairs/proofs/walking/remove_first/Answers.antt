-- the first pair of the two stands at the place, if there is one
use Rattle.std.proofs.Common.{◌<◌, ◌≤◌, List, length, ap, ◌∙◌, arith}
use Rattle.std.specs.List.{position_or_len}
use Rattle.fx_base.specs.declared.keys.Name.{Name}
use Rattle.fx_store_pairs.specs.Pairs.{is_pair, pairs_of}
use Rattle.fx_store_pairs.proofs.Leaving.{first_gone, none_gone}
use Rattle.fx_store_pairs.proofs.walking.remove_first.Goals as goal

pub returns-then-place-len : goal.returns-then-place-len
returns-then-place-len c =
    let pairs : List (Name × Name) = c.args.pairs.now.items in
    let found = c.place_of-place.ensures
    ∙ ap (λ (ps : List (Name × Name)). position_or_len (is_pair c.args.one.0 c.args.other.0) (pairs_of ps))
    c.as_slice.ensures.value in
    let within : c.place_of-place.result < length pairs = omega (arith, ap length c.as_slice.ensures.value) in
    ap pairs_of c.remove.ensures.items
    ∙ first_gone c.args.one.0 c.args.other.0 pairs c.place_of-place.result found within

pub returns-else-place-len : goal.returns-else-place-len
returns-else-place-len c =
    let pairs : List (Name × Name) = c.args.pairs.now.items in
    let found = c.place_of-place.ensures
    ∙ ap (λ (ps : List (Name × Name)). position_or_len (is_pair c.args.one.0 c.args.other.0) (pairs_of ps))
    c.as_slice.ensures.value in
    let past : length pairs ≤ position_or_len (is_pair c.args.one.0 c.args.other.0) (pairs_of pairs) =
    omega (arith, ap length c.as_slice.ensures.value) in
    none_gone c.args.one.0 c.args.other.0 pairs past
