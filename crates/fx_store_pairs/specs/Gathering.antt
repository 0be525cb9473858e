-- How a group is gathered: each member that is found adds its partners that are still missing.
use Rattle.std.specs.Prelude.{ℕ, ◌≡◌, nat_eq, IfSome, if◌then◌else◌, List, [], ◌∷◌, ◌++◌}
use Rattle.std.specs.HashSet.{HashSet, contains}
use Rattle.fx_base.specs.Names.{numbers}
use Rattle.fx_store_pairs.specs.Pairs.{is_among}
use Rattle.fx_store_pairs.specs.declared.grouping.Members.{Members}

abbrev pub with_name : ℕ → List ℕ → List ℕ
with_name name names = if is_among names name then names else names ++ name ∷ []

abbrev pub with_names : List ℕ → List ℕ → List ℕ
with_names [] names = names
with_names (name ∷ more) names = with_names more (with_name name names)

-- the set has just these names
abbrev pub HasJust : {S : Type 0} → HashSet ℕ S → List ℕ → Type 0
HasJust set names = (name : ℕ) → contains nat_eq set name ≡ is_among names name

abbrev pub KnowsItsNames : Members → Type 0
KnowsItsNames members = IfSome members.known (λ set. HasJust set (numbers members.names.items))
