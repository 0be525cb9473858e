-- The first that takes the focus, in two lists one behind the other.
use Rattle.std.proofs.Common.{◌≡◌, Bool, true, false, cond, List, [], ◌∷◌, ◌++◌, Some, refl}
use Rattle.std.specs.List.{find}
use Rattle.std.specs.Option.{option_map}
use Rattle.fx_tree.specs.Scene.{Scene}
use Rattle.fx_picture.specs.declared.entries.Entry.{Entry}
use Rattle.fx_base.specs.Answers.{or_else}
use Rattle.fx_focus.specs.Focus.{first_key, takes_focus}

pub first-append : (scene : Scene) (front behind : List Entry)
    → first_key scene (front ++ behind) ≡ or_else (first_key scene front) (first_key scene behind)
first-append scene [] behind = refl
first-append scene (e ∷ front) behind = go (takes_focus scene e) (first-append scene front behind)
  where
    go : (t : Bool)
        → first_key scene (front ++ behind) ≡ or_else (first_key scene front) (first_key scene behind)
        → option_map (λ (entry : Entry). entry.key) (cond t (Some e) (find (takes_focus scene) (front ++ behind)))
        ≡ or_else (option_map (λ (entry : Entry). entry.key) (cond t (Some e) (find (takes_focus scene) front)))
        (first_key scene behind)
    go true rest = refl
    go false rest = rest
