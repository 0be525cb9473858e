-- A binding's operands, and a line whose paths aren't all there.
use Rattle.std.proofs.Common.{◌≡◌, ◌∙◌, ℕ, List, [], ◌∷◌, length, map, Vec, Result, Ok, Err, refl, sym, ap, arith, subst, inl}
use Rattle.std.specs.Global.{Global}
use Rattle.std.proofs.lemmas.List.{length-map}
use Rattle.fx_base.specs.declared.keys.Name.{Name}
use Rattle.fx_script_commands.specs.Requests.{Expression}
use Rattle.fx_store_model.specs.declared.changes.Change.TheVariants.{Bind}
use Rattle.fx_stage_types.specs.declared.answers.StageError.TheVariants.{Refused}
use Rattle.fx_stage_types.specs.declared.refusals.Refusal.{Refusal}
use Rattle.fx_stage_model.specs.Answers.{Taken, all, and_then, both, earlier}
use Rattle.fx_stage_model.specs.Looking.{find}
use Rattle.fx_stage_model.specs.Properties.{bound, changed}
use Rattle.fx_stage_model.specs.Taking.{IsTaken}
use Rattle.fx_stage_model.specs.World.{World}
use Rattle.fx_stage.specs.Finding.{names_found}

given : {A : Type 0} (a b : A) → ◌≡◌ {A = Result A Refusal} (Ok a) (Ok b) → a ≡ b
given a b e = cc

-- where all were found there are as many
pub all_as_many : (rs : List (Result Name Refusal)) (names : List Name) → all rs ≡ Ok names → length names ≡ length rs
unfolding all
all_as_many [] names e = ap length (sym (given [] names e))
all_as_many (r ∷ rs) names e = by_first r (all rs) refl (all_as_many rs) e
  where
    by_first : (r : Result Name Refusal) (rest : Result (List Name) Refusal) → all rs ≡ rest
        → ((others : List Name) → all rs ≡ Ok others → length others ≡ length rs)
        → and_then (both r rest) (λ (found : Name × List Name). Ok (found.0 ∷ found.1)) ≡ Ok names
        → length names ≡ length (r ∷ rs)
    by_first (Ok name) (Ok others) is more found =
        let long : length others ≡ length rs = more others is in
        let same : name ∷ others ≡ names = given (name ∷ others) names found in
        omega (arith, long, ap length (sym same))
    by_first (Ok name) (Err word) is more found = absurd (cc)
    by_first (Err word) (Ok others) is more found = absurd (cc)
    by_first (Err word) (Err other) is more found = absurd (cc)

pair_of : (one : Result Name Refusal) (other : Result (Vec Name Global) Refusal) (name : Name) (names : Vec Name Global)
    → both one other ≡ Ok (name, names) → other ≡ Ok names
pair_of (Ok a) (Ok b) name names e = let same : b ≡ names = ap (λ (p : Name × Vec Name Global). p.1) (given (a, b) (name, names) e) in ap Ok same
pair_of (Ok a) (Err word) name names e = absurd (cc)
pair_of (Err word) (Ok b) name names e = absurd (cc)
pair_of (Err word) (Err other) name names e = absurd (cc)

-- the operands of a binding are as many as its paths
pub operands_as_many : (world : World) (paths : List (List (List ℕ))) (one : Result Name Refusal)
    (found : Result (Vec Name Global) Refusal) (name : Name) (names : Vec Name Global)
    → names_found found ≡ all (map (find world) paths) → both one found ≡ Ok (name, names)
    → length names.items ≡ length paths
operands_as_many world paths one found name names is pair =
    all_as_many (map (find world) paths) names.items (sym is ∙ ap names_found (pair_of one found name names pair))
    ∙ length-map paths (find world)

both_views : (one : Result Name Refusal) (found : Result (Vec Name Global) Refusal) (word : Refusal)
    → both one found ≡ Err word → both one (names_found found) ≡ Err word
both_views (Ok a) (Ok b) word e = absurd (cc)
both_views (Ok a) (Err w) word e = let same : w ≡ word = cc in ap Err same
both_views (Err w) (Ok b) word e = let same : w ≡ word = cc in ap Err same
both_views (Err w) (Err v) word e = let same : earlier w v ≡ word = cc in ap Err same

-- a path that isn't there refuses the line
pub bind_refused : (world : World) (path : List (List ℕ)) (expression : Expression) (one : Result Name Refusal)
    (found : Result (Vec Name Global) Refusal) (word : Refusal) → one ≡ find world path
    → names_found found ≡ all (map (find world) expression.paths) → both one found ≡ Err word
    → IsTaken (bound path expression world) world world (Err (Refused word))
unfolding bound
bind_refused world path expression one found word here is refused =
    subst (λ (r : Result Taken Refusal). IsTaken r world world (Err (Refused word)))
    (sym
    (ap
    (λ (r : Result (Name × List Name) Refusal).
    and_then r (λ (found : Name × List Name). changed (Bind found.0 expression.meaning found.1) world))
    (ap (λ (r : Result Name Refusal). both r (all (map (find world) expression.paths))) (sym here)
    ∙ ap (both one) (sym is) ∙ both_views one found word refused)))
    (refl, inl refl)
