-- All that speaks for a name, found part by part.
use Rattle.std.proofs.Common.{◌≡◌, ◌++◌, ℕ, Bool, List, [], ◌∷◌, map, filter, drop, get_or, length, ◌+◌, ◌<◌, ◌≤◌, append_assoc, sym, ap, ◌∙◌}
use Rattle.std.specs.Str.{bytes_eq}
use Rattle.std.proofs.lemmas.List.{drop_all, drop_more, map-append}
use Rattle.std.proofs.lemmas.List.Elements.{filter-append}
use Rattle.fx_css_types.specs.declared.sheets.SheetAt.{SheetAt}
use Rattle.fx_css_types.specs.declared.sheets.Candidate.{Candidate}
use Rattle.fx_cascade.specs.declared.sources.Source.{Source}
use Rattle.fx_cascade.specs.Sources.{Voice, declarations_of, declared_voices, rule_at, rule_voices, sources_for}

is_for : List ℕ → Voice → Bool
is_for name v = bytes_eq v.name name

pub for-append : (name : List ℕ) (vs ws : List Voice)
    → sources_for name (vs ++ ws) ≡ sources_for name vs ++ sources_for name ws
unfolding is_for
for-append name vs ws =
    ap (map (λ (v : Voice). v.source)) (filter-append (is_for name) vs ws)
    ∙ map-append (λ (v : Voice). v.source) (filter (is_for name) vs) (filter (is_for name) ws)

-- one more voice is heard
pub heard_more : (name : List ℕ) (old new : List Source) (v : Voice) (vs : List Voice)
    → new ≡ old ++ sources_for name (v ∷ [])
    → new ++ sources_for name vs ≡ old ++ sources_for name (v ∷ vs)
heard_more name old new v vs e =
    ap (λ (n : List Source). n ++ sources_for name vs) e
    ∙ append_assoc old (sources_for name (v ∷ [])) (sources_for name vs)
    ∙ ap (λ (rest : List Source). old ++ rest) (sym (for-append name (v ∷ []) vs))

-- one more match is heard
pub match_more : (name : List ℕ) (old new : List Source) (sheets : List SheetAt) (at : ℕ) (matched : List Candidate)
    (c : Candidate) → at < length matched
    → new ≡ old ++ sources_for name (rule_voices at 0 (declarations_of (rule_at sheets (get_or matched at c))))
    → new ++ sources_for name (declared_voices sheets (at + 1) (drop (at + 1) matched))
    ≡ old ++ sources_for name (declared_voices sheets at (drop at matched))
unfolding declared_voices
match_more name old new sheets at matched c within e =
    let here = rule_voices at 0 (declarations_of (rule_at sheets (get_or matched at c))) in
    let rest = declared_voices sheets (at + 1) (drop (at + 1) matched) in
    ap (λ (n : List Source). n ++ sources_for name rest) e
    ∙ append_assoc old (sources_for name here) (sources_for name rest)
    ∙ ap (λ (r : List Source). old ++ r) (sym (for-append name here rest))
    ∙ ap (λ (cs : List Candidate). old ++ sources_for name (declared_voices sheets at cs))
    (sym (drop_more matched at c within))

-- nothing is left behind the last match
pub match_none : (name : List ℕ) (sheets : List SheetAt) (at : ℕ) (matched : List Candidate) → length matched ≤ at
    → sources_for name (declared_voices sheets at (drop at matched)) ≡ []
unfolding declared_voices
match_none name sheets at matched past =
    ap (λ (cs : List Candidate). sources_for name (declared_voices sheets at cs)) (drop_all at matched past)
