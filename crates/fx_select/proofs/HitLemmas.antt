-- One more selector among those that were tried.
use Rattle.std.proofs.Common.{◌≡◌, ℕ, ◌+◌, ◌<◌, List, [], ◌∷◌, ◌++◌, length, get_or, map, take, Option, Some, None, refl, sym, ◌∙◌, ap, append_assoc}
use Rattle.std.specs.List.{filter_map, flat_map}
use Rattle.std.specs.Option.{option_to_list}
use Rattle.std.proofs.lemmas.List.{append-nil, map-append, take_more}
use Rattle.std.proofs.lemmas.List.Concat.{flat_map-append}
use Rattle.std.proofs.lemmas.List.Elements.{filter_map-append}
use Rattle.fx_css_types.specs.declared.sheets.Candidate.{Candidate}
use Rattle.fx_select.specs.declared.lists.SelectorAt.{SelectorAt}
use Rattle.fx_css_types.specs.declared.sheets.SheetAt.{SheetAt}
use Rattle.fx_kinds.specs.declared.facts.StyleFacts.{StyleFacts}
use Rattle.fx_select.specs.Hits.{hit_of, hits_of, keys_of}
use Rattle.fx_select.specs.Keys.{Key, ByClass, ById, ByKind, InRest}
use Rattle.fx_select.specs.Listing.{Listing, bare_of, listed}

pub filter_map-one : {X Y : Type 0} (h : X → Option Y) (x : X) (o : Option Y) → h x ≡ o → filter_map h (x ∷ []) ≡ option_to_list o
filter_map-one h x None is = rw is refl
filter_map-one h x (Some y) is = rw is refl

pub filter_map-more : {X Y : Type 0} (h : X → Option Y) (xs : List X) (i : ℕ) (d : X) (start old new : List Y) (o : Option Y) → i < length xs
    → new ≡ old ++ option_to_list o → o ≡ h (get_or xs i d) → old ≡ start ++ filter_map h (take i xs)
    → new ≡ start ++ filter_map h (take (i + 1) xs)
filter_map-more {X} {Y} h xs i d start old new o within added told before =
    let x : X = get_or xs i d in
    let one : filter_map h (x ∷ []) ≡ option_to_list o = filter_map-one h x o (sym told) in
    let more : filter_map h (take (i + 1) xs) ≡ filter_map h (take i xs) ++ option_to_list o =
    ap (filter_map h) (take_more xs i d within) ∙ filter_map-append h (take i xs) (x ∷ []) ∙ ap (λ (l : List Y). filter_map h (take i xs) ++ l) one in
    added
    ∙ ap (λ (l : List Y). l ++ option_to_list o) before
    ∙ append_assoc start (filter_map h (take i xs)) (option_to_list o)
    ∙ ap (λ (l : List Y). start ++ l) (sym more)

-- the hits under one more class
pub class-more : (h : SelectorAt → Option Candidate) (lists : Key → List SelectorAt) (classes : List (List ℕ)) (i : ℕ) (d : List ℕ)
    (start old new : List Candidate) (part : List SelectorAt) → i < length classes
    → new ≡ old ++ filter_map h part → part ≡ lists (ByClass (get_or classes i d))
    → old ≡ start ++ filter_map h (flat_map lists (map ByClass (take i classes)))
    → new ≡ start ++ filter_map h (flat_map lists (map ByClass (take (i + 1) classes)))
class-more h lists classes i d start old new part within added is before =
    let class : List ℕ = get_or classes i d in
    let so_far : List Key = map ByClass (take i classes) in
    let keys : map ByClass (take (i + 1) classes) ≡ so_far ++ ByClass class ∷ [] =
    ap (map ByClass) (take_more classes i d within) ∙ map-append ByClass (take i classes) (class ∷ []) in
    let all : flat_map lists (map ByClass (take (i + 1) classes)) ≡ flat_map lists so_far ++ part =
    ap (flat_map lists) keys
    ∙ flat_map-append lists so_far (ByClass class ∷ [])
    ∙ ap (λ (l : List SelectorAt). flat_map lists so_far ++ l) (append-nil (lists (ByClass class)) ∙ sym is) in
    added
    ∙ ap (λ (l : List Candidate). l ++ filter_map h part) before
    ∙ append_assoc start (filter_map h (flat_map lists so_far)) (filter_map h part)
    ∙ ap (λ (l : List Candidate). start ++ l) (sym (filter_map-append h (flat_map lists so_far) part) ∙ ap (filter_map h) (sym all))

-- the hits under an id, classes, a type and in the rest
pub joined-hits : (h : SelectorAt → Option Candidate) (lists : Key → List SelectorAt) (id kind : List ℕ) (classes : List (List ℕ))
    (none one two three four : List Candidate) (ids kinds rest : List SelectorAt)
    → none ≡ [] → one ≡ none ++ filter_map h ids → two ≡ one ++ filter_map h (flat_map lists (map ByClass classes))
    → three ≡ two ++ filter_map h kinds → four ≡ three ++ filter_map h rest
    → ids ≡ lists (ById id) → kinds ≡ lists (ByKind kind) → rest ≡ lists InRest
    → four ≡ filter_map h (flat_map lists (ById id ∷ (map ByClass classes ++ ByKind kind ∷ InRest ∷ [])))
joined-hits h lists id kind classes none one two three four ids kinds rest first second third fourth fifth is_ids is_kinds is_rest =
    let named : List SelectorAt = flat_map lists (map ByClass classes) in
    let end : flat_map lists (ByKind kind ∷ InRest ∷ []) ≡ kinds ++ rest =
    ap (λ (l : List SelectorAt). lists (ByKind kind) ++ l) (append-nil (lists InRest))
    ∙ ap (λ (l : List SelectorAt). l ++ lists InRest) (sym is_kinds)
    ∙ ap (λ (l : List SelectorAt). kinds ++ l) (sym is_rest) in
    let all : flat_map lists (ById id ∷ (map ByClass classes ++ ByKind kind ∷ InRest ∷ [])) ≡ ids ++ (named ++ (kinds ++ rest)) =
    ap (λ (l : List SelectorAt). l ++ flat_map lists (map ByClass classes ++ ByKind kind ∷ InRest ∷ [])) (sym is_ids)
    ∙ ap (λ (l : List SelectorAt). ids ++ l)
    (flat_map-append lists (map ByClass classes) (ByKind kind ∷ InRest ∷ []) ∙ ap (λ (l : List SelectorAt). named ++ l) end) in
    let apart : filter_map h (ids ++ (named ++ (kinds ++ rest)))
    ≡ filter_map h ids ++ (filter_map h named ++ (filter_map h kinds ++ filter_map h rest)) =
    filter_map-append h ids (named ++ (kinds ++ rest))
    ∙ ap (λ (l : List Candidate). filter_map h ids ++ l)
    (filter_map-append h named (kinds ++ rest)
    ∙ ap (λ (l : List Candidate). filter_map h named ++ l) (filter_map-append h kinds rest)) in
    let a : List Candidate = filter_map h ids in
    let b : List Candidate = filter_map h named in
    let c : List Candidate = filter_map h kinds in
    let d : List Candidate = filter_map h rest in
    fifth
    ∙ ap (λ (l : List Candidate). l ++ d)
    (fourth ∙ ap (λ (l : List Candidate). l ++ c)
    (third ∙ ap (λ (l : List Candidate). l ++ b) (second ∙ ap (λ (l : List Candidate). l ++ a) first)))
    ∙ append_assoc (a ++ b) c d
    ∙ append_assoc a b (c ++ d)
    ∙ sym apart
    ∙ ap (filter_map h) (sym all)

-- the hits of a node that is known with what is above it
pub hits_of-step : (listing : Listing) (sheets : List SheetAt) (nodes : List StyleFacts) (node : StyleFacts) (above : List StyleFacts)
    → nodes ≡ node ∷ above
    → hits_of listing sheets nodes
    ≡ filter_map (hit_of sheets nodes) (flat_map (listed listing) (keys_of node)) ++ filter_map (hit_of sheets nodes) (bare_of sheets)
unfolding hits_of
hits_of-step listing sheets nodes node above is =
    let named : List SelectorAt = flat_map (listed listing) (keys_of node) in
    ap (hits_of listing sheets) is
    ∙ filter_map-append (hit_of sheets (node ∷ above)) named (bare_of sheets)
    ∙ ap (λ (ns : List StyleFacts). filter_map (hit_of sheets ns) named ++ filter_map (hit_of sheets ns) (bare_of sheets)) (sym is)
