-- What stays true over all calls: birth numbers rise, and the dead stay dead.
use Rattle.std.proofs.Common.{◌≡◌, ℕ, ◌+◌, ◌≤◌, Bool, true, false, cond, ◌||◌, List, [], ◌∷◌, ◌++◌, length, map, filter, Some, is_some, refl, sym, ◌∙◌, ap, add-one, arith, length-append}
use Rattle.std.specs.Option.{option_map}
use Rattle.std.specs.List.{find, range_with_len}
use Rattle.std.proofs.lemmas.Bool.{or_parts}
use Rattle.fx_base.specs.declared.keys.NodeKey.{NodeKey}
use Rattle.fx_tree.specs.Scene.{Node, Scene, children_of, is_alive, is_same, nothing, with_child, without_child}
use Rattle.fx_tree.specs.History.{LeadsTo, none, made, rooted, attached, detached, dropped, EachBirthOnce, DeadStayDead}
use Rattle.fx_tree.proofs.Given.{range_with_len-suc}
use Rattle.fx_tree.proofs.Keys.{is_same-false}

map-push : {X Y : Type 0} (f : X → Y) (xs : List X) (y : X) → map f (xs ++ y ∷ []) ≡ map f xs ++ f y ∷ []
map-push f [] y = refl
map-push f (x ∷ xs) y = ap (λ (l : List _). f x ∷ l) (map-push f xs y)

born_is : (keys : List NodeKey) (scene : Scene) → LeadsTo nothing keys scene → scene.born ≡ length keys
born_is _ _ none = refl
born_is _ _ (made {keys} {scene} key next before) = omega (arith, next, born_is keys scene before, length-append keys (key ∷ []))
born_is _ _ (rooted {keys} {scene} key before) = born_is keys scene before
born_is _ _ (attached {keys} {scene} parent child place before) = born_is keys scene before
born_is _ _ (detached {keys} {scene} child before) = born_is keys scene before
born_is _ _ (dropped {keys} {scene} key before) = born_is keys scene before

pub each_birth_once : EachBirthOnce
each_birth_once _ _ none = refl
each_birth_once _ _ (made {keys} {scene} key next before) =
    let last : key.birth ≡ 1 + length keys = omega (arith, next, born_is keys scene before) in
    let more : length (keys ++ key ∷ []) ≡ length keys + 1 = omega (arith, length-append keys (key ∷ [])) in
    map-push (λ (k : NodeKey). k.birth) keys key
    ∙ ap (λ (l : List ℕ). l ++ key.birth ∷ []) (each_birth_once keys scene before)
    ∙ ap (λ (n : ℕ). range_with_len 1 (length keys) ++ n ∷ []) last
    ∙ sym (ap (range_with_len 1) (more ∙ add-one (length keys)) ∙ range_with_len-suc 1 (length keys))
each_birth_once _ _ (rooted {keys} {scene} key before) = each_birth_once keys scene before
each_birth_once _ _ (attached {keys} {scene} parent child place before) = each_birth_once keys scene before
each_birth_once _ _ (detached {keys} {scene} child before) = each_birth_once keys scene before
each_birth_once _ _ (dropped {keys} {scene} key before) = each_birth_once keys scene before

born_rises : (first later : Scene) (keys : List NodeKey) → LeadsTo first keys later → first.born ≤ later.born
born_rises _ _ _ none = omega arith
born_rises first _ _ (made {keys} {scene} key next before) = omega (arith, next, born_rises first scene keys before)
born_rises first _ _ (rooted {keys} {scene} key before) = born_rises first scene keys before
born_rises first _ _ (attached {keys} {scene} parent child place before) = born_rises first scene keys before
born_rises first _ _ (detached {keys} {scene} child before) = born_rises first scene keys before
born_rises first _ _ (dropped {keys} {scene} key before) = born_rises first scene keys before

-- who is alive among one node and others
alive-cons : (node : Node) (nodes : List Node) (key : NodeKey) → is_alive (node ∷ nodes) key ≡ (is_same node.key key || is_alive nodes key)
unfolding children_of
alive-cons node nodes key = by_test (is_same node.key key)
  where
    by_test : (b : Bool)
        → is_some (option_map (λ (n : Node). n.children) (cond b (Some node) (find (λ (n : Node). is_same n.key key) nodes)))
        ≡ (b || is_some (option_map (λ (n : Node). n.children) (find (λ (n : Node). is_same n.key key) nodes)))
    by_test true = refl
    by_test false = refl

dead_apart : (node : Node) (nodes : List Node) (key : NodeKey) → is_alive (node ∷ nodes) key ≡ false
    → (is_same node.key key ≡ false) × (is_alive nodes key ≡ false)
dead_apart node nodes key dead = or_parts (is_same node.key key) (is_alive nodes key) (sym (alive-cons node nodes key) ∙ dead)

dead_from : (node : Node) (nodes : List Node) (key : NodeKey) → is_same node.key key ≡ false → is_alive nodes key ≡ false
    → is_alive (node ∷ nodes) key ≡ false
dead_from node nodes key apart dead = alive-cons node nodes key ∙ ap (λ (b : Bool). b || is_alive nodes key) apart ∙ dead

dead_pushed : (nodes : List Node) (node : Node) (key : NodeKey) → is_same node.key key ≡ false → is_alive nodes key ≡ false
    → is_alive (nodes ++ node ∷ []) key ≡ false
dead_pushed [] node key apart dead = dead_from node [] key apart dead
dead_pushed (n ∷ nodes) node key apart dead =
    let parts = dead_apart n nodes key dead in
    dead_from n (nodes ++ node ∷ []) key parts.0 (dead_pushed nodes node key apart parts.1)

dead_mapped : (change : Node → Node) → ((node : Node) → (change node).key ≡ node.key) → (nodes : List Node) (key : NodeKey)
    → is_alive nodes key ≡ false → is_alive (map change nodes) key ≡ false
dead_mapped change same [] key dead = dead
dead_mapped change same (n ∷ nodes) key dead =
    let parts = dead_apart n nodes key dead in
    dead_from (change n) (map change nodes) key (ap (λ (k : NodeKey). is_same k key) (same n) ∙ parts.0)
    (dead_mapped change same nodes key parts.1)

dead_filtered : (test : Node → Bool) (nodes : List Node) (key : NodeKey) → is_alive nodes key ≡ false → is_alive (filter test nodes) key ≡ false
dead_filtered test [] key dead = dead
dead_filtered test (n ∷ nodes) key dead =
    let parts = dead_apart n nodes key dead in
    by_test (test n) parts.0 (dead_filtered test nodes key parts.1)
  where
    by_test : (b : Bool) → is_same n.key key ≡ false → is_alive (filter test nodes) key ≡ false
        → is_alive (cond b (n ∷ filter test nodes) (filter test nodes)) key ≡ false
    by_test true apart rest = dead_from n (filter test nodes) key apart rest
    by_test false apart rest = rest

pub dead_stay_dead : DeadStayDead
dead_stay_dead _ _ _ key none given dead = dead
dead_stay_dead first _ _ key (made {keys} {scene} new next before) given dead =
    let rises = born_rises first scene keys before in
    let apart : is_same new key ≡ false =
    is_same-false new key
    (λ e. let births : new.birth ≡ key.birth = ap (λ (k : NodeKey). k.birth) e in omega (arith, births, next, given, rises)) in
    dead_pushed scene.nodes (record { key = new; children = [] }) key apart (dead_stay_dead first scene keys key before given dead)
dead_stay_dead first _ _ key (rooted {keys} {scene} root before) given dead = dead_stay_dead first scene keys key before given dead
dead_stay_dead first _ _ key (attached {keys} {scene} parent child place before) given dead =
    dead_mapped (with_child parent child place) (λ node. refl) scene.nodes key (dead_stay_dead first scene keys key before given dead)
dead_stay_dead first _ _ key (detached {keys} {scene} child before) given dead =
    dead_mapped (without_child child) (λ node. refl) scene.nodes key (dead_stay_dead first scene keys key before given dead)
dead_stay_dead first _ _ key (dropped {keys} {scene} top before) given dead =
    dead_filtered _ scene.nodes key (dead_stay_dead first scene keys key before given dead)
