-- What the parts of a property element ask for, one part more at a time.
use Rattle.std.proofs.Common.{◌≡◌, ◌<◌, ◌||◌, ℕ, ◌+◌, Bool, List, ◌++◌, length, get_or, take, vec_len, Vec, Global, refl, sym, ◌∙◌, ap, append_assoc}
use Rattle.std.proofs.lemmas.List.Folds.{list_any-append}
use Rattle.fx_base.specs.declared.facts.Track.{Track as Constraint}
use Rattle.fx_base.specs.declared.positions.Position.{Position}
use Rattle.fx_doc_grammar.specs.Grammar.{Head, Nodes, Nothing, Letters, Node}
use Rattle.fx_doc_grammar.specs.Machine.{is_nothing}
use Rattle.fx_doc.specs.Views.{nodes_of, onto}
use Rattle.fx_doc_runs.specs.declared.document.Content.{Content}
use Rattle.fx_scene_acts.specs.Acts.{is_node_act}
use Rattle.fx_scene_acts.specs.declared.acts.Act.{Act}
use Rattle.fx_scene_elements.specs.Added.{Asked, asked_then, stops}
use Rattle.fx_scene_elements.specs.Held.{held_asked, part_asked}
use Rattle.fx_scene_elements.specs.Lists.{list_asked, next_asked, with_item}
use Rattle.fx_scene_elements.specs.Targets.{Target}
use Rattle.fx_scene_elements.specs.Tracks.{Told, next_told, tracks_told, with_part}
use Rattle.fx_scene_elements.specs.declared.entries.Entry.{Entry}
use Rattle.fx_scene_instances.specs.declared.instances.Want.{Want}
use Rattle.fx_scene_literals.proofs.PartLemmas.{read_more}
use Rattle.fx_scene_things.specs.Names.{Names}
use Rattle.fx_scene_values.specs.Scopes.{Scope}

abbrev Part : Type 0
Part = Nodes → Names → Nodes → Asked

abbrev behind : (Nodes → Asked) → Part → Nodes → Nodes → Asked
behind read part before item = asked_then (read before) (λ known. part before known item)

-- acts that each part makes more
acts_more : (read : Nodes → Asked) (part : Part)
    → ((before : Nodes) (text : List ℕ) (spot : Position)
    → read (Letters before text spot) ≡ behind read part before (Letters Nothing text spot))
    → ((before : Nodes) (head : Head) (inner : Nodes)
    → read (Node before head inner) ≡ behind read part before (Node Nothing head inner))
    → (content : List Content) (i : ℕ) (x : Content) (old now new : List Act) (names : Names) → i < length content
    → x ≡ get_or content i x → now ≡ old ++ (read (nodes_of (take i content))).acts
    → names ≡ (read (nodes_of (take i content))).names
    → new ≡ now ++ (part (nodes_of (take i content)) names (onto x Nothing)).acts
    → new ≡ old ++ (read (nodes_of (take (i + 1) content))).acts
acts_more read part text element content i x old now new names h is so_far known more =
    let before = nodes_of (take i content) in
    let item = onto x Nothing in
    more
    ∙ (ap (λ l. l ++ (part before names item).acts) so_far
    ∙ (append_assoc old (read before).acts (part before names item).acts
    ∙ (ap (λ (n : Names). old ++ ((read before).acts ++ (part before n item).acts)) known
    ∙ ap (λ (a : Asked). old ++ a.acts) (read_more read (behind read part) text element content i x h is))))

names_more : (read : Nodes → Asked) (part : Part)
    → ((before : Nodes) (text : List ℕ) (spot : Position)
    → read (Letters before text spot) ≡ behind read part before (Letters Nothing text spot))
    → ((before : Nodes) (head : Head) (inner : Nodes)
    → read (Node before head inner) ≡ behind read part before (Node Nothing head inner))
    → (content : List Content) (i : ℕ) (x : Content) (names next : Names) → i < length content
    → x ≡ get_or content i x → names ≡ (read (nodes_of (take i content))).names
    → next ≡ (part (nodes_of (take i content)) names (onto x Nothing)).names
    → next ≡ (read (nodes_of (take (i + 1) content))).names
names_more read part text element content i x names next h is known more =
    more
    ∙ (ap (λ (n : Names). (part (nodes_of (take i content)) n (onto x Nothing)).names) known
    ∙ ap (λ (a : Asked). a.names) (read_more read (behind read part) text element content i x h is))

pub held_acts_more : (scope : Scope) (node : ℕ) (name : List ℕ) (target : Target) (first_names : Names)
    (content : List Content) (i : ℕ) (x : Content) (first : Bool) (old now new : List Act) (names : Names)
    → i < length content → x ≡ get_or content i x
    → now ≡ old ++ (held_asked scope node name target first_names (nodes_of (take i content))).acts
    → names ≡ (held_asked scope node name target first_names (nodes_of (take i content))).names
    → first ≡ is_nothing (nodes_of (take i content))
    → new ≡ now ++ (part_asked scope node name target first names (onto x Nothing)).acts
    → new ≡ old ++ (held_asked scope node name target first_names (nodes_of (take (i + 1) content))).acts
unfolding held_asked
held_acts_more scope node name target first_names content i x first old now new names h is so_far known alone more =
    acts_more (held_asked scope node name target first_names)
    (λ before k item. part_asked scope node name target (is_nothing before) k item) (λ before text spot. refl)
    (λ before head inner. refl) content i x old now new names h is so_far known
    (more ∙ ap (λ b. now ++ (part_asked scope node name target b names (onto x Nothing)).acts) alone)

pub held_names_more : (scope : Scope) (node : ℕ) (name : List ℕ) (target : Target) (first_names : Names)
    (content : List Content) (i : ℕ) (x : Content) (first : Bool) (names next : Names) → i < length content
    → x ≡ get_or content i x
    → names ≡ (held_asked scope node name target first_names (nodes_of (take i content))).names
    → first ≡ is_nothing (nodes_of (take i content))
    → next ≡ (part_asked scope node name target first names (onto x Nothing)).names
    → next ≡ (held_asked scope node name target first_names (nodes_of (take (i + 1) content))).names
unfolding held_asked
held_names_more scope node name target first_names content i x first names next h is known alone more =
    names_more (held_asked scope node name target first_names)
    (λ before k item. part_asked scope node name target (is_nothing before) k item) (λ before text spot. refl)
    (λ before head inner. refl) content i x names next h is known
    (more ∙ ap (λ b. (part_asked scope node name target b names (onto x Nothing)).names) alone)

-- whether a node is read before anything behind acts, of which some stand before the others

length_of : (v : Vec Act Global) → vec_len v ≡ length v.items
length_of v = cc

-- lists

pub list_acts_more : (entry : Entry) (scope : Scope) (node : ℕ) (first_names : Names) (content : List Content) (i : ℕ)
    (x : Content) (stopped : Bool) (old now new : List Act) (names : Names) → i < length content
    → x ≡ get_or content i x
    → now ≡ old ++ (list_asked entry scope first_names node (nodes_of (take i content))).acts
    → names ≡ (list_asked entry scope first_names node (nodes_of (take i content))).names
    → stopped ≡ stops (list_asked entry scope first_names node (nodes_of (take i content))).acts
    → new ≡ now ++ (next_asked stopped entry scope names node (onto x Nothing)).acts
    → new ≡ old ++ (list_asked entry scope first_names node (nodes_of (take (i + 1) content))).acts
unfolding list_asked
list_acts_more entry scope node first_names content i x stopped old now new names h is so_far known halted more =
    acts_more (list_asked entry scope first_names node)
    (λ before k item. next_asked (stops (list_asked entry scope first_names node before).acts) entry scope k node item)
    (λ before text spot. refl) (λ before head inner. refl) content i x old now new names h is so_far known
    (more ∙ ap (λ b. now ++ (next_asked b entry scope names node (onto x Nothing)).acts) halted)

pub list_names_more : (entry : Entry) (scope : Scope) (node : ℕ) (first_names : Names) (content : List Content) (i : ℕ)
    (x : Content) (stopped : Bool) (names next : Names) → i < length content → x ≡ get_or content i x
    → names ≡ (list_asked entry scope first_names node (nodes_of (take i content))).names
    → stopped ≡ stops (list_asked entry scope first_names node (nodes_of (take i content))).acts
    → next ≡ (next_asked stopped entry scope names node (onto x Nothing)).names
    → next ≡ (list_asked entry scope first_names node (nodes_of (take (i + 1) content))).names
unfolding list_asked
list_names_more entry scope node first_names content i x stopped names next h is known halted more =
    names_more (list_asked entry scope first_names node)
    (λ before k item. next_asked (stops (list_asked entry scope first_names node before).acts) entry scope k node item)
    (λ before text spot. refl) (λ before head inner. refl) content i x names next h is known
    (more ∙ ap (λ b. (next_asked b entry scope names node (onto x Nothing)).names) halted)

list_more : (entry : Entry) (scope : Scope) (node : ℕ) (first_names : Names) (content : List Content) (i : ℕ)
    (x : Content) → i < length content → x ≡ get_or content i x
    → with_item entry scope node (list_asked entry scope first_names node (nodes_of (take i content))) (onto x Nothing)
    ≡ list_asked entry scope first_names node (nodes_of (take (i + 1) content))
unfolding list_asked
list_more entry scope node first_names content i x h is =
    read_more (list_asked entry scope first_names node)
    (λ before item. with_item entry scope node (list_asked entry scope first_names node before) item)
    (λ before text spot. refl) (λ before head inner. refl) content i x h is

pub list_stops_more : (entry : Entry) (scope : Scope) (node : ℕ) (first_names : Names) (content : List Content) (i : ℕ)
    (x : Content) (stopped next : Bool) (names : Names) → i < length content → x ≡ get_or content i x
    → names ≡ (list_asked entry scope first_names node (nodes_of (take i content))).names
    → stopped ≡ stops (list_asked entry scope first_names node (nodes_of (take i content))).acts
    → next ≡ (stopped || stops (next_asked stopped entry scope names node (onto x Nothing)).acts)
    → next ≡ stops (list_asked entry scope first_names node (nodes_of (take (i + 1) content))).acts
list_stops_more entry scope node first_names content i x stopped next names h is known halted more =
    let so_far = list_asked entry scope first_names node (nodes_of (take i content)) in
    let item = onto x Nothing in
    more
    ∙ (ap (λ b. b || stops (next_asked b entry scope names node item).acts) halted
    ∙ (ap (λ (k : Names). stops so_far.acts || stops (next_asked (stops so_far.acts) entry scope k node item).acts) known
    ∙ (sym (list_any-append is_node_act so_far.acts
    (next_asked (stops so_far.acts) entry scope so_far.names node item).acts)
    ∙ ap (λ (a : Asked). stops a.acts) (list_more entry scope node first_names content i x h is))))

-- constraints of columns and rows

next_part : (scope : Scope) (wanted : Want) (earlier count : ℕ) (t : Told) (stopped : Bool) (names : Names)
    (tracks : List Constraint) (item : Nodes) → names ≡ t.names → tracks ≡ t.tracks → stopped ≡ stops t.acts
    → count ≡ earlier + length tracks
    → next_told stopped scope wanted names count item
    ≡ next_told (stops t.acts) scope wanted t.names (earlier + length t.tracks) item
next_part scope wanted earlier count t stopped names tracks item known given halted counted =
    ap (λ b. next_told b scope wanted names count item) halted
    ∙ (ap (λ n. next_told (stops t.acts) scope wanted names n item)
    (counted ∙ ap (λ (ts : List Constraint). earlier + length ts) given)
    ∙ ap (λ (ns : Names). next_told (stops t.acts) scope wanted ns (earlier + length t.tracks) item) known)

one_more : (scope : Scope) (wanted : Want) (earlier : ℕ) (first_names : Names) (content : List Content) (i : ℕ)
    (x : Content) → i < length content → x ≡ get_or content i x
    → with_part scope wanted earlier (tracks_told scope wanted earlier first_names (nodes_of (take i content))) (onto x Nothing)
    ≡ tracks_told scope wanted earlier first_names (nodes_of (take (i + 1) content))
unfolding tracks_told
one_more scope wanted earlier first_names content i x h is =
    read_more (tracks_told scope wanted earlier first_names)
    (λ before item. with_part scope wanted earlier (tracks_told scope wanted earlier first_names before) item)
    (λ before text spot. refl) (λ before head inner. refl) content i x h is

-- what is told of the parts so far
pub record IsSoFar (t : Told) (earlier count : ℕ) (stopped : Bool) (names : Names) (tracks : List Constraint)
    : Type 0 where
  pub known : names ≡ t.names
  pub given : tracks ≡ t.tracks
  pub halted : stopped ≡ stops t.acts
  pub counted : count ≡ earlier + length tracks

abbrev so_far_of : Scope → Want → ℕ → Names → List Content → ℕ → Told
so_far_of scope wanted earlier names content i = tracks_told scope wanted earlier names (nodes_of (take i content))

next_is : (scope : Scope) (wanted : Want) (earlier count : ℕ) (first_names : Names) (content : List Content)
    (i : ℕ) (x : Content) (stopped : Bool) (tracks : List Constraint) (names : Names)
    → IsSoFar (so_far_of scope wanted earlier first_names content i) earlier count stopped names tracks
    → next_told stopped scope wanted names count (onto x Nothing)
    ≡ next_told (stops (so_far_of scope wanted earlier first_names content i).acts) scope wanted
    (so_far_of scope wanted earlier first_names content i).names
    (earlier + length (so_far_of scope wanted earlier first_names content i).tracks) (onto x Nothing)
next_is scope wanted earlier count first_names content i x stopped tracks names so_far =
    next_part scope wanted earlier count (so_far_of scope wanted earlier first_names content i) stopped names tracks
    (onto x Nothing) so_far.known so_far.given so_far.halted so_far.counted

pub told_acts_more : (scope : Scope) (wanted : Want) (earlier count : ℕ) (first_names : Names) (content : List Content)
    (i : ℕ) (x : Content) (stopped : Bool) (old now new : List Act) (tracks : List Constraint) (names : Names)
    → i < length content → x ≡ get_or content i x
    → now ≡ old ++ (so_far_of scope wanted earlier first_names content i).acts
    → IsSoFar (so_far_of scope wanted earlier first_names content i) earlier count stopped names tracks
    → new ≡ now ++ (next_told stopped scope wanted names count (onto x Nothing)).acts
    → new ≡ old ++ (so_far_of scope wanted earlier first_names content (i + 1)).acts
told_acts_more scope wanted earlier count first_names content i x stopped old now new tracks names h is done so_far more =
    let t = so_far_of scope wanted earlier first_names content i in
    let item = onto x Nothing in
    more
    ∙ (ap (λ l. l ++ (next_told stopped scope wanted names count item).acts) done
    ∙ (append_assoc old t.acts (next_told stopped scope wanted names count item).acts
    ∙ (ap (λ (p : Told). old ++ (t.acts ++ p.acts))
    (next_is scope wanted earlier count first_names content i x stopped tracks names so_far)
    ∙ ap (λ (p : Told). old ++ p.acts) (one_more scope wanted earlier first_names content i x h is))))

pub told_tracks_more : (scope : Scope) (wanted : Want) (earlier count : ℕ) (first_names : Names) (content : List Content)
    (i : ℕ) (x : Content) (stopped : Bool) (tracks next : List Constraint) (names : Names) → i < length content
    → x ≡ get_or content i x
    → IsSoFar (so_far_of scope wanted earlier first_names content i) earlier count stopped names tracks
    → next ≡ tracks ++ (next_told stopped scope wanted names count (onto x Nothing)).tracks
    → next ≡ (so_far_of scope wanted earlier first_names content (i + 1)).tracks
told_tracks_more scope wanted earlier count first_names content i x stopped tracks next names h is so_far more =
    let t = so_far_of scope wanted earlier first_names content i in
    let item = onto x Nothing in
    more
    ∙ (ap (λ (ts : List Constraint). ts ++ (next_told stopped scope wanted names count item).tracks) so_far.given
    ∙ (ap (λ (p : Told). t.tracks ++ p.tracks)
    (next_is scope wanted earlier count first_names content i x stopped tracks names so_far)
    ∙ ap (λ (p : Told). p.tracks) (one_more scope wanted earlier first_names content i x h is)))

pub told_names_more : (scope : Scope) (wanted : Want) (earlier count : ℕ) (first_names : Names) (content : List Content)
    (i : ℕ) (x : Content) (stopped : Bool) (tracks : List Constraint) (names next : Names) → i < length content
    → x ≡ get_or content i x
    → IsSoFar (so_far_of scope wanted earlier first_names content i) earlier count stopped names tracks
    → next ≡ (next_told stopped scope wanted names count (onto x Nothing)).names
    → next ≡ (so_far_of scope wanted earlier first_names content (i + 1)).names
told_names_more scope wanted earlier count first_names content i x stopped tracks names next h is so_far more =
    more
    ∙ (ap (λ (p : Told). p.names)
    (next_is scope wanted earlier count first_names content i x stopped tracks names so_far)
    ∙ ap (λ (p : Told). p.names) (one_more scope wanted earlier first_names content i x h is))

pub told_stops_more : (scope : Scope) (wanted : Want) (earlier count : ℕ) (first_names : Names) (content : List Content)
    (i : ℕ) (x : Content) (stopped next : Bool) (tracks : List Constraint) (names : Names) → i < length content
    → x ≡ get_or content i x
    → IsSoFar (so_far_of scope wanted earlier first_names content i) earlier count stopped names tracks
    → next ≡ (stopped || stops (next_told stopped scope wanted names count (onto x Nothing)).acts)
    → next ≡ stops (so_far_of scope wanted earlier first_names content (i + 1)).acts
told_stops_more scope wanted earlier count first_names content i x stopped next tracks names h is so_far more =
    let t = so_far_of scope wanted earlier first_names content i in
    let item = onto x Nothing in
    more
    ∙ (ap (λ (p : Told). stopped || stops p.acts)
    (next_is scope wanted earlier count first_names content i x stopped tracks names so_far)
    ∙ (ap (λ b. b || stops (next_told (stops t.acts) scope wanted t.names (earlier + length t.tracks) item).acts) so_far.halted
    ∙ (sym (list_any-append is_node_act t.acts
    (next_told (stops t.acts) scope wanted t.names (earlier + length t.tracks) item).acts)
    ∙ ap (λ (p : Told). stops p.acts) (one_more scope wanted earlier first_names content i x h is))))
