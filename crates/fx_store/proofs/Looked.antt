-- From what was looked at before a change to what has to be read and told after it.
use Rattle.std.proofs.Common.{◌≡◌, ◌↔◌, ℕ, zero, suc, ◌==◌, ◌+◌, ◌<◌, ◌≤◌, ◌⊎◌, All, cond, Bool, true, false, not, ◌||◌, List, [], ◌∷◌, ◌++◌, length, map, filter, get_or, take, AllPairs, Contains, arith, refl, sym, subst, ap, inl, inr, ◌∙◌}
use Rattle.std.specs.List.{flat_map}
use Rattle.std.proofs.lemmas.Bool.{and_from, both_ways, cases_Bool, eq-eqb, eqb-true, or_cases, or_left, or_right}
use Rattle.std.proofs.lemmas.List.Elements.{All-contains, Contains-append_cases, Contains-append_left, Contains-append_right, filter-append}
use Rattle.std.proofs.lemmas.List.{length-set, map-append, take_more}
use Rattle.std.proofs.lemmas.List.Folds.{flat_map-map, list_any-append}
use Rattle.fx_base.specs.declared.keys.Name.{Name}
use Rattle.fx_base.specs.declared.values.Value.{Value}
use Rattle.fx_base.specs.Names.{numbers}
use Rattle.fx_listen.specs.declared.entries.Listener.{Listener}
use Rattle.fx_listen.specs.declared.entries.ListenKind.TheVariants.{Change}
use Rattle.fx_listen.specs.Listening.{IsBefore, same_kind, tells}
use Rattle.fx_listen.specs.Sorting.{IsByName}
use Rattle.fx_expr.specs.Tree.{Tree}
use Rattle.fx_graph_model.specs.declared.entries.Entry.{Entry}
use Rattle.fx_graph_model.specs.declared.entries.Definition.{Definition}
use Rattle.fx_graph_model.specs.declared.entries.Definition.TheVariants.{Base}
use Rattle.fx_graph_model.specs.Changes.{bound_to, changed, with_binding, with_values}
use Rattle.fx_graph_model.specs.Equality.{same_value}
use Rattle.fx_graph_model.specs.Eager.{eager}
use Rattle.fx_graph_model.specs.Refusals.{read_only_in}
use Rattle.fx_graph_model.specs.Unread.{after_marking, evaluations_of, leads_to_any, marked}
use Rattle.fx_graph_model.specs.Uses.{bound_in, entry_of, operands_in, unknown_in}
use Rattle.fx_graph_model.proofs.Changed.{base_definition, known_within, marked-marking}
use Rattle.fx_graph_model.proofs.Given.{Distinct, entry-given, entry-given_other, length-given, targets, unchanged_value}
use Rattle.fx_graph_model.proofs.Kept.{eager-own}
use Rattle.fx_graph_model.proofs.ManyReads.{evaluations_more}
use Rattle.fx_graph_model.proofs.Members.{any_at, cases_contains, contains_cases, contains_first, contains_later, contains_map, filter_contains, map_contains, none_in_nil}
use Rattle.fx_graph_model.proofs.Ranks.{entry-set_other}
use Rattle.fx_graph_model.proofs.Walks.{Walk, any-to, walk_from_leads}
use Rattle.fx_store_model.specs.Step.{changed_notices}
use Rattle.fx_store_pairs.specs.Pairs.{is_end, is_paired, joined}
use Rattle.fx_store_pairs.proofs.Joining.{joined-least}
use Rattle.fx_store.specs.Kept.{AreAllRead, AreOnKnown, ArePaired}
use Rattle.fx_store.specs.Looking.{IsEnough, IsNear, IsWhole}
use Rattle.fx_store.specs.Watching.{heard_on, names_of, notice_to, told_as, watch_list}
use Rattle.fx_store.proofs.Near.{AreHeard, IsChange, near_enough, near_told, on_heard}
use Rattle.fx_store.proofs.Staying.{first_paired, second_paired}
use Rattle.fx_store.proofs.Twins.{IsOwn, all_from, own_within, paired_own}
use Rattle.fx_store.proofs.Watched.{heard_known, watch_list-push, watches_watch}

abbrev hears : Listener → Bool
hears listener = same_kind listener.kind Change

by_name : (listeners : List Listener) → AllPairs IsBefore listeners → IsByName listeners
by_name listeners sorted i j d order within =
    elim (sorted i j d order within) [
      | inl less ↦ omega (arith, less)
      | inr same ↦ omega (arith, same.0)
    ]

-- what was looked at, where the pairs are others and some names more are read
abbrev pub Looks :
    List Entry → List Bool → List (ℕ × ℕ) → List (ℕ × ℕ) → List Listener → List ℕ → List ℕ → List (Name × ℕ) → List Name → Type 0
Looks es flags before now living changing rest heard names =
    IsWhole now living heard names ⊎ IsNear es flags before living changing rest heard names

module _ (es fs : List Entry) (changes changing : List ℕ) (is : IsChange es fs changes changing) (flags : List Bool)
    (before now : List (ℕ × ℕ)) (living : List Listener) (known : AreOnKnown es living) (rest : List ℕ)
    (heard : List (Name × ℕ)) (names : List Name) where
  are_heard : IsNear es flags before living changing rest heard names → AreHeard es flags living
  are_heard near = record {
    ranks = near.ranks;
    long = near.flags;
    sorted = by_name living near.sorted;
    within = λ l c. known_within es l.name.0 (All-contains unknown_at living l known c);
    read = λ l c told.
        near.read l.name.0
        (watches_watch before living l.name.0
        (or_right _ _ (any_at (tells l.name.0 Change) living l c (and_from _ _ (eq-eqb l.name.0 l.name.0 refl) told))));
  }
    where
      unknown_at : Listener → Type 0
      unknown_at l = unknown_in es l.name.0 ≡ false

  pub looked_enough : Looks es flags before now living changing rest heard names → ((name : ℕ) → Contains rest name → Contains (watch_list now living) name)
      → (AreAllRead before living flags → length flags ≡ length es → (name : ℕ) → is_paired now name ≡ true
      → Contains rest name ⊎ (marked (after_marking fs changes flags) name ≡ false))
      → IsEnough (after_marking fs changes flags) (watch_list now living) (numbers names)
  looked_enough (inl whole) watched ends =
      subst (IsEnough (after_marking fs changes flags) (watch_list now living)) (sym whole.watched)
      (record { only = λ n c. c; all = λ n c. inl c })
  looked_enough (inr near) watched ends =
      subst (IsEnough (after_marking fs changes flags) (watch_list now living))
      (sym (near.watched ∙ ap (λ (ls : List (Name × ℕ)). names_of ls ++ rest) near.listening))
      (near_enough es fs changes changing is flags living (are_heard near) now rest watched (ends near.read near.flags))

  pub looked_told : Looks es flags before now living changing rest heard names → flat_map (notice_to es fs) heard ≡ changed_notices es fs living
  looked_told (inl whole) =
      ap (flat_map (notice_to es fs)) whole.listening ∙ flat_map-map (notice_to es fs) told_as (filter hears living)
  looked_told (inr near) =
      ap (flat_map (notice_to es fs)) near.listening ∙ near_told es fs changes changing is flags living (are_heard near)

-- names in pairs

-- a name with a value of its own leads to itself alone
own_leads : (fs : List Entry) (changes : List ℕ) (name : ℕ) → IsOwn fs name → leads_to_any fs changes name ≡ true → Contains changes name
own_leads fs changes name own on =
    let to = any-to fs changes name on in
    let walk = walk_from_leads fs name to.0 to.2 in
    subst (Contains changes) (sym (stays walk.0 walk.1)) to.1
  where
    stays : {to : ℕ} (n : ℕ) → Walk n fs name to → name ≡ to
    stays zero w = w
    stays (suc n) w =
        absurd (none_in_nil w.0 (subst (λ (d : Definition). Contains (operands_in d) w.0) own.has w.1))

-- a name in a pair that is read stays so, unless it is one of the changed
ends_read : (fs : List Entry) (changes rest : List ℕ) (flags : List Bool) (name : ℕ) → IsOwn fs name → name < length flags
    → marked flags name ≡ false → (Contains changes name → Contains rest name)
    → Contains rest name ⊎ (marked (after_marking fs changes flags) name ≡ false)
ends_read fs changes rest flags name own within off among =
    elim (cases_Bool (leads_to_any fs changes name)) [
      | inl on ↦ inl (among (own_leads fs changes name own on))
      | inr free ↦ inr (marked-marking fs changes flags name within ∙ rw (off, free) refl)
    ]

paired_read : (pairs : List (ℕ × ℕ)) (living : List Listener) (flags : List Bool) → AreAllRead pairs living flags → (name : ℕ)
    → is_paired pairs name ≡ true → marked flags name ≡ false
paired_read pairs living flags read name paired = read name (watches_watch pairs living name (or_left _ _ paired))

pub joined_paired : (pairs : List (ℕ × ℕ)) (one other : ℕ) → joined pairs one other ≡ true → is_paired pairs one ≡ is_paired pairs other
joined_paired pairs =
    joined-least (λ (one other : ℕ). is_paired pairs one ≡ is_paired pairs other) pairs
    (record { itself = λ name. refl; turned = λ one other e. sym e; onwards = λ one middle other e f. e ∙ f })
    (λ pair c. first_paired pairs pair c ∙ sym (second_paired pairs pair c))

-- those that are joined, if the name is in a pair
abbrev pub ends_with : List (ℕ × ℕ) → ℕ → List Name → List Name
ends_with pairs name group = cond (is_paired pairs name) group []

module _ (pairs : List (ℕ × ℕ)) (name : ℕ) (group : List Name)
    (members : (other : ℕ) → Contains (numbers group) other ↔ joined pairs name other ≡ true) where
  -- each is in a pair
  pub with_paired : (other : ℕ) → Contains (numbers (ends_with pairs name group)) other → is_paired pairs other ≡ true
  with_paired other c =
      elim (cases_Bool (is_paired pairs name)) [
        | inl on ↦
            let inside : Contains (numbers group) other = subst (λ (b : Bool). Contains (numbers (cond b group [])) other) on c in
            sym (joined_paired pairs name other ((members other).0 inside)) ∙ on
        | inr off ↦ absurd (none_in_nil other (subst (λ (b : Bool). Contains (numbers (cond b group [])) other) off c))
      ]

  -- and whoever is joined and in a pair is among them
  pub paired_with : (other : ℕ) → Contains (numbers group) other → is_paired pairs other ≡ true
      → Contains (numbers (ends_with pairs name group)) other
  paired_with other c paired =
      subst (λ (b : Bool). Contains (numbers (cond b group [])) other)
      (sym (joined_paired pairs name other ((members other).0 c) ∙ paired)) c

-- names that are given values

abbrev differs : List Entry → Name × Value → Bool
differs es word = not (same_value (eager es word.0.0) word.1)

pub changed_target : (words : List (Name × Value)) (es : List Entry) (name : ℕ) → Contains (changed words es) name → Contains (targets words) name
changed_target words es name c =
    let found = map_contains (λ (p : Name × Value). p.0.0) (filter (differs es) words) name c in
    subst (Contains (targets words)) found.2
    (contains_map (λ (p : Name × Value). p.0.0) words found.0 (filter_contains (differs es) words found.0 found.1).0)

pub given_change : (sets : Bool) (words : List (Name × Value)) (es : List Entry) (changing : List ℕ)
    → ((name : ℕ) → Contains (targets words) name → Contains changing name)
    → IsChange es (with_values sets words es) (changed words es) changing
given_change sets words es changing among = record {
  long = length-given sets words es;
  among = λ name c. among name (changed_target words es name c);
  same = λ name out. ap (λ (e : Entry). e.definition) (entry-given_other sets words es name (λ c. out (among name c)));
}

-- published, the names whose value is another one are those that change
pub published_change : (words : List (Name × Value)) (es : List Entry) → Distinct words
    → ((word : Name × Value) → Contains words word → (unknown_in es word.0.0 ≡ false) × (bound_in es word.0.0 ≡ false))
    → IsChange es (with_values false words es) (changed words es) (changed words es)
published_change words es distinct plain = record {
  long = length-given false words es;
  among = λ name c. c;
  same = λ name out.
      elim (cases_contains (targets words) name) [
        | inl member ↦
            let found = map_contains (λ (p : Name × Value). p.0.0) words name member in
            let ok = plain found.0 found.1 in
            let base = base_definition (entry_of es found.0.0.0).definition ok.1 ok.0 in
            let has : eager es found.0.0.0 ≡ found.0.1 =
            unchanged_value words es found.0 found.1 (λ c. out (subst (Contains (changed words es)) found.2 c)) in
            let own : eager es found.0.0.0 ≡ base.0 = eager-own es found.0.0.0 base.0 (known_within es found.0.0.0 ok.0) base.1 in
            subst (λ n. (entry_of (with_values false words es) n).definition ≡ (entry_of es n).definition) found.2
            (ap (λ (e : Entry). e.definition)
            (entry-given false words es distinct (λ p c. known_within es p.0.0 (plain p c).0) found.0 found.1)
            ∙ ap Base (sym has ∙ own) ∙ sym base.1)
        | inr stays ↦ ap (λ (e : Entry). e.definition) (entry-given_other false words es name stays)
      ];
}

-- one word of a list, and one more
pub word_at : (P : Name × Value → Type 0) (words : List (Name × Value)) (i : ℕ) (word : Name × Value) → i < length words
    → word ≡ get_or words i word → All P words → P word
word_at P words i word within here all = subst P (sym here) (all i word within)

pub changed_turn : (words : List (Name × Value)) (i : ℕ) (word : Name × Value) → i < length words → word ≡ get_or words i word
    → (es : List Entry) (before now : List ℕ) → before ≡ changed (take i words) es → now ≡ before ++ changed (word ∷ []) es
    → now ≡ changed (take (i + 1) words) es
changed_turn words i word within here es before now done push =
    push ∙ ap (λ (ns : List ℕ). ns ++ changed (word ∷ []) es) done
    ∙ sym
    (ap (λ (ws : List (Name × Value)). changed ws es)
    (take_more words i word within ∙ ap (λ (w : Name × Value). take i words ++ w ∷ []) (sym here))
    ∙ ap (map (λ (p : Name × Value). p.0.0)) (filter-append (differs es) (take i words) (word ∷ []))
    ∙ map-append (λ (p : Name × Value). p.0.0) (filter (differs es) (take i words)) (filter (differs es) (word ∷ [])))

pub bound_change : (name : ℕ) (expr : Tree) (operands : List ℕ) (es : List Entry)
    → IsChange es (with_binding name expr operands es) (name ∷ []) (name ∷ [])
bound_change name expr operands es = record {
  long = length-set es name (bound_to expr operands (entry_of es name));
  among = λ other c. c;
  same = λ other out.
      ap (λ (e : Entry). e.definition)
      (entry-set_other es name other (bound_to expr operands (entry_of es name))
      (λ e. out (subst (Contains (name ∷ [])) (sym e) (contains_first name []))));
}

-- a name in a pair isn't published
pub not_published : (es : List Entry) (pairs : List (ℕ × ℕ)) → ArePaired es pairs → (words : List (Name × Value))
    → ((word : Name × Value) → Contains words word → read_only_in es word.0.0 ≡ true)
    → (name : ℕ) → is_paired pairs name ≡ true → Contains (changed words es) name → ⊥
not_published es pairs paired words only name e c =
    let word = map_contains (λ (p : Name × Value). p.0.0) words name (changed_target words es name c) in
    both_ways (read_only_in es name) (paired_own es pairs paired name e).free (ap (read_only_in es) (sym word.2) ∙ only word.0 word.1)

-- nor bound
pub not_bound : (pairs : List (ℕ × ℕ)) (name : ℕ) → is_paired pairs name ≡ false → (other : ℕ) → is_paired pairs other ≡ true
    → Contains (name ∷ []) other → ⊥
not_bound pairs name free other paired c =
    elim (contains_cases name [] other c) [
      | inl same ↦ both_ways (is_paired pairs name) free (ap (is_paired pairs) same ∙ paired)
      | inr none ↦ none_in_nil other none
    ]

-- each kind of change: which further names are watched, and which names in pairs are read again

module _ (es fs : List Entry) (flags : List Bool) (pairs : List (ℕ × ℕ)) (living : List Listener) (changes : List ℕ) where
  abbrev Ends : List (ℕ × ℕ) → List ℕ → Type 0
  Ends now rest =
      AreAllRead pairs living flags → length flags ≡ length es → (name : ℕ) → is_paired now name ≡ true
      → Contains rest name ⊎ (marked (after_marking fs changes flags) name ≡ false)

  stays_within : ArePaired es pairs → length flags ≡ length es → (name : ℕ) → is_paired pairs name ≡ true → name < length flags
  stays_within paired long name e =
      let low : name < length es = own_within es name (paired_own es pairs paired name e) in
      omega (arith, low, long)

  -- no name in a pair changed
  pub ends_none : ArePaired es pairs → ArePaired fs pairs → ((name : ℕ) → is_paired pairs name ≡ true → Contains changes name → ⊥)
      → Ends pairs []
  ends_none old paired none read long name e =
      ends_read fs changes [] flags name (paired_own fs pairs paired name e) (stays_within old long name e)
      (paired_read pairs living flags read name e) (λ c. absurd (none name e c))

  -- the changed ones are joined
  pub ends_joined : ArePaired es pairs → ArePaired fs pairs → (name : ℕ) (group : List Name)
      → ((other : ℕ) → Contains (numbers group) other ↔ joined pairs name other ≡ true)
      → ((other : ℕ) → Contains changes other → Contains (numbers group) other)
      → Ends pairs (numbers (ends_with pairs name group))
  ends_joined old paired name group members among read long other e =
      ends_read fs changes (numbers (ends_with pairs name group)) flags other (paired_own fs pairs paired other e)
      (stays_within old long other e) (paired_read pairs living flags read other e)
      (λ c. paired_with pairs name group members other (among other c) e)

  -- and there is a further pair
  pub ends_further : ArePaired es pairs → (one second : ℕ) → ArePaired fs (pairs ++ (one, second) ∷ []) → (group : List Name)
      → ((other : ℕ) → Contains (numbers group) other ↔ joined pairs one other ≡ true)
      → ((other : ℕ) → Contains changes other → Contains (numbers group) other)
      → Ends (pairs ++ (one, second) ∷ []) (numbers (ends_with pairs one group) ++ one ∷ second ∷ [])
  ends_further old one second paired group members among read long other e =
      elim (cases_Bool (is_paired pairs other)) [
        | inl was ↦
            ends_read fs changes (numbers (ends_with pairs one group) ++ one ∷ second ∷ []) flags other
            (paired_own fs (pairs ++ (one, second) ∷ []) paired other e) (stays_within old long other was)
            (paired_read pairs living flags read other was)
            (λ c. Contains-append_left (numbers (ends_with pairs one group)) (one ∷ second ∷ []) other
            (paired_with pairs one group members other (among other c) was))
        | inr new ↦
            inl (Contains-append_right (numbers (ends_with pairs one group)) (one ∷ second ∷ []) other
            (by_end (or_cases (one == other) (second == other) (at_end new))))
      ]
    where
      at_end : is_paired pairs other ≡ false → is_end other (one, second) ≡ true
      at_end new =
          elim (or_cases (is_paired pairs other) (is_end other (one, second) || false)
          (sym (list_any-append (is_end other) pairs ((one, second) ∷ [])) ∙ e)) [
            | inl was ↦ absurd (both_ways _ new was)
            | inr last ↦ elim (or_cases (is_end other (one, second)) false last) [ inl is ↦ is | inr never ↦ absurd (both_ways false refl never) ]
          ]

      by_end : ((one == other) ≡ true) ⊎ ((second == other) ≡ true) → Contains (one ∷ second ∷ []) other
      by_end (inl first) = subst (Contains (one ∷ second ∷ [])) (eqb-true one other first) (contains_first one (second ∷ []))
      by_end (inr last) =
          subst (Contains (one ∷ second ∷ [])) (eqb-true second other last) (contains_later one (second ∷ []) second (contains_first second []))

module _ (pairs : List (ℕ × ℕ)) (living : List Listener) (name : ℕ) (group : List Name)
    (members : (other : ℕ) → Contains (numbers group) other ↔ joined pairs name other ≡ true) where
  pub joined_watched : (other : ℕ) → Contains (numbers (ends_with pairs name group)) other → Contains (watch_list pairs living) other
  joined_watched other c = watches_watch pairs living other (or_left _ _ (with_paired pairs name group members other c))

  pub further_watched : (second other : ℕ) → Contains (numbers (ends_with pairs name group) ++ name ∷ second ∷ []) other
      → Contains (watch_list (pairs ++ (name, second) ∷ []) living) other
  further_watched second other c =
      subst (λ (ns : List ℕ). Contains ns other) (sym (watch_list-push pairs living name second))
      (elim (Contains-append_cases (numbers (ends_with pairs name group)) (name ∷ second ∷ []) other c) [
        | inl first ↦ Contains-append_left (watch_list pairs living) (name ∷ second ∷ []) other (joined_watched other first)
        | inr last ↦ Contains-append_right (watch_list pairs living) (name ∷ second ∷ []) other last
      ])

-- the listeners on names that will be unread

pub near_known : (es : List Entry) (living : List Listener) → AreOnKnown es living → (names : List ℕ) (heard : List (Name × ℕ))
    → heard ≡ heard_on Change names living → All (λ (name : ℕ). unknown_in es name ≡ false) (names_of heard)
near_known es living known names heard listening =
    all_from (λ (name : ℕ). unknown_in es name ≡ false) (names_of heard)
    (λ name c.
    heard_known es living known name
    (on_heard names living name (subst (λ (ls : List (Name × ℕ)). Contains (names_of ls) name) listening c)))

pub near_cost : (es : List Entry) (pairs : List (ℕ × ℕ)) (living : List Listener) (flags : List Bool) (names : List ℕ) (heard : List (Name × ℕ))
    (began spent : ℕ) → heard ≡ heard_on Change names living → spent ≤ began + evaluations_of es (names_of heard) flags
    → spent ≤ began + evaluations_of es (watch_list pairs living) flags
near_cost es pairs living flags names heard began spent listening cost =
    let most : evaluations_of es (names_of heard) flags ≤ evaluations_of es (watch_list pairs living) flags =
    evaluations_more es (names_of heard) (watch_list pairs living) flags
    (λ name c.
    watches_watch pairs living name
    (or_right _ _ (on_heard names living name (subst (λ (ls : List (Name × ℕ)). Contains (names_of ls) name) listening c)))) in
    omega arith
